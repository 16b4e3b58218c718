-- The kinds of tokens that the grammar of the design text tells apart, and the refusal of a token that is not wanted.
use Rattle.std.specs.Prelude.{ℕ, Bool, ◌==◌, ◌||◌, ◌&&◌, ◌^◌, not, nat_lt, nat_le, List, [], ◌∷◌, if◌then◌else◌}
use Rattle.std.specs.List.{list_all}
use Rattle.ll1_grammar.specs.Rule.{Kinds}
use Rattle.ll1_grammar.specs.Kinds.{among}
use Rattle.design_lex.specs.declared.token.Token.{Token}
use Rattle.design_lex.specs.declared.token.Token.TheVariants.{Word, TypeWord as WidthWord, Number, Sign, Faulty, End}
use Rattle.design_lex.specs.RuleNumbers.{rule_number as lexical_number}
use Rattle.design_grammar.specs.Keywords.{keywords, kind_of_word, signs, kind_of_sign}
use Rattle.design_grammar.specs.declared.rule.GrammarRule.{GrammarRule}
use Rattle.design_grammar.specs.declared.rule.GrammarRule.TheVariants.{GreatCount, UnexpectedToken, EarlyEnd, ReservedWord, UnknownVersion}
use Rattle.design_grammar.specs.RuleNumbers.{rule_number}
use Rattle.design_grammar.specs.declared.kind.Kind.{Kind}
use Rattle.design_grammar.specs.declared.kind.Kind.TheVariants.{Nothing, Name, TypeWord, One, Small, Great, Semicolon, Colon, Comma, Dot, Equals, OpenBrace, CloseBrace, OpenParenthesis, CloseParenthesis, Less, Greater, OpenBracket, CloseBracket, Esi, Pipe, Stages, Bundle, Service, Module, Top, ToHw, FromHw, Port, In, Out, Request, As, Implement, Inst, Chan, Drive, Stage, Buffer, Fifo, Map, Scan, Fork, Join, AsFifo, AsVr, Void, Struct, Array, Union, Lit, Make, Cast, Zext, Slice, Not, And, Or, Xor, Add, Sub, Eq, Lt, Cat, Mux}

-- the number of a kind, 0 for what is no token of the grammar
abbrev pub code : Kind → ℕ
code Nothing = 0
code Name = 1
code TypeWord = 2
code One = 3
code Small = 4
code Great = 5
code Semicolon = 6
code Colon = 7
code Comma = 8
code Dot = 9
code Equals = 10
code OpenBrace = 11
code CloseBrace = 12
code OpenParenthesis = 13
code CloseParenthesis = 14
code Less = 15
code Greater = 16
code OpenBracket = 17
code CloseBracket = 18
code Esi = 19
code Pipe = 20
code Stages = 21
code Bundle = 22
code Service = 23
code Module = 24
code Top = 25
code ToHw = 26
code FromHw = 27
code Port = 28
code In = 29
code Out = 30
code Request = 31
code As = 32
code Implement = 33
code Inst = 34
code Chan = 35
code Drive = 36
code Stage = 37
code Buffer = 38
code Fifo = 39
code Map = 40
code Scan = 41
code Fork = 42
code Join = 43
code AsFifo = 44
code AsVr = 45
code Void = 46
code Struct = 47
code Array = 48
code Union = 49
code Lit = 50
code Make = 51
code Cast = 52
code Zext = 53
code Slice = 54
code Not = 55
code And = 56
code Or = 57
code Xor = 58
code Add = 59
code Sub = 60
code Eq = 61
code Lt = 62
code Cat = 63
code Mux = 64

-- the kind of a word: each keyword has its own, and so has each operator; every other word is a plain name
unfoldable pub word_kind : List ℕ → Kind
word_kind word = kind_of_word keywords word

-- the word of a kind by a table: none of a kind that is not in it
abbrev pub word_in : List (List ℕ × Kind) → ℕ → List ℕ
word_in [] k = []
word_in (entry ∷ others) k = if k == code entry.1 then entry.0 else word_in others k

-- the word with which a keyword or an operator is written
abbrev pub keyword : Kind → List ℕ
keyword kind = word_in keywords (code kind)

-- the kind of a sign
abbrev pub sign_kind : ℕ → Kind
sign_kind b = kind_of_sign signs b

-- the kind of a number: the version is 1, and counts are below 2^32
abbrev pub number_kind : ℕ → Kind
number_kind n = if n == 1 then One else (if nat_lt n (2 ^ 32) then Small else Great)

-- the kind of a token
abbrev pub kind_of : Token → Kind
kind_of (Word word) = word_kind word
kind_of (WidthWord class width) = TypeWord
kind_of (Number n) = number_kind n
kind_of (Sign b) = sign_kind b
kind_of (Faulty fault) = Nothing
kind_of End = Nothing

-- a keyword or a type word, by its number
abbrev pub is_reserved : ℕ → Bool
is_reserved k = k == code TypeWord || (nat_le (code Esi) k && nat_le k (code Union))

-- the kinds of numbers
abbrev pub numbers : Kinds
numbers = code One ∷ code Small ∷ code Great ∷ []

-- the kinds of counts
abbrev pub counts : Kinds
counts = code One ∷ code Small ∷ []

-- the operators of two operands
abbrev pub binaries : Kinds
binaries = code And ∷ code Or ∷ code Xor ∷ code Add ∷ code Sub ∷ code Eq ∷ code Lt ∷ code Cat ∷ []

-- the kinds of names: operators are not reserved
abbrev pub names : Kinds
names = code Name ∷ code Lit ∷ code Make ∷ code Cast ∷ code Zext ∷ code Slice ∷ code Not ∷ code And ∷ code Or ∷ code Xor ∷ code Add ∷ code Sub ∷ code Eq ∷ code Lt ∷ code Cat ∷ code Mux ∷ []

-- only a name may stand there; the kinds above that of `union` are operators, and those that are no kind's say nothing
abbrev pub are_names : Kinds → Bool
are_names wanted = among wanted (code Name) && list_all (λ k. k == code Name || nat_lt (code Union) k) wanted

-- The rule that a token breaks where only these kinds may stand: a keyword or a type word where only a name may stand,
-- another number where only the version 1 may, a number above 2^32 - 1 where only a count may, and all else.
unfoldable pub unwanted : Kinds → ℕ → GrammarRule
unwanted wanted k =
    if are_names wanted && is_reserved k then ReservedWord
    else (if among wanted (code One) && not (among wanted (code Small)) && among numbers k then UnknownVersion
    else (if among wanted (code Small) && not (among wanted (code Great)) && k == code Great then GreatCount
    else UnexpectedToken))

-- the number of the refusal where only these kinds may stand: of the end, of a faulty token, and of any other
abbrev pub refusal : Kinds → Token → ℕ
refusal wanted End = rule_number EarlyEnd
refusal wanted (Faulty rule) = lexical_number rule
refusal wanted found = rule_number (unwanted wanted (code (kind_of found)))
