-- What every grammar of design texts knows of its tokens, and the readers of one token.
use Rattle.std.specs.Prelude.{◌≡◌, ℕ, ◌==◌, List, [], ◌∷◌, codes, ◌^◌, Result, if◌then◌else◌}
use Rattle.ll1_grammar.specs.Rule.{Grammar}
use Rattle.ll1_grammar.specs.Simple.{simple}
use Rattle.ll1_grammar.specs.declared.refusal.TokenRefusal.{TokenRefusal}
use Rattle.ll1_grammar.specs.Readers.{Read, Reader, take_token, take_any_token}
use Rattle.esi_base.specs.Answers.{ReadsAs, IfRefused}
use Rattle.design_grammar.specs.RuleNumbers.{IsTokenRule}
use Rattle.design_lex.specs.Tokens.{Lexeme, first_begin}
use Rattle.design_lex.specs.declared.token.Token.{Token}
use Rattle.design_lex.specs.declared.token.Token.TheVariants.{Word, TypeWord as WidthWord, Number, Sign, Faulty, End}
use Rattle.design_lex.specs.declared.token.LexicalRule.TheVariants.{UnknownOctet}
use Rattle.design_lex.specs.declared.token.Class.{Class}
use Rattle.design_lex.specs.declared.token.Class.TheVariants.{Unsigned}
use Rattle.design_grammar.specs.declared.kind.Kind.{Kind}
use Rattle.design_grammar.specs.declared.kind.Kind.TheVariants.{Nothing, Name, TypeWord, One, Small, Great}
use Rattle.esi_base.specs.declared.stop.Stop.{Stop}
use Rattle.design_grammar.specs.Keywords.{keywords, signs}
use Rattle.design_grammar.specs.Kinds.{code, kind_of, names, numbers, counts, refusal}

-- a word of each kind, by a table: a keyword or an operator by its kind, else a name
abbrev pub word_of : List (List ℕ × Kind) → ℕ → List ℕ
word_of [] k = codes "a"
word_of (entry ∷ others) k = if k == code entry.1 then entry.0 else word_of others k

-- a sign of each kind, by a table, else a word
abbrev pub sign_of : List (ℕ × Kind) → ℕ → Token
sign_of [] k = Word (word_of keywords k)
sign_of (entry ∷ others) k = if k == code entry.1 then Sign entry.0 else sign_of others k

-- a token of each kind
abbrev pub sample_of : ℕ → Token
sample_of k =
    if k == code Nothing then Faulty UnknownOctet
    else (if k == code TypeWord then WidthWord Unsigned 8
    else (if k == code One then Number 1
    else (if k == code Small then Number 0
    else (if k == code Great then Number (2 ^ 32)
    else sign_of signs k))))

-- the number of a token's kind
abbrev pub kind_code : Token → ℕ
kind_code t = code (kind_of t)

abbrev pub sample : ℕ → Lexeme
sample k = ((0, 0), sample_of k)

-- what every grammar of design texts knows of its tokens
abbrev pub token_grammar : Grammar Token
token_grammar = simple kind_code End sample refusal

-- what a token is worth, by total functions
abbrev pub word_in : Token → List ℕ
word_in (Word word) = word
word_in t = []

abbrev pub number_in : Token → ℕ
number_in (Number n) = n
number_in t = 0

abbrev pub width_in : Token → Class × ℕ
width_in (WidthWord class width) = (class, width)
width_in t = (Unsigned, 0)

-- one token of a kind: the offset behind it
abbrev pub expect : Kind → Reader Token ℕ
expect wanted = take_token token_grammar (code wanted ∷ []) (code wanted) (λ x. x.0.1)

-- one token of a kind: the offset of its first octet
abbrev pub begin : Kind → Reader Token ℕ
begin wanted = take_token token_grammar (code wanted ∷ []) (code wanted) (λ x. x.0.0)

-- what a name's lexeme is worth: its octets, and the offset of the first one
abbrev pub Named : Type 0
Named = List ℕ × ℕ

abbrev pub named_in : Lexeme → Named
named_in x = (word_in x.1, x.0.0)

-- a name; refusals are reported as where only `Name` may stand
abbrev pub name : Reader Token Named
name = take_any_token token_grammar (code Name ∷ []) names named_in

-- an operator of one kind, as a name; refusals are reported as where only `Name` may stand
abbrev pub operator : Kind → Reader Token Named
operator wanted = take_token token_grammar (code Name ∷ []) (code wanted) named_in

-- a count, a number below 2^32; refusals are reported as where only `Small` may stand
abbrev pub count : Reader Token ℕ
count = take_any_token token_grammar (code Small ∷ []) counts (λ x. number_in x.1)

-- any number: its value, and the offset of its first octet; refusals are reported as where only `Great` may stand
abbrev pub number : Reader Token (ℕ × ℕ)
number = take_any_token token_grammar (code Great ∷ []) numbers (λ x. (number_in x.1, x.0.0))

-- a type word: its class and width, and the offset behind it
abbrev pub type_word : Reader Token ((Class × ℕ) × ℕ)
type_word = take_token token_grammar (code TypeWord ∷ []) (code TypeWord) (λ x. (width_in x.1, x.0.1))

-- the code answers as the reader does, and leaves what the reader leaves
abbrev pub AnswersAt : {A : Type 0} → Read Token A → Result A (Stop TokenRefusal) → List Lexeme → Type 0
AnswersAt read result new = ReadsAs (λ value. value) read result new

-- Where the code is refused by a rule of tokens or of the grammar, the cursor stands at the token at which the refusal
-- is reported: that token was not passed.
abbrev pub StandsAt : {A : Type 0} → Result A (Stop TokenRefusal) → List Lexeme → Type 0
StandsAt result new = IfRefused result (λ refusal. IsTokenRule refusal.number → refusal.at ≡ first_begin new)
