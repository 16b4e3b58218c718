-- The words and the signs of the design text that have kinds of their own, as tables.
use Rattle.std.specs.Prelude.{ℕ, List, [], ◌∷◌, codes, ◌==◌, if◌then◌else◌}
use Rattle.std.specs.Str.{bytes_eq}
use Rattle.design_grammar.specs.declared.kind.Kind.{Kind}
use Rattle.design_grammar.specs.declared.kind.Kind.TheVariants.{Nothing, Name, Semicolon, Colon, Comma, Dot, Equals, OpenBrace, CloseBrace, OpenParenthesis, CloseParenthesis, Less, Greater, OpenBracket, CloseBracket, Esi, Pipe, Stages, Bundle, Service, Module, Top, ToHw, FromHw, Port, In, Out, Request, As, Implement, Inst, Chan, Drive, Stage, Buffer, Fifo, Map, Scan, Fork, Join, AsFifo, AsVr, Void, Struct, Array, Union, Lit, Make, Cast, Zext, Slice, Not, And, Or, Xor, Add, Sub, Eq, Lt, Cat, Mux}

-- the keywords, and behind them the operators of expressions
abbrev pub keywords : List (List ℕ × Kind)
keywords =
    (codes "esi", Esi)
    ∷ (codes "pipe", Pipe)
    ∷ (codes "stages", Stages)
    ∷ (codes "bundle", Bundle)
    ∷ (codes "service", Service)
    ∷ (codes "module", Module)
    ∷ (codes "top", Top)
    ∷ (codes "to_hw", ToHw)
    ∷ (codes "from_hw", FromHw)
    ∷ (codes "port", Port)
    ∷ (codes "in", In)
    ∷ (codes "out", Out)
    ∷ (codes "request", Request)
    ∷ (codes "as", As)
    ∷ (codes "implement", Implement)
    ∷ (codes "inst", Inst)
    ∷ (codes "chan", Chan)
    ∷ (codes "drive", Drive)
    ∷ (codes "stage", Stage)
    ∷ (codes "buffer", Buffer)
    ∷ (codes "fifo", Fifo)
    ∷ (codes "map", Map)
    ∷ (codes "scan", Scan)
    ∷ (codes "fork", Fork)
    ∷ (codes "join", Join)
    ∷ (codes "as_fifo", AsFifo)
    ∷ (codes "as_vr", AsVr)
    ∷ (codes "void", Void)
    ∷ (codes "struct", Struct)
    ∷ (codes "array", Array)
    ∷ (codes "union", Union)
    ∷ (codes "lit", Lit)
    ∷ (codes "make", Make)
    ∷ (codes "cast", Cast)
    ∷ (codes "zext", Zext)
    ∷ (codes "slice", Slice)
    ∷ (codes "not", Not)
    ∷ (codes "and", And)
    ∷ (codes "or", Or)
    ∷ (codes "xor", Xor)
    ∷ (codes "add", Add)
    ∷ (codes "sub", Sub)
    ∷ (codes "eq", Eq)
    ∷ (codes "lt", Lt)
    ∷ (codes "cat", Cat)
    ∷ (codes "mux", Mux)
    ∷ []

-- the kind of a word by a table: a word that is not in it is a name
abbrev pub kind_of_word : List (List ℕ × Kind) → List ℕ → Kind
kind_of_word [] word = Name
kind_of_word (k ∷ ks) word = if bytes_eq word k.0 then k.1 else kind_of_word ks word

-- the signs, by their octets
abbrev pub signs : List (ℕ × Kind)
signs =
    (59, Semicolon)
    ∷ (58, Colon)
    ∷ (44, Comma)
    ∷ (46, Dot)
    ∷ (61, Equals)
    ∷ (123, OpenBrace)
    ∷ (125, CloseBrace)
    ∷ (40, OpenParenthesis)
    ∷ (41, CloseParenthesis)
    ∷ (60, Less)
    ∷ (62, Greater)
    ∷ (91, OpenBracket)
    ∷ (93, CloseBracket)
    ∷ []

-- the kind of an octet by a table: one that is not in it is no sign
abbrev pub kind_of_sign : List (ℕ × Kind) → ℕ → Kind
kind_of_sign [] b = Nothing
kind_of_sign (s ∷ ss) b = if b == s.0 then s.1 else kind_of_sign ss b
