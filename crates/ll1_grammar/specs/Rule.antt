-- Grammars as data: rules over kinds of tokens, and what a grammar knows of its tokens.
use Rattle.std.specs.Prelude.{ℕ, List}
use Rattle.ll1_grammar.specs.Lexemes.{Lexeme}

-- kinds of tokens, as numbers
abbrev pub Kinds : Type 0
Kinds = List ℕ

-- `one` is a token of one of the kinds, `star` any number of turns, `call` the rule of that number, and
-- `checked` a rule whose trees the check of that number may refuse
pub data Rule : Type 0 where
  empty : Rule
  one : Kinds → Rule
  seq : Rule → Rule → Rule
  alt : Rule → Rule → Rule
  star : Rule → Rule
  call : ℕ → Rule
  checked : ℕ → Rule → Rule

infixr 60 ◌⟫◌
-- one rule behind the other
abbrev pub ◌⟫◌ : Rule → Rule → Rule
r ⟫ s = seq r s

-- the trees of texts, a constructor for each way to build one
pub data Tree (T : Type 0) : Type 0 where
  nothing : Tree T
  leaf : Lexeme T → Tree T
  pair : Tree T → Tree T → Tree T
  left : Tree T → Tree T
  right : Tree T → Tree T
  last : Tree T
  turn : Tree T → Tree T → Tree T
  node : Tree T → Tree T
  held : Tree T → Tree T

pub record Grammar (T : Type 0) : Type 0 where
  pub kind : T → ℕ
  -- the token that a reader sees at the end of a text; its kind stands in no rule, and so that of a faulty token
  pub at_end : T
  -- a token of each kind
  pub sample : ℕ → Lexeme T
  -- the rules that may be called
  pub calls : Kinds
  pub body : ℕ → Rule
  -- the kinds with which a text of a called rule may begin
  pub first_set : ℕ → Kinds
  -- the kinds with which a text of a called rule may go on behind another of its texts, and behind this one
  pub follow_set : ℕ → Kinds
  pub follow_of : ℕ → Tree T → Kinds
  -- the number of a refusal, by the kinds that may stand there and the token that does
  pub refusal : Kinds → T → ℕ
  -- the number of a refusal where a called rule is nested too deep
  pub limit : ℕ → ℕ
