-- The readers of expressions, as functions of the lexemes that are left.
use Rattle.std.specs.Prelude.{ℕ, zero, suc, List, [], ◌∷◌, Err, if◌then◌else◌}
use Rattle.ll1_grammar.specs.Rule.{Kinds}
use Rattle.ll1_grammar.specs.Lexemes.{first_place}
use Rattle.ll1_grammar.specs.Kinds.{among, first_kind}
use Rattle.ll1_grammar.specs.Readers.{Reader, refuse, pure, ◌>>=◌, ◌>>◌, take_any_token, on, on_any}
use Rattle.design_lex.specs.declared.token.Token.{Token}
use Rattle.design_grammar.specs.declared.kind.Kind.{Kind}
use Rattle.design_grammar.specs.declared.kind.Kind.TheVariants as K
use Rattle.design_grammar.specs.Kinds.{code, names, binaries}
use Rattle.design_grammar.specs.Grammar.{token_grammar, Named, expect, name, operator, number}
use Rattle.design_grammar.specs.declared.rule.GrammarRule.TheVariants.{TooManyOpenExpressions}
use Rattle.design_grammar.specs.RuleNumbers.{rule_number}
use Rattle.design_grammar.specs.Rules.{designs}
use Rattle.design_grammar.specs.Lists.{items_onto, after_comma}
use Rattle.channel_types.specs.declared.limits.TheConstants.{OPEN_TYPES}
use Rattle.design_types.specs.TypeReading.{type_at}
use Rattle.design_tree.specs.declared.leaves.Name.{Name}
use Rattle.design_tree.specs.declared.leaves.Number.{Number}
use Rattle.design_tree.specs.declared.operators.Binary.{Binary}
use Rattle.design_tree.specs.declared.expression.Suffix.{Suffix}
use Rattle.design_tree.specs.declared.expression.Suffix.TheVariants as X
use Rattle.design_tree.specs.declared.expression.Expression.{Expression}
use Rattle.design_tree.specs.declared.expression.Expression.TheVariants as V
use Rattle.design_expressions.specs.declared.shapes.Shape.{Shape}
use Rattle.design_expressions.specs.declared.shapes.Shape.TheVariants.{Literal, Make, Cast, Zext, Slice, Not, Two, Mux}
use Rattle.design_expressions.specs.ExpressionValues.{name_from, number_from, variable, binary_word_in, with_suffixes}

unfoldable pub next_name : Reader Token Name
next_name = name >>= λ word. pure (name_from word)

unfoldable pub next_number : Reader Token Number
next_number = number >>= λ n. pure (number_from n)

-- a name that is no operator, as a variable
unfoldable pub plain : Reader Token Expression
plain = operator K.Name >>= λ word. pure (variable word)

-- an operator of two operands, and its word; refusals are reported as where only `Name` may stand
abbrev pub binary_word : Reader Token (Binary × Named)
binary_word = take_any_token token_grammar (code K.Name ∷ []) binaries binary_word_in

-- ---- suffixes

unfoldable pub field : Reader Token Suffix
field = do
  expect K.Dot
  n ← next_name
  pure (X.Field n)

unfoldable pub element : Reader Token Suffix
element = do
  expect K.OpenBracket
  index ← next_number
  expect K.CloseBracket
  pure (X.Element index)

abbrev pub suffix_starts : Kinds
suffix_starts = code K.Dot ∷ code K.OpenBracket ∷ []

unfoldable pub suffix : Reader Token Suffix
suffix = on designs (code K.Dot) field element

-- all suffixes
abbrev pub suffixes : Reader Token (List Suffix)
suffixes = items_onto suffix_starts suffix []

-- ---- operators

-- what stands between parentheses, and these
unfoldable pub in_parentheses : Reader Token Expression → Reader Token Expression
in_parentheses within = do
  expect K.OpenParenthesis
  found ← within
  expect K.CloseParenthesis
  pure found

-- what stands between the parentheses of `lit`; the offset is that of the word
unfoldable pub literal : ℕ → Reader Token Expression
literal at = do
  ty ← type_at OPEN_TYPES
  expect K.Comma
  value ← next_number
  pure (V.Literal at ty.0 value)

-- `inner` reads the expressions that stand in an expression
module _ (inner : Reader Token Expression) where
  -- all parts, each after a comma
  abbrev pub parts : Reader Token (List Expression)
  parts = items_onto (code K.Comma ∷ []) (after_comma inner) []

  unfoldable pub make : ℕ → Reader Token Expression
  make at = do
    ty ← type_at OPEN_TYPES
    all ← parts
    pure (V.Make at ty.0 all)

  unfoldable pub cast : ℕ → Reader Token Expression
  cast at = do
    ty ← type_at OPEN_TYPES
    expect K.Comma
    of ← inner
    pure (V.Cast at ty.0 of)

  unfoldable pub zext : ℕ → Reader Token Expression
  zext at = do
    width ← next_number
    expect K.Comma
    of ← inner
    pure (V.Zext at width of)

  unfoldable pub slice : ℕ → Reader Token Expression
  slice at = do
    high ← next_number
    expect K.Comma
    low ← next_number
    expect K.Comma
    of ← inner
    pure (V.Slice at high low of)

  unfoldable pub not : ℕ → Reader Token Expression
  not at = inner >>= λ of. pure (V.Not at of)

  unfoldable pub pair : Reader Token (Expression × Expression)
  pair = do
    left ← inner
    expect K.Comma
    right ← inner
    pure (left, right)

  unfoldable pub two : Binary → ℕ → Reader Token Expression
  two operator at = pair >>= λ both. pure (V.Binary at operator both.0 both.1)

  unfoldable pub mux : ℕ → Reader Token Expression
  mux at = do
    condition ← inner
    expect K.Comma
    both ← pair
    pure (V.Mux at condition both.0 both.1)

  unfoldable pub inside : Shape → ℕ → Reader Token Expression
  inside Literal = literal
  inside Make = make
  inside Cast = cast
  inside Zext = zext
  inside Slice = slice
  inside Not = not
  inside (Two operator) = two operator
  inside Mux = mux

  -- the word of an operator: with operands after it the operator, else a variable
  unfoldable pub application : Shape → Named → Reader Token Expression
  application shape word = on designs (code K.OpenParenthesis) (in_parentheses (inside shape word.1)) (pure (variable word))

  unfoldable pub operation : Kind → Shape → Reader Token Expression
  operation kind shape = operator kind >>= application shape

  unfoldable pub binary : Reader Token Expression
  binary = binary_word >>= λ word. application (Two word.0) word.1

  -- an expression without its suffixes that is no name, `lit`, `make` or `cast`
  unfoldable pub of_bits : Reader Token Expression
  of_bits =
      on designs (code K.Zext) (operation K.Zext Zext) (on designs (code K.Slice) (operation K.Slice Slice)
      (on designs (code K.Not) (operation K.Not Not) (on_any designs binaries binary (operation K.Mux Mux))))

  -- an expression without its suffixes
  unfoldable pub base : Reader Token Expression
  base =
      on designs (code K.Name) plain (on designs (code K.Lit) (operation K.Lit Literal)
      (on designs (code K.Make) (operation K.Make Make) (on designs (code K.Cast) (operation K.Cast Cast) of_bits)))

  -- an expression and its suffixes
  unfoldable pub level : Reader Token Expression
  level = do
    found ← base
    all ← suffixes
    pure (with_suffixes found all)

-- where no further expression may be open: an expression that begins there breaks the limit
unfoldable pub too_deep : Reader Token Expression
too_deep ts = if among names (first_kind designs ts) then Err (record { number = rule_number TooManyOpenExpressions; at = first_place ts }) else refuse designs (code K.Name ∷ []) ts

-- an expression, with at most that many inside one another
unfoldable pub expression_at : ℕ → Reader Token Expression
expression_at zero = too_deep
expression_at (suc levels) = level (expression_at levels)
