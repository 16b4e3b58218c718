-- The readers of statements, as functions of the lexemes that are left.
use Rattle.std.specs.Prelude.{ℕ, List, [], ◌∷◌, Option, Some, None}
use Rattle.ll1_grammar.specs.Rule.{Kinds}
use Rattle.ll1_grammar.specs.Readers.{Reader, pure, ◌>>=◌, ◌>>◌, on, on_any}
use Rattle.design_lex.specs.declared.token.Token.{Token}
use Rattle.design_grammar.specs.declared.kind.Kind.{Kind}
use Rattle.design_grammar.specs.declared.kind.Kind.TheVariants.{Semicolon, Colon, Comma, Dot, Equals, OpenParenthesis, CloseParenthesis, OpenBracket, CloseBracket, Request, As, Inst, Chan, Drive, Stage, Buffer, Fifo, Map, Scan, Fork, Join, AsFifo, AsVr}
use Rattle.design_grammar.specs.Kinds.{code, names}
use Rattle.design_grammar.specs.Grammar.{expect, begin, count}
use Rattle.design_grammar.specs.Rules.{designs}
use Rattle.design_grammar.specs.Lists.{items_onto, after_comma}
use Rattle.channel_types.specs.TypeGrammar.{Found}
use Rattle.design_tree.specs.declared.leaves.Name.{Name}
use Rattle.design_tree.specs.declared.leaves.Number.{Number}
use Rattle.design_tree.specs.declared.leaves.ApplicationId.{ApplicationId}
use Rattle.design_tree.specs.declared.leaves.Reference.{Reference}
use Rattle.design_tree.specs.declared.leaves.Reference.TheVariants as R
use Rattle.design_tree.specs.declared.expression.Expression.{Expression}
use Rattle.design_tree.specs.declared.statements.Binding.{Binding}
use Rattle.design_tree.specs.declared.statements.Operation.{Operation}
use Rattle.design_tree.specs.declared.statements.Operation.TheVariants as O
use Rattle.design_tree.specs.declared.statements.Statement.{Statement}
use Rattle.design_tree.specs.declared.statements.Statement.TheVariants as S
use Rattle.design_types.specs.TypeReading.{type_at}
use Rattle.design_expressions.specs.ExpressionReading.{next_name, next_number, expression_at}

-- ---- what statements refer to

-- the number in brackets
unfoldable pub index : Reader Token ℕ
index = do
  expect OpenBracket
  n ← count
  expect CloseBracket
  pure n

unfoldable pub optional_index : Reader Token (Option ℕ)
optional_index = on designs (code OpenBracket) (index >>= λ n. pure (Some n)) (pure None)

unfoldable pub id : Reader Token ApplicationId
id = do
  n ← next_name
  i ← optional_index
  pure (record { name = n; index = i })

-- the name after a dot
unfoldable pub member_name : Reader Token Name
member_name = expect Dot >> next_name

-- what stands after a reference's first name: an index and a member,
unfoldable pub indexed_member : Name → Reader Token Reference
indexed_member n = do
  i ← index
  m ← member_name
  pure (R.Member (record { name = n; index = Some i }) m)

-- a member alone, or nothing
unfoldable pub plain_member : Name → Reader Token Reference
plain_member n = member_name >>= λ m. pure (R.Member (record { name = n; index = None }) m)

unfoldable pub member_or_channel : Name → Reader Token Reference
member_or_channel n = on designs (code OpenBracket) (indexed_member n) (on designs (code Dot) (plain_member n) (pure (R.Channel n)))

unfoldable pub reference : Reader Token Reference
reference = next_name >>= member_or_channel

-- ---- operations

-- a word, and a reference
unfoldable pub operand : Kind → Reader Token Reference
operand word = expect word >> reference

-- a word, a number and a reference
unfoldable pub sized_operand : Kind → Reader Token (Number × Reference)
sized_operand word = do
  expect word
  n ← next_number
  r ← reference
  pure (n, r)

unfoldable pub join : Reader Token Operation
join = do
  expect Join
  left ← reference
  expect Comma
  right ← reference
  pure (O.Join left right)

-- `inner` reads a type, and `formula` an expression
module _ (inner : Reader Token Found) (formula : Reader Token Expression) where
  unfoldable pub map : Reader Token Operation
  map = do
    expect Map
    source ← reference
    expect OpenParenthesis
    variable ← next_name
    expect CloseParenthesis
    body ← formula
    pure (O.Map source variable body)

  unfoldable pub scan : Reader Token Operation
  scan = do
    expect Scan
    source ← reference
    expect OpenParenthesis
    state ← next_name
    expect Colon
    ty ← inner
    expect Equals
    initial ← next_number
    expect Comma
    variable ← next_name
    expect CloseParenthesis
    body ← formula
    pure (O.Scan source state ty.0 initial variable body)

  -- what has more than a number and a reference
  unfoldable pub wide_operation : Reader Token Operation
  wide_operation = on designs (code Join) join (on designs (code Map) map scan)

  -- what has a number and a reference
  unfoldable pub sized_operation : Reader Token Operation
  sized_operation =
      on designs (code Buffer) (sized_operand Buffer >>= λ x. pure (O.Buffer x.0 x.1))
      (on designs (code Fifo) (sized_operand Fifo >>= λ x. pure (O.Fifo x.0 x.1)) wide_operation)

  unfoldable pub operation : Reader Token Operation
  operation =
      on designs (code Stage) (operand Stage >>= λ r. pure (O.Stage r))
      (on designs (code Fork) (operand Fork >>= λ r. pure (O.Fork r))
      (on designs (code AsFifo) (operand AsFifo >>= λ r. pure (O.AsFifo r))
      (on designs (code AsVr) (operand AsVr >>= λ r. pure (O.AsVr r)) sized_operation)))

-- ---- statements

-- the kinds with which a statement begins
abbrev pub statement_starts : Kinds
statement_starts = code Request ∷ code Inst ∷ code Chan ∷ code Drive ∷ []

unfoldable pub request : Reader Token Statement
request = do
  at ← begin Request
  service ← next_name
  expect Dot
  port ← next_name
  expect As
  i ← id
  expect Semicolon
  pure (S.Request at service port i)

unfoldable pub binding : Reader Token Binding
binding = do
  port ← next_name
  expect Colon
  source ← reference
  pure (record { port = port; source = source })

-- the first and all those after commas
abbrev pub more_bindings : Binding → Reader Token (List Binding)
more_bindings b = items_onto (code Comma ∷ []) (after_comma binding) (b ∷ [])

unfoldable pub listed_bindings : Reader Token (List Binding)
listed_bindings = binding >>= more_bindings

unfoldable pub bindings : Reader Token (List Binding)
bindings = on_any designs names listed_bindings (pure [])

unfoldable pub instance : Reader Token Statement
instance = do
  at ← begin Inst
  i ← id
  expect Equals
  m ← next_name
  expect OpenParenthesis
  bs ← bindings
  expect CloseParenthesis
  expect Semicolon
  pure (S.Instance at i m bs)

-- the first channel's name and all those after commas
abbrev pub more_names : Name → Reader Token (List Name)
more_names n = items_onto (code Comma ∷ []) (after_comma next_name) (n ∷ [])

unfoldable pub drive : Reader Token Statement
drive = do
  at ← begin Drive
  sink ← reference
  expect Equals
  source ← reference
  expect Semicolon
  pure (S.Drive at sink source)

module _ (inner : Reader Token Found) (formula : Reader Token Expression) where
  unfoldable pub channels : Reader Token Statement
  channels = do
    at ← begin Chan
    n ← next_name
    ns ← more_names n
    expect Equals
    o ← operation inner formula
    expect Semicolon
    pure (S.Channels at ns o)

  unfoldable pub statement : Reader Token Statement
  statement = on designs (code Request) request (on designs (code Inst) instance (on designs (code Chan) channels drive))

-- with so many types and expressions inside one another at most
abbrev pub statement_at : ℕ → ℕ → Reader Token Statement
statement_at types expressions = statement (type_at types) (expression_at expressions)
