-- The values of the trees of statements (the grammar of the design text: `Rules` of design_grammar).
use Rattle.std.specs.Prelude.{ℕ, List, [], ◌∷◌, Some, None}
use Rattle.ll1_grammar.specs.Rule.{Tree}
use Rattle.ll1_grammar.specs.Kinds.{first, second}
use Rattle.ll1_grammar.specs.Bridge.{leaf_by, either, items}
use Rattle.design_lex.specs.declared.token.Token.{Token}
use Rattle.design_grammar.specs.Grammar.{number_in}
use Rattle.design_grammar.specs.Rules.{designs}
use Rattle.channel_types.specs.TypeGrammar.{Found}
use Rattle.design_tree.specs.declared.leaves.Name.{Name}
use Rattle.design_tree.specs.declared.leaves.ApplicationId.{ApplicationId}
use Rattle.design_tree.specs.declared.leaves.Reference.{Reference}
use Rattle.design_tree.specs.declared.leaves.Reference.TheVariants as R
use Rattle.design_tree.specs.declared.expression.Expression.{Expression}
use Rattle.design_tree.specs.declared.statements.Binding.{Binding}
use Rattle.design_tree.specs.declared.statements.Operation.{Operation}
use Rattle.design_tree.specs.declared.statements.Operation.TheVariants as O
use Rattle.design_tree.specs.declared.statements.Statement.{Statement}
use Rattle.design_tree.specs.declared.statements.Statement.TheVariants as S
use Rattle.design_expressions.specs.ExpressionValues.{name_in, number_at}

-- ---- leaves

-- the offset of a token's first octet
abbrev pub begin_in : Tree Token → ℕ
begin_in t = leaf_by designs (λ x. x.0.0) t

-- ---- what statements refer to

-- the number in brackets
abbrev pub index_in : Tree Token → ℕ
index_in t = leaf_by designs (λ x. number_in x.1) (first (second t))

abbrev pub id_in : Tree Token → ApplicationId
id_in t = record { name = name_in (first t); index = either (λ i. Some (index_in i)) (λ e. None) (second t) }

-- the name after a dot
abbrev pub member_name_in : Tree Token → Name
member_name_in t = name_in (second t)

-- by the first name, and what stands after it
abbrev pub reference_from : Name → Tree Token → Reference
reference_from n =
    either (λ t. R.Member (record { name = n; index = Some (index_in (first t)) }) (member_name_in (second t)))
    (either (λ t. R.Member (record { name = n; index = None }) (member_name_in t)) (λ t. R.Channel n))

abbrev pub reference_in : Tree Token → Reference
reference_in t = reference_from (name_in (first t)) (second t)

-- ---- operations; `type_value` is the value of a type's tree, and `expression_value` that of an expression's

-- the two references of `join`, after the word
abbrev pub join_in : Tree Token → Operation
join_in t = O.Join (reference_in (first t)) (reference_in (second (second t)))

module _ (type_value : Tree Token → Found) (expression_value : Tree Token → Expression) where
  -- after `map`: the source, the variable in parentheses, and the body
  abbrev pub map_in : Tree Token → Operation
  map_in t = O.Map (reference_in (first t)) (name_in (first (second (second t)))) (expression_value (second (second (second (second t)))))

  -- in the parentheses of `scan`, and after them: the state with its type and its first value, the variable, and the body
  abbrev pub scan_from : Reference → Tree Token → Operation
  scan_from source t =
      let typed : Tree Token = second (second t) in
      let valued : Tree Token = second (second typed) in
      let variable : Tree Token = second (second valued) in
      O.Scan source (name_in (first t)) (type_value (first typed)).0 (number_at (first valued)) (name_in (first variable)) (expression_value (second (second variable)))

  abbrev pub scan_in : Tree Token → Operation
  scan_in t = scan_from (reference_in (first t)) (second (second t))

  abbrev pub operation_in : Tree Token → Operation
  operation_in =
      either (λ t. O.Stage (reference_in (second t)))
      (either (λ t. O.Fork (reference_in (second t)))
      (either (λ t. O.AsFifo (reference_in (second t)))
      (either (λ t. O.AsVr (reference_in (second t)))
      (either (λ t. O.Buffer (number_at (first (second t))) (reference_in (second (second t))))
      (either (λ t. O.Fifo (number_at (first (second t))) (reference_in (second (second t))))
      (either (λ t. join_in (second t)) (either (λ t. map_in (second t)) (λ t. scan_in (second t)))))))))

-- ---- statements

-- after `request`, whose first octet is there: a service's port, and the application id
abbrev pub request_in : ℕ → Tree Token → Statement
request_in at t = S.Request at (name_in (first t)) (name_in (first (second (second t)))) (id_in (first (second (second (second (second t))))))

-- a port of the module, and what it is bound to
abbrev pub binding_in : Tree Token → Binding
binding_in t = record { port = name_in (first t); source = reference_in (second (second t)) }

-- one or more, after commas
abbrev pub listed_bindings_in : Tree Token → List Binding
listed_bindings_in t = binding_in (first t) ∷ items (λ w. binding_in (second w)) (second t)

abbrev pub bindings_in : Tree Token → List Binding
bindings_in = either listed_bindings_in (λ t. [])

-- after `inst`: the application id, the module, and the bindings in parentheses
abbrev pub instance_in : ℕ → Tree Token → Statement
instance_in at t =
    let named : Tree Token = second (second t) in
    S.Instance at (id_in (first t)) (name_in (first named)) (bindings_in (first (second (second named))))

-- after `drive`: what is driven, and by what
abbrev pub drive_in : ℕ → Tree Token → Statement
drive_in at t = S.Drive at (reference_in (first t)) (reference_in (first (second (second t))))

module _ (type_value : Tree Token → Found) (expression_value : Tree Token → Expression) where
  -- after `chan`: the names, and what makes the channels
  abbrev pub channels_in : ℕ → Tree Token → Statement
  channels_in at t =
      S.Channels at (name_in (first t) ∷ items (λ w. name_in (second w)) (first (second t))) (operation_in type_value expression_value (first (second (second (second t)))))

  abbrev pub statement_in : Tree Token → Statement
  statement_in =
      either (λ t. request_in (begin_in (first t)) (second t))
      (either (λ t. instance_in (begin_in (first t)) (second t))
      (either (λ t. channels_in (begin_in (first t)) (second t)) (λ t. drive_in (begin_in (first t)) (second t))))
