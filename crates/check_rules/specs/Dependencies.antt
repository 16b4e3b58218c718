-- Statements that depend on themselves.
use Rattle.std.specs.Prelude.{◌≡◌, ℕ, ◌+◌, Bool, true, false, Some, List, [], ◌∷◌, ◌++◌, map, flat_map, filter, slice_get, Contains, if◌then◌else◌}
use Rattle.design_tree.specs.declared.leaves.Reference.{Reference}
use Rattle.design_tree.specs.declared.leaves.Reference.TheVariants as R
use Rattle.design_tree.specs.declared.statements.Statement.{Statement}
use Rattle.design_tree.specs.declared.statements.Statement.TheVariants as S
use Rattle.check_rules.specs.Scopes.{Scope, is_id}
use Rattle.check_rules.specs.References.{is_among, sources_of, statement_place}
use Rattle.element_order.specs.Laws.{Depends}

-- what makes channels of others: an instance is one element, whose outputs depend on all its inputs
abbrev pub is_element : Statement → Bool
is_element (S.Request at service port id) = false
is_element (S.Instance at id body bindings) = true
is_element (S.Channels at names operation) = true
is_element (S.Drive at sink source) = false

-- the elements of a body, in the order of the text
abbrev pub elements_of : List Statement → List Statement
elements_of = filter is_element

-- whether the reference is to something that the element makes
abbrev pub makes : Reference → Statement → Bool
makes (R.Channel name) (S.Channels at names operation) = is_among name names
makes (R.Member id name) (S.Instance at own body bindings) = is_id id own
makes reference other = false

-- the places of the elements, from `i` on, that make it
abbrev pub makers : Reference → ℕ → List Statement → List ℕ
makers r i [] = []
makers r i (element ∷ rest) = (if makes r element then i ∷ [] else []) ++ makers r (i + 1) rest

-- for each element, the places of those that make its sources
abbrev pub needs : List Statement → List (List ℕ)
needs elements = map (λ element. flat_map (λ r. makers r 0 elements) (sources_of element)) elements

-- An element of a body depends on itself, and its statement stands at the place.
pub record BreaksDependencies (scopes : List Scope) (at : ℕ) : Type 0 where
  pub scope : Scope
  pub one : Contains scopes scope
  pub element : Statement
  pub number : ℕ
  pub numbered : slice_get (elements_of scope.statements) number ≡ Some element
  pub itself : Depends (needs (elements_of scope.statements)) number number
  pub stands : statement_place element ≡ at
