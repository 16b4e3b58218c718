-- All types and misfits of the rules are found along an order in which all elements stand.
use Rattle.std.specs.Prelude.{◌≡◌, ℕ, ◌<◌, true, List, length, Some, Contains}
use Rattle.channel_types.specs.declared.esi_type.EsiType.{EsiType}
use Rattle.design_tree.specs.declared.leaves.Reference.{Reference}
use Rattle.design_tree.specs.declared.statements.Statement.{Statement}
use Rattle.element_order.specs.Orders.{among}
use Rattle.element_order.specs.Laws.{IsSorted}
use Rattle.check_rules.specs.Scopes.{Scope}
use Rattle.check_rules.specs.Dependencies.{elements_of}
use Rattle.body_order.specs.Cycles.{AreOnce}
use Rattle.body_order.specs.Makers.{first_needs}
use Rattle.channel_typing.specs.Rules.{HasType}
use Rattle.channel_typing.specs.Misfits.{type_in_body, scope_misfits, order_of}
use Rattle.channel_typing.specs.BodyLaws.{IsMisfitIn}

-- Each element stands in the order, once, and after all that it needs.
pub record IsWhole (elements : List Statement) (order : List ℕ) : Type 0 where
  pub sorted : IsSorted (first_needs elements) order
  pub all : (k : ℕ) → k < length elements → among k order ≡ true

-- In a body whose elements make no channel twice, each type that the rules give is found along such an order.
abbrev pub EachTypeListed : Type 0
EachTypeListed = (scope : Scope) (order : List ℕ) → AreOnce (elements_of scope.statements) → IsWhole (elements_of scope.statements) order
    → (r : Reference) (ty : EsiType) → HasType scope r ty → type_in_body scope (elements_of scope.statements) order r ≡ Some ty

-- There each place at which a statement of the body does not fit by the rules is listed, where all elements have their place.
abbrev pub EachMisfitListed : Type 0
EachMisfitListed = (scope : Scope) → AreOnce (elements_of scope.statements) → IsWhole (elements_of scope.statements) (order_of scope)
    → (at : ℕ) → IsMisfitIn scope at → Contains (scope_misfits scope) at
