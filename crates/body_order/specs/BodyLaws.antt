-- What is found in each body is what the rules say of the design.
use Rattle.std.specs.Prelude.{◌≡◌, ℕ, ◌↔◌, List, Contains, flat_map}
use Rattle.name_tables.specs.FirstPlaces.{Nowhere}
use Rattle.design_tree.specs.declared.declarations.Declaration.{Declaration}
use Rattle.element_order.specs.Orders.{ordered}
use Rattle.check_rules.specs.Scopes.{Scope}
use Rattle.check_rules.specs.DeclaredTwice.{BreaksDeclaredTwice}
use Rattle.check_rules.specs.Dependencies.{elements_of, BreaksDependencies}
use Rattle.check_rules.specs.Signalling.{wrong_signalling, in_order}
use Rattle.body_order.specs.Makers.{first_needs}
use Rattle.body_order.specs.Cycles.{BreaksCycle, AreOnce}
use Rattle.body_order.specs.Signals.{wrong_signals}

-- Where no name is declared twice, the elements of each body make no channel twice, and no two instances have one id.
abbrev pub EachOnce : Type 0
EachOnce = (declarations : List Declaration) (bodies : List Scope) → Nowhere (BreaksDeclaredTwice declarations bodies) → (body : Scope) → Contains bodies body → AreOnce (elements_of body.statements)

-- in one of the bodies an element depends on itself, at the place
pub record BreaksInOne (bodies : List Scope) (at : ℕ) : Type 0 where
  pub body : Scope
  pub one : Contains bodies body
  pub breaks : BreaksCycle (elements_of body.statements) at

abbrev pub EachCycle : Type 0
EachCycle = (bodies : List Scope) → ((body : Scope) → Contains bodies body → AreOnce (elements_of body.statements)) → (at : ℕ) → BreaksDependencies bodies at ↔ BreaksInOne bodies at

-- what is taken with the wrong signalling in a body, in its order
abbrev pub EachSignal : Type 0
EachSignal = (body : Scope) → AreOnce (elements_of body.statements)
    → flat_map (wrong_signalling body) (in_order body) ≡ wrong_signals (elements_of body.statements) (ordered (first_needs (elements_of body.statements))) body.statements
