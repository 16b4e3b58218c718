-- Elements of a body that depend on themselves.
use Rattle.std.specs.Prelude.{◌≡◌, ℕ, false, Some, List, [], ◌∷◌, slice_get}
use Rattle.design_tree.specs.declared.statements.Statement.{Statement}
use Rattle.name_tables.specs.Labels.{Label}
use Rattle.name_tables.specs.Lists.{stands}
use Rattle.element_order.specs.Laws.{Depends}
use Rattle.check_rules.specs.References.{statement_place}
use Rattle.check_rules.specs.Dependencies.{needs}
use Rattle.body_order.specs.Makers.{first_needs, channel_labels, instance_labels}

-- One of the elements depends on itself, and its statement stands at the place.
pub record BreaksCycle (elements : List Statement) (at : ℕ) : Type 0 where
  pub element : Statement
  pub number : ℕ
  pub numbered : slice_get elements number ≡ Some element
  pub itself : Depends (first_needs elements) number number
  pub stands : statement_place element ≡ at

-- no two of the names are one
abbrev pub AreApart : List Label → Type 0
AreApart [] = Unit {0}
AreApart (label ∷ labels) = (stands label labels ≡ false) × AreApart labels

-- The elements make no channel twice, and no two instances have one application id.
pub record AreOnce (elements : List Statement) : Type 0 where
  pub channels : AreApart (channel_labels elements)
  pub instances : AreApart (instance_labels elements)

-- Where names are declared once, what an element needs are all elements that make its sources.
abbrev pub EachNeeds : Type 0
EachNeeds = (elements : List Statement) → AreOnce elements → needs elements ≡ first_needs elements
