-- The plans and the parts of a design that breaks no rule.
use Rattle.std.specs.Prelude.{ℕ, List, Contains}
use Rattle.design_tree.specs.declared.design.DesignTree.{DesignTree}
use Rattle.netlist.specs.declared.part.Part.{Part}
use Rattle.check_rules.specs.Scopes.{Scope}
use Rattle.check_rules.specs.Checks.{Accepts, checks}
use Rattle.channel_typing.specs.Misfits.{misfits}
use Rattle.flat_design.specs.FlatLaws.{ArePlans}
use Rattle.element_parts.specs.Listing.{parts_of}
use Rattle.element_parts.specs.Standing.{IsPartOf}
use Rattle.once_laws.specs.Accepted.{given_count}
use Rattle.tree_plans.specs.Trees.{bodies_of_tree, module_names, planned_tree}

-- How many channels body number k of a design is given: its `in` ports and its endpoints to the server, and none where it has
-- more endpoints of a side than a top may have.
abbrev pub takes_of : DesignTree → ℕ → ℕ
takes_of tree = given_count (module_names tree) (parts_of (bodies_of_tree tree)).ordered (bodies_of_tree tree)

-- Each part stands for an operation of one of the bodies; the formula of a map or a scan is worth what its expression means.
abbrev pub AllStand : List Scope → List Part → Type 0
AllStand bodies parts = (part : Part) → Contains parts part → IsPartOf bodies part

-- The plans of a design that breaks no rule are good.
abbrev pub EachIsGood : Type 0
EachIsGood = (tree : DesignTree) → Accepts (checks misfits tree) → ArePlans (planned_tree tree).plans.plans (takes_of tree)

-- Each part of its table stands for one of its operations.
abbrev pub EachPartIsKnown : Type 0
EachPartIsKnown = (tree : DesignTree) → Accepts (checks misfits tree) → AllStand (bodies_of_tree tree) (planned_tree tree).parts
