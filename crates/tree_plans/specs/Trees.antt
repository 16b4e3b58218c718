-- The plans of a design and the parts that stand for its elements, of its tree.
use Rattle.std.specs.Prelude.{List, [], map}
use Rattle.name_tables.specs.Labels.{Label}
use Rattle.design_tree.specs.declared.design.DesignTree.{DesignTree}
use Rattle.design_tree.specs.declared.design.DesignTree.TheVariants as F
use Rattle.check_rules.specs.Scopes.{Scope, scopes, modules_of}
use Rattle.design_scopes.specs.Tables.{module_label}
use Rattle.design_plans.specs.DesignLaws.{planned}
use Rattle.element_parts.specs.declared.design_parts.DesignParts.{DesignParts}
use Rattle.element_parts.specs.Listing.{parts_of}
use Rattle.tree_plans.specs.declared.planned_design.PlannedDesign.{PlannedDesign}

-- the bodies of a design; a pipe has none
abbrev pub bodies_of_tree : DesignTree → List Scope
bodies_of_tree (F.Pipe p) = []
bodies_of_tree (F.Modules declarations top) = scopes declarations top

-- the names of its modules
abbrev pub module_names : DesignTree → List Label
module_names (F.Pipe p) = []
module_names (F.Modules declarations top) = map module_label (modules_of declarations)

-- bodies whose modules have these names, over these parts
abbrev pub planned_with : List Label → List Scope → DesignParts → PlannedDesign
planned_with names bodies found = record { plans = planned names found.ordered bodies; parts = found.parts }

abbrev pub planned_bodies : List Label → List Scope → PlannedDesign
planned_bodies names bodies = planned_with names bodies (parts_of bodies)

-- The plans of the bodies, each over its elements in element order, with the table of the parts that stand for them.
abbrev pub planned_tree : DesignTree → PlannedDesign
planned_tree tree = planned_bodies (module_names tree) (bodies_of_tree tree)
