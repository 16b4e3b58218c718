-- The table of drives as a plain value.
use Rattle.std.specs.Prelude.{List}
use Rattle.design_tree.specs.declared.leaves.Reference.{Reference}
use Rattle.name_tables.specs.Labels.{Label}
use Rattle.body_plans.specs.Plans.{Drives}

abbrev pub drives_in : List Label → List Reference → Drives
drives_in sinks sources = record { sinks = sinks; sources = sources }
