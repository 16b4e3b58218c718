-- The names under which declarations are found.
use Rattle.std.specs.Prelude.{ℕ, List, Option, None, slice_get, nat_lt, if◌then◌else◌}
use Rattle.design_tree.specs.declared.leaves.Name.{Name}
use Rattle.design_tree.specs.declared.declarations.Member.{Member}
use Rattle.design_tree.specs.declared.declarations.Bundle.{Bundle}
use Rattle.design_tree.specs.declared.declarations.ServicePort.{ServicePort}
use Rattle.design_tree.specs.declared.declarations.Service.{Service}
use Rattle.design_tree.specs.declared.declarations.ModulePort.{ModulePort}
use Rattle.design_tree.specs.declared.declarations.Module.{Module}
use Rattle.name_tables.specs.Labels.{Label}
use Rattle.check_rules.specs.References.{named}

abbrev pub name_label : Name → Label
name_label n = (named n).label

abbrev pub member_label : Member → Label
member_label m = (named m.name).label

abbrev pub bundle_label : Bundle → Label
bundle_label b = (named b.name).label

abbrev pub service_port_label : ServicePort → Label
service_port_label p = (named p.name).label

abbrev pub service_label : Service → Label
service_label s = (named s.name).label

abbrev pub port_label : ModulePort → Label
port_label p = (named p.name).label

abbrev pub module_label : Module → Label
module_label m = (named m.name).label

-- what stands at an index that is less than a bound
abbrev pub get_below : {A : Type 0} → ℕ → List A → ℕ → Option A
get_below bound xs k = if nat_lt k bound then slice_get xs k else None
