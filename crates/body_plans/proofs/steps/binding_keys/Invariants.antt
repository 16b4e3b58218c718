use Rattle.std.proofs.Common.{◌≡◌, map, take}
use Rattle.name_tables.specs.Keys.{label_of}
use Rattle.body_plans.specs.Plans.{binding_label}
use Rattle.body_plans.proofs.steps.binding_keys.Given as goal

abbrev pub invariant-loop-binding : goal.invariant-loop-binding
invariant-loop-binding l = map label_of l.keys ≡ map binding_label (take l.binding-index l.bindings)
