use Rattle.std.proofs.Common.{◌≡◌, ◌++◌, map, take, drop}
use Rattle.name_tables.specs.Keys.{label_of}
use Rattle.body_order.specs.Makers.{referred, instance_labels, instance_makers}
use Rattle.body_order.proofs.elements.made_instances.Given as goal

abbrev pub invariant-loop-number : goal.invariant-loop-number
invariant-loop-number l = record { names : map label_of l.names ≡ instance_labels (referred (take l.number l.elements)); makers : l.makers.items ++ instance_makers l.number (referred (drop l.number l.elements)) ≡ instance_makers 0 (referred l.elements) }
