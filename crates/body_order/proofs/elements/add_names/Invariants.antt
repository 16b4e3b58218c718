use Rattle.std.proofs.Common.{◌≡◌, ◌++◌, map, take}
use Rattle.std.specs.Prelude.{replicate}
use Rattle.name_tables.specs.Keys.{label_of}
use Rattle.body_order.specs.Makers.{name_label}
use Rattle.body_order.proofs.elements.add_names.Given as goal

abbrev pub invariant-loop-channel : goal.invariant-loop-channel
invariant-loop-channel l = record { names : map label_of l.names ≡ map label_of l.fn.names ++ map name_label (take l.channel-index l.channels); makers : l.makers.items ≡ l.fn.makers.items ++ replicate l.channel-index l.number }
