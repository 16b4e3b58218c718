use Rattle.std.proofs.Common.{◌≡◌, ◌++◌, map, take, drop}
use Rattle.name_tables.specs.Keys.{label_of}
use Rattle.body_order.specs.Makers.{referred, channel_labels, channel_makers}
use Rattle.body_order.proofs.elements.made_channels.Given as goal

abbrev pub invariant-loop-number : goal.invariant-loop-number
invariant-loop-number l = record { names : map label_of l.names ≡ channel_labels (referred (take l.number l.elements)); makers : l.makers.items ++ channel_makers l.number (referred (drop l.number l.elements)) ≡ channel_makers 0 (referred l.elements) }
