use Rattle.std.proofs.Common.{◌≡◌, map, take}
use Rattle.name_tables.specs.Keys.{label_of}
use Rattle.body_plans.specs.Channels.{endpoint_of}
use Rattle.body_plans.specs.Views.{channel_of}
use Rattle.body_plans.proofs.places.endpoints_among.Given as goal

abbrev pub invariant-loop-channel : goal.invariant-loop-channel
invariant-loop-channel l = map label_of l.keys ≡ map endpoint_of (map channel_of (take l.channel-index l.channels))
