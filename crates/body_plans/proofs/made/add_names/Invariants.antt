use Rattle.std.proofs.Common.{◌≡◌, ◌++◌, map, take}
use Rattle.body_plans.specs.Channels.{name_channel}
use Rattle.body_plans.specs.Views.{channel_of}
use Rattle.body_plans.proofs.made.add_names.Given as goal

abbrev pub invariant-loop-name : goal.invariant-loop-name
invariant-loop-name l = map channel_of l.channels ≡ map channel_of l.fn.channels ++ map name_channel (take l.name-index l.names)
