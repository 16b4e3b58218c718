use Rattle.std.proofs.Common.{◌≡◌, ◌++◌, map, take}
use Rattle.std.specs.Prelude.{filter}
use Rattle.check_rules.specs.Uses.{is_out}
use Rattle.body_plans.specs.Channels.{instance_channel}
use Rattle.body_plans.specs.Views.{channel_of}
use Rattle.body_plans.proofs.made.add_outs.Given as goal

abbrev pub invariant-loop-port : goal.invariant-loop-port
invariant-loop-port l = map channel_of l.channels ≡ map channel_of l.fn.channels ++ map (instance_channel l.id) (filter is_out (take l.port-index l.ports))
