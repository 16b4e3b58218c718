use Rattle.std.proofs.Common.{◌≡◌, ◌++◌, map, take}
use Rattle.std.specs.Prelude.{filter}
use Rattle.check_rules.specs.Uses.{is_in}
use Rattle.body_plans.specs.Channels.{port_channel}
use Rattle.body_plans.specs.Views.{channel_of}
use Rattle.body_plans.proofs.channels.add_in_ports.Given as goal

abbrev pub invariant-loop-port : goal.invariant-loop-port
invariant-loop-port l = map channel_of l.channels ≡ map channel_of l.fn.channels ++ map port_channel (filter is_in (take l.port-index l.ports))
