use Rattle.std.proofs.Common.{◌≡◌, ◌++◌, map, take}
use Rattle.std.specs.Prelude.{flat_map}
use Rattle.design_scopes.specs.Bodies.{referred}
use Rattle.body_plans.specs.Channels.{server_channels}
use Rattle.body_plans.specs.Views.{channel_of}
use Rattle.body_plans.proofs.channels.add_servers.Given as goal

abbrev pub invariant-loop-statement : goal.invariant-loop-statement
invariant-loop-statement l = map channel_of l.channels ≡ map channel_of l.fn.channels ++ flat_map (server_channels l.scope l.before) (referred (take l.statement-index l.statements))
