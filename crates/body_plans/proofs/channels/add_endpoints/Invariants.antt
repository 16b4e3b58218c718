use Rattle.std.proofs.Common.{◌≡◌, ◌++◌, map}
use Rattle.std.specs.Prelude.{replicate}
use Rattle.name_tables.specs.Keys.{label_of}
use Rattle.body_plans.specs.Channels.{under_endpoint}
use Rattle.body_plans.specs.Views.{channel_of}
use Rattle.body_plans.proofs.channels.add_endpoints.Given as goal

abbrev pub invariant-loop-turn : goal.invariant-loop-turn
invariant-loop-turn l = map channel_of l.channels ≡ map channel_of l.fn.channels ++ replicate l.turn (under_endpoint (label_of l.endpoint))
