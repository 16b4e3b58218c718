use Rattle.std.proofs.Common.{◌≡◌, ◌++◌, map}
use Rattle.std.specs.Prelude.{replicate}
use Rattle.body_plans.specs.Channels.{inner}
use Rattle.body_plans.specs.Views.{channel_of}
use Rattle.body_plans.proofs.made.add_inner.Given as goal

abbrev pub invariant-loop-turn : goal.invariant-loop-turn
invariant-loop-turn l = map channel_of l.channels ≡ map channel_of l.fn.channels ++ replicate l.turn inner
