use Rattle.std.proofs.Common.{◌≡◌, ◌-◌, ◌++◌, map, length}
use Rattle.std.specs.Prelude.{replicate}
use Rattle.body_plans.specs.Channels.{inner}
use Rattle.body_plans.specs.Plans.{in_row}
use Rattle.body_plans.specs.Views.{channel_of}
use Rattle.body_plans.proofs.steps.add_row.Given as goal

abbrev pub invariant-loop-turn : goal.invariant-loop-turn
invariant-loop-turn l = record {
  steps : l.steps ++ in_row l.row.part l.row.width (replicate l.branches l.row.width) (l.row.count - 1 - l.turn) (length (map channel_of l.channels)) l.taken
      ≡ l.fn.steps ++ in_row l.row.part l.row.width (replicate l.branches l.row.width) (l.row.count - 1) (length (map channel_of l.fn.channels)) l.fn.sources;
  channels : map channel_of l.channels ≡ map channel_of l.fn.channels ++ replicate l.turn inner;
}
