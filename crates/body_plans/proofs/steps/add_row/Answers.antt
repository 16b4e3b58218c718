use Rattle.std.proofs.Common.{◌∙◌, ◌-◌, ◌<◌, map, arith}
use Rattle.std.specs.Prelude.{replicate}
use Rattle.body_plans.specs.Views.{channel_of}
use Rattle.body_plans.proofs.Rows.{row_step, inner_more}
use Rattle.body_plans.proofs.steps.add_row.Goals as goal

pub loop-turn-preserved : goal.loop-turn-preserved
loop-turn-preserved c =
    let low : c.loop-turn.turn < c.args.row.now.count - 1 = (let test = c.loop-turn-test.true in let end = c.before_last-turn-end.ensures in omega arith) in
    record {
      steps = row_step c.args.row.now.part c.args.row.now.width (replicate c.args.branches c.args.row.now.width) c.loop-turn.steps c.add_part.new.steps (map channel_of c.loop-turn.channels) (map channel_of c.add_part.new.channels)
          c.loop-turn.taken c.in_ok-taken.taken (c.args.row.now.count - 1) c.loop-turn.turn low c.in_ok-taken.ensures.steps c.in_ok-taken.ensures.channels c.in_ok-taken.ensures.place
          ∙ c.loop-turn.invariant.steps;
      channels = inner_more (map channel_of c.args.channels.now) (map channel_of c.loop-turn.channels) (map channel_of c.add_part.new.channels) c.loop-turn.turn c.loop-turn.invariant.channels c.in_ok-taken.ensures.channels;
    }
