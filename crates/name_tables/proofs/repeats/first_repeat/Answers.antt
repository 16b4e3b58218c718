use Rattle.std.proofs.Common.{◌+◌, sym, subst}
use Rattle.name_tables.proofs.Walks.{RepeatWalk, repeat_more}
use Rattle.name_tables.proofs.repeats.first_repeat.Goals as goal

pub loop-mark-preserved : goal.loop-mark-preserved
loop-mark-preserved c =
    subst (RepeatWalk c.args.first c.args.marks.now (c.loop-mark.mark-index + 1) c.insert.new.self) (sym c.place_after-place.ensures)
    (repeat_more c.args.first c.args.marks.now c.loop-mark.mark-index _ c.loop-mark.before c.insert.new.self c.loop-mark.place c.in_ok-is_new.is_new c.loop-mark-test.true c.loop-mark.invariant
    c.in_ok-is_new.ensures.added c.in_ok-is_new.ensures.updates)
