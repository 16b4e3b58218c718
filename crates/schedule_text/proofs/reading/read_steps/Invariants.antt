use Rattle.std.proofs.Common.{◌≡◌, ◌≤◌, length, []}
use Rattle.std.specs.List.{sum_by}
use Rattle.line_rules.specs.TextRules.{steps_from}
use Rattle.schedule_text.specs.declared.limits.TheConstants.{SCHEDULE_ROUNDS}
use Rattle.schedule_text.specs.ScheduleLines.{rounds_of, schedule_rules}
use Rattle.schedule_text.proofs.reading.read_steps.Given as goal

abbrev pub invariant-loop-line : goal.invariant-loop-line
invariant-loop-line l =
    (steps_from schedule_rules l.steps l.lines ≡ steps_from schedule_rules [] l.fn.lines) × (l.rounds ≡ sum_by rounds_of l.steps) × (l.rounds ≤ SCHEDULE_ROUNDS)

abbrev pub decreases-loop-line : goal.decreases-loop-line
decreases-loop-line l = length l.lines
