use Rattle.std.proofs.Common.{◌≡◌, length, []}
use Rattle.line_rules.specs.TextRules.{steps_from}
use Rattle.link_log.specs.LogLines.{log_rules, open_by}
use Rattle.link_log.proofs.reading.read_steps.Given as goal

abbrev pub invariant-loop-line : goal.invariant-loop-line
invariant-loop-line l =
    (steps_from log_rules l.steps l.lines ≡ steps_from log_rules [] l.fn.lines) × (l.conns ≡ open_by l.steps)

abbrev pub decreases-loop-line : goal.decreases-loop-line
decreases-loop-line l = length l.lines
