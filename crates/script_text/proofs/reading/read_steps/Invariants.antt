use Rattle.std.proofs.Common.{◌≡◌, length, []}
use Rattle.line_rules.specs.TextRules.{steps_from}
use Rattle.script_text.specs.ScriptLines.{script_rules, said_by}
use Rattle.script_text.proofs.reading.read_steps.Given as goal

abbrev pub invariant-loop-line : goal.invariant-loop-line
invariant-loop-line l =
    (steps_from script_rules l.steps l.lines ≡ steps_from script_rules [] l.fn.lines) × (l.earlier ≡ said_by l.steps)

abbrev pub decreases-loop-line : goal.decreases-loop-line
decreases-loop-line l = length l.lines
