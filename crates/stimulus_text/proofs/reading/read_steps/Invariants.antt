use Rattle.std.proofs.Common.{◌≡◌, ◌≤◌, length}
use Rattle.stimulus_text.specs.declared.limits.TheConstants.{STIMULUS_CYCLES, STIMULUS_LINES}
use Rattle.stimulus_text.specs.Stimulus.{steps_of}
use Rattle.stimulus_text.proofs.StepLemmas.{after_steps}
use Rattle.stimulus_text.proofs.reading.read_steps.Given as goal

abbrev pub invariant-loop-line : goal.invariant-loop-line
invariant-loop-line l =
    (after_steps l.steps (steps_of l.count l.cycles l.lines) ≡ steps_of 0 0 l.fn.lines) × (l.count ≤ STIMULUS_LINES) × (l.cycles ≤ STIMULUS_CYCLES)

abbrev pub decreases-loop-line : goal.decreases-loop-line
decreases-loop-line l = length l.lines
