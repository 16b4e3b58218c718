use Rattle.std.proofs.Common.{◌≡◌, ◌+◌, ◌*◌, drop}
use Rattle.flat_design.specs.Laying.{laid, steps_laid}
use Rattle.flat_design.proofs.laying.+lay.Given as goal

abbrev pub decreases-lay : goal.decreases-lay
decreases-lay l = 3 * l.levels

abbrev pub decreases-lay_step : goal.decreases-lay_step
decreases-lay_step l = 3 * l.levels + 1

abbrev pub decreases-lay_steps : goal.decreases-lay_steps
decreases-lay_steps l = 3 * l.levels + 2

abbrev pub invariant-lay_steps-loop-step : goal.invariant-lay_steps-loop-step
invariant-lay_steps-loop-step l = steps_laid (laid l.plans l.levels) (drop l.step-index l.steps) l.made l.flat ≡ steps_laid (laid l.plans l.levels) l.steps l.fn.given l.fn.flat
