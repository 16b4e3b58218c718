-- The actions so far, and those of the steps that are left, are all of them.
use Rattle.std.proofs.Common.{◌≡◌, drop}
use Rattle.esi_commands.specs.Inputs.{actions_of}
use Rattle.esi_commands.proofs.ActionLemmas.{after}
use Rattle.esi_commands.proofs.input.actions.Given as goal

abbrev pub invariant-loop-step : goal.invariant-loop-step
invariant-loop-step l = after l.actions (actions_of l.ty (drop l.step-index l.steps)) ≡ actions_of l.ty l.steps
