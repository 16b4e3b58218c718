use Rattle.std.proofs.Common.{subst}
use Rattle.esi_base.specs.Answers.{Reads}
use Rattle.esi_commands.specs.Inputs.{actions_of}
use Rattle.esi_commands.proofs.InputLemmas.{few_cycles}
use Rattle.esi_commands.proofs.input.check_stimulus.Goals as goal

pub returns-clause-cycles : goal.returns-clause-cycles
returns-clause-cycles c =
    few_cycles c.args.ty.now c.in_ok-stimulus.stimulus.steps c.actions.result (subst (λ steps. Reads (actions_of c.args.ty.now steps) c.actions.result) c.as_slice.ensures c.actions.ensures)
    c.in_ok-stimulus.ensures.found.few_cycles
