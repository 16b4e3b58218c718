use Rattle.esi_commands.proofs.InputLemmas.{input_of_both, stop_in_design, stop_in_stimulus}
use Rattle.esi_commands.proofs.input.check_input.Goals as goal

pub returns-in-Err-clause-input : goal.returns-in-Err-clause-input
returns-in-Err-clause-input c =
    rw c.stop_in_file.ensures (stop_in_design c.args.design.now c.args.stimulus.now c.in-Err.stop c.in-Err.ensures.reads)

pub returns-in-Ok-check_stimulus-clause-input : goal.returns-in-Ok-check_stimulus-clause-input
returns-in-Ok-check_stimulus-clause-input c =
    input_of_both c.args.design.now c.args.stimulus.now c.in-Ok.pipe c.in-Ok-check_stimulus.steps c.in-Ok.ensures.reads c.in-Ok-check_stimulus.ensures.reads

pub returns-clause-input : goal.returns-clause-input
returns-clause-input c =
    rw c.stop_in_file-in-Err-check_stimulus.ensures
    (stop_in_stimulus c.args.design.now c.args.stimulus.now c.in-Ok.pipe c.in-Err-check_stimulus.stop c.in-Ok.ensures.reads c.in-Err-check_stimulus.ensures.reads)
