use Rattle.std.proofs.Common.{ap, arith}
use Rattle.buffer_stage.specs.declared.laid.Wire.{Wire}
use Rattle.buffer_stage.specs.PassLemmas.{has_all, output_below}
use Rattle.buffer_stage.proofs.forward.emit_forward.Goals as goal

pub list_wires-requires-clause-place : goal.list_wires-requires-clause-place
list_wires-requires-clause-place c =
    let below = output_below c.args.part.now c.args.laid.now.registers c.args.inputs.now _ c.requires.registers c.requires.valid c.len-forward.ensures.kept.limit in
    omega (arith, below, ap (λ (w : Wire). w.valid) c.in_ok-output.ensures.output)

pub returns-in_default-list_wires-clause-refused : goal.returns-in_default-list_wires-clause-refused
returns-in_default-list_wires-clause-refused c = has_all _ _ _ c.in_ok-output.ensures.pushed
