use Rattle.std.proofs.Common.{◌≡◌}
use Rattle.buffer_stage.specs.Passes.{wires_upto}
use Rattle.buffer_stage.proofs.forward.list_wires.Given as goal

abbrev pub invariant-loop-output : goal.invariant-loop-output
invariant-loop-output l = l.wires ≡ wires_upto l.first l.output
