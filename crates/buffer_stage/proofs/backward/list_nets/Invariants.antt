use Rattle.std.proofs.Common.{◌≡◌}
use Rattle.buffer_stage.specs.Passes.{nets_from}
use Rattle.buffer_stage.proofs.backward.list_nets.Given as goal

abbrev pub invariant-loop-net : goal.invariant-loop-net
invariant-loop-net l = l.nets ≡ nets_from l.first l.net
