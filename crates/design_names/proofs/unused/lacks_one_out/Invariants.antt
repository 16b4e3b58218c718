use Rattle.std.proofs.Common.{◌≡◌, false, take}
use Rattle.design_names.specs.UnusedPlaces.{outs_unused}
use Rattle.design_names.proofs.unused.lacks_one_out.Given as goal

abbrev pub invariant-loop-port : goal.invariant-loop-port
invariant-loop-port l = outs_unused l.used l.id (take l.port-index l.ports) ≡ false
