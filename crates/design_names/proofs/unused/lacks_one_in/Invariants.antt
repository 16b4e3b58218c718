use Rattle.std.proofs.Common.{◌≡◌, false, take}
use Rattle.design_names.specs.UnusedPlaces.{ins_unbound}
use Rattle.design_names.proofs.unused.lacks_one_in.Given as goal

abbrev pub invariant-loop-port : goal.invariant-loop-port
invariant-loop-port l = ins_unbound l.bound (take l.port-index l.ports) ≡ false
