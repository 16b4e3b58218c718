use Rattle.std.proofs.Common.{◌≡◌, map, take}
use Rattle.lowered_modules.specs.Interfaces.{ready_of}
use Rattle.lowered_text.proofs.printing.readies_of.Given as goal

abbrev pub invariant-loop-n : goal.invariant-loop-n
invariant-loop-n l = l.readies ≡ take l.n (map ready_of l.ports)
