use Rattle.std.proofs.Common.{◌≡◌, map, take}
use Rattle.lowered_modules.specs.Interfaces.{offer_of}
use Rattle.lowered_text.proofs.printing.offers_of.Given as goal

abbrev pub invariant-loop-n : goal.invariant-loop-n
invariant-loop-n l = l.offers ≡ take l.n (map offer_of l.ports)
