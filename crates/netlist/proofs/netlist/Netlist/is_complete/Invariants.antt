use Rattle.std.proofs.Common.{◌≡◌, ◌<◌, ℕ, true, get_or, None}
use Rattle.std.specs.Prelude.{IsSome}
use Rattle.netlist.specs.Nets.{is_register}
use Rattle.netlist.specs.Plans.{net_at}
use Rattle.netlist.proofs.netlist.Netlist.is_complete.Given as goal

abbrev pub invariant-loop-at : goal.invariant-loop-at
invariant-loop-at l = (k : ℕ) → k < l.at → is_register (net_at l.nets k) ≡ true → IsSome (get_or l.nexts k None)
