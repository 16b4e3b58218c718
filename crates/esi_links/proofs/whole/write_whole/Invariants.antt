use Rattle.std.proofs.Common.{◌≡◌, length, take, ◌-◌, ◌≤◌}
use Rattle.esi_links.specs.Growth.{Grows}
use Rattle.esi_links.proofs.whole.write_whole.Given as goal

-- the first `sent` octets of the text were taken, and no others
abbrev pub invariant-loop-sent : goal.invariant-loop-sent
invariant-loop-sent g l = record {
  within : l.sent ≤ length l.octets;
  grown : Grows (g.O.Sink.octets l.fn.out) (g.O.Sink.octets l.out) (take l.sent l.octets);
  quiet : g.O.Sink.faults l.out ≡ g.O.Sink.faults l.fn.out;
  later : g.O.Sink.faults l.fn.out ≤ g.O.Sink.faults l.out;
}

abbrev pub decreases-loop-sent : goal.decreases-loop-sent
decreases-loop-sent g l = length l.octets - l.sent
