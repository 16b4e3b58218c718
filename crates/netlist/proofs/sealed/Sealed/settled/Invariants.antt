use Rattle.std.proofs.Common.{◌≡◌, ◌<◌, ℕ, length}
use Rattle.netlist.specs.Nets.{width_at, word_at}
use Rattle.netlist.specs.Settled.{input_place}
use Rattle.netlist.specs.SettledLaws.{SettledBelow}
use Rattle.netlist.proofs.sealed.Sealed.settled.Given as goal

abbrev pub invariant-loop-at : goal.invariant-loop-at
invariant-loop-at l = record {
  given : l.given ≡ input_place l.self.nets l.at;
  below : SettledBelow l.self l.inputs l.held l.at l.words;
  wide : (j : ℕ) → j < l.at → length (word_at l.words j) ≡ width_at l.self.widths j;
}
