use Rattle.std.proofs.Common.{◌≡◌, ◌<◌, ◌≤◌, length, ℕ, true}
use Rattle.netlist.specs.Nets.{width_at, word_at, is_input}
use Rattle.netlist.specs.Settled.{input_place}
use Rattle.netlist.specs.Plans.{net_at}
use Rattle.netlist_checks.proofs.checked.are_inputs.Given as goal

abbrev pub invariant-loop-at : goal.invariant-loop-at
invariant-loop-at l = record {
  given : l.given ≡ input_place l.net.nets l.at;
  small : l.given ≤ length l.inputs;
  wide : (place : ℕ) → place < l.at → is_input (net_at l.net.nets place) ≡ true → length (word_at l.inputs (input_place l.net.nets place)) ≡ width_at l.net.widths place;
}
