use Rattle.std.proofs.Common.{◌≡◌, ◌<◌, length, ℕ}
use Rattle.netlist.specs.Nets.{width_at, word_at}
use Rattle.netlist_checks.proofs.checked.are_held.Given as goal

abbrev pub invariant-loop-at : goal.invariant-loop-at
invariant-loop-at l = (place : ℕ) → place < l.at → length (word_at l.held place) ≡ width_at l.net.widths place
