use Rattle.std.proofs.Common.{◌≡◌, take}
use Rattle.hpack.proofs.dynamic_table.copy_of.Given as goal

-- the entries so far are copied
abbrev pub invariant-loop-at : goal.invariant-loop-at
invariant-loop-at l = l.copy.items ≡ take l.at l.entries.items
