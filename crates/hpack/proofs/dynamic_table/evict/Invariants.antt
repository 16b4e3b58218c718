use Rattle.std.proofs.Common.{◌≡◌, length}
use Rattle.hpack.specs.Tables.{list_size, fitting}
use Rattle.hpack.proofs.dynamic_table.evict.Given as goal

-- the longest front that fits stays the same, and the size is counted
abbrev pub invariant-loop-size : goal.invariant-loop-size
invariant-loop-size l = (l.size ≡ list_size l.entries.items) × (fitting l.limit l.entries.items ≡ fitting l.limit l.initial.entries.items)

abbrev pub decreases-loop-size : goal.decreases-loop-size
decreases-loop-size l = length l.entries.items
