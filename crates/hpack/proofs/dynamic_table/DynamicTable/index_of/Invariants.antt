use Rattle.std.proofs.Common.{◌≡◌, ◌+◌, drop}
use Rattle.hpack.specs.declared.limits.TheConstants.{STATIC_ENTRIES}
use Rattle.hpack.specs.Encoding.{first_index}
use Rattle.hpack.specs.Sought.{passes}
use Rattle.hpack.proofs.dynamic_table.DynamicTable.index_of.Given as goal

-- the index among the entries that are left is that among all
abbrev pub invariant-loop-at : goal.invariant-loop-at
invariant-loop-at l = first_index (passes l.sought l.header) (STATIC_ENTRIES + 1 + l.at) (drop l.at l.self.entries) ≡ first_index (passes l.sought l.header) (STATIC_ENTRIES + 1) l.self.entries
