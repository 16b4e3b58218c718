use Rattle.std.proofs.Common.{◌≡◌, ◌+◌, drop}
use Rattle.hpack.specs.StaticTable.{static_table}
use Rattle.hpack.specs.Encoding.{first_index}
use Rattle.hpack.specs.Sought.{passes}
use Rattle.hpack.proofs.sought.static_index.Given as goal

-- the index among the entries that are left is that among all
abbrev pub invariant-loop-at : goal.invariant-loop-at
invariant-loop-at l = first_index (passes l.sought l.header) (l.at + 1) (drop l.at static_table) ≡ first_index (passes l.sought l.header) 1 static_table
