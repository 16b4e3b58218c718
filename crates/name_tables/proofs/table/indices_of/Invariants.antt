use Rattle.std.proofs.Common.{take}
use Rattle.name_tables.specs.Tables.{IsTable}
use Rattle.name_tables.proofs.table.indices_of.Given as goal

abbrev pub invariant-loop-index : goal.invariant-loop-index
invariant-loop-index l = IsTable l.indices (take l.index l.names)
