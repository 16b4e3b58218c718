use Rattle.std.proofs.Common.{◌≡◌, map, take}
use Rattle.name_tables.specs.Labels.{label_at}
use Rattle.name_tables.specs.Keys.{label_of, occurrence_of}
use Rattle.design_names.proofs.unused.keys_of.Given as goal

abbrev pub invariant-loop-mark : goal.invariant-loop-mark
invariant-loop-mark l = map label_of l.keys ≡ map label_at (map occurrence_of (take l.mark-index l.marks))
