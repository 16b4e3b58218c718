-- The names that keys and marks are.
use Rattle.std.specs.Prelude.{option_copied}
use Rattle.name_tables.specs.declared.key.Key.{Key}
use Rattle.name_tables.specs.declared.key.Mark.{Mark}
use Rattle.name_tables.specs.Labels.{Label, Occurrence}

abbrev pub label_of : Key → Label
label_of k = record { owner = option_copied k.owner; index = k.index; name = k.name.now }

abbrev pub occurrence_of : Mark → Occurrence
occurrence_of m = record { label = label_of m.key; at = m.at }
