-- The places of names that stand twice or are none of the known ones, as lists; and where a name stands first.
use Rattle.std.specs.Prelude.{ℕ, ◌+◌, Bool, Option, Some, None, List, [], ◌∷◌, ◌++◌, if◌then◌else◌}
use Rattle.std.specs.List.{list_any}
use Rattle.name_tables.specs.Labels.{Label, Occurrence, same_label}

-- one of the names is this one
abbrev pub stands : Label → List Label → Bool
stands label labels = list_any (same_label label) labels

-- the places of those that stood before
abbrev pub repeats_after : List Label → List Occurrence → List ℕ
repeats_after before [] = []
repeats_after before (o ∷ more) = (if stands o.label before then o.at ∷ [] else []) ++ repeats_after (before ++ o.label ∷ []) more

abbrev pub repeats : List Occurrence → List ℕ
repeats = repeats_after []

-- the places of those that are none of the known ones
abbrev pub missing : List Label → List Occurrence → List ℕ
missing known [] = []
missing known (o ∷ more) = (if stands o.label known then [] else o.at ∷ []) ++ missing known more

-- the index of the first one that is the name, where the list's begin with `i`
abbrev pub index_from : Label → ℕ → List Label → Option ℕ
index_from label i [] = None
index_from label i (x ∷ xs) = if same_label label x then Some i else index_from label (i + 1) xs

-- the index of the first one that is the name
abbrev pub index_in : Label → List Label → Option ℕ
index_in label = index_from label 0
