-- A map that says of each name where it stands first.
use Rattle.std.specs.Prelude.{◌≡◌, ℕ, Option, List, map}
use Rattle.std.specs.BTreeMap.{BTreeMap, get}
use Rattle.name_tables.specs.declared.key.Key.{Key}
use Rattle.name_tables.specs.contracts.key.KeyOrd.TheImpl.{cmp-value}
use Rattle.name_tables.specs.Lists.{index_in}
use Rattle.name_tables.specs.Keys.{label_of}

-- what a map has for a key
abbrev pub found_in : BTreeMap Key ℕ → Key → Option ℕ
found_in indices key = get cmp-value.it indices key

-- The map says of each name at which index it stands first.
abbrev pub IsTable : BTreeMap Key ℕ → List Key → Type 0
IsTable indices names = (key : Key) → found_in indices key ≡ index_in (label_of key) (map label_of names)
