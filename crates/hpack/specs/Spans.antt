-- Where in the static table the entries of a name stand. Names are sought by keys.
use Rattle.std.specs.Prelude.{◌≡◌, ℕ, ◌+◌, ◌-◌, ◌*◌, ◌%◌, ◌<◌, ◌≤◌, List, length, slice_index}
use Rattle.hpack.specs.declared.limits.TheConstants.{STATIC_ENTRIES}
use Rattle.hpack.specs.declared.static_table.TheConstants.{KEYS, LENGTH_WEIGHT, FIRST_WEIGHT}
use Rattle.hpack.specs.StaticPieces.{piece}

-- all entries of a name stand from the one place on and before the other
pub record IsSpan (name : List ℕ) (from to : ℕ) : Type 0 where
  pub order : from ≤ to
  pub within : to ≤ STATIC_ENTRIES
  pub all : (at : ℕ) → at < STATIC_ENTRIES → piece (2 * at) ≡ name → (from ≤ at) × (at < to)

-- the key of a name: by its length, its first octet and its last one
unfoldable pub key_of : List ℕ → ℕ
key_of name = (length name % KEYS * LENGTH_WEIGHT + slice_index name 0 * FIRST_WEIGHT + slice_index name (length name - 1)) % KEYS
