-- Fields at the front of a list that are entries, of which each is written by its index, and leaves the table as it is.
use Rattle.std.specs.Prelude.{◌≡◌, ℕ, ◌≤◌, List, ◌++◌, length, drop}
use Rattle.hpack.specs.declared.header.Header.{Header}
use Rattle.hpack.specs.Tables.{Table}
use Rattle.hpack.specs.Encoding.{encoded_fields, table_with_fields}
use Rattle.hpack.specs.Extends.{Extends}

-- what was written of so many fields, with what is left, is all, by the one table
pub record AreKnown (table : Table) (headers : List Header) (known : ℕ) (old new : List ℕ) : Type 0 where
  pub few : known ≤ length headers
  pub written : new ++ encoded_fields table (drop known headers) ≡ old ++ encoded_fields table headers
  pub stays : table_with_fields table (drop known headers) ≡ table_with_fields table headers
  pub extends : Extends old new
