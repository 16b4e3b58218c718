-- Reading one representation.
use Rattle.std.specs.Prelude.{ℕ, ◌+◌, ◌-◌, ◌==◌, nat_le, Bool, true, false, Option, Some, None, List, [], ◌∷◌, ◌++◌, slice_get, Result, Ok, Err, if◌then◌else◌}
use Rattle.hpack.specs.declared.limits.TheConstants.{MAX_HEADER_LIST_SIZE, MAX_TABLE_SIZE, INDEXED_BITS, WITH_INDEXING_BITS, WITHOUT_INDEXING_BITS, SIZE_UPDATE_BITS}
use Rattle.hpack.specs.declared.stop.BlockRule.{BlockRule}
use Rattle.hpack.specs.declared.stop.BlockRule.TheVariants.{NoSuchEntry, CutOrTooLarge, WrongSizeUpdate, ListTooLarge}
use Rattle.esi_base.specs.Answers.{◌>>=◌}
use Rattle.hpack.specs.declared.header.Header.{Header}
use Rattle.hpack.specs.declared.representation.Representation.{Representation}
use Rattle.hpack.specs.declared.representation.Representation.TheVariants.{Indexed, WithIndexing, WithoutIndexing, NeverIndexed, SizeUpdate}
use Rattle.hpack.specs.IntegerReading.{integer_at}
use Rattle.hpack.specs.StringReading.{string_at}
use Rattle.hpack.specs.StaticTable.{static_table}
use Rattle.hpack.specs.Tables.{Table, size_of, list_size, table_with, table_limited}
use Rattle.hpack.specs.Representations.{Listing, representation_of}

abbrev pub entry_of : Option Header → Result Header BlockRule
entry_of None = Err NoSuchEntry
entry_of (Some header) = Ok header

-- the entry at an index
unfoldable pub entry_at : Table → ℕ → Result Header BlockRule
entry_at table index = if index == 0 then Err NoSuchEntry else entry_of (slice_get (static_table ++ table.entries) (index - 1))

unfoldable pub indexed_at : Table → List ℕ → Result (Header × List ℕ) BlockRule
indexed_at table octets = do
  index ← integer_at INDEXED_BITS octets
  header ← entry_at table index.0
  Ok (header, index.1)

unfoldable pub entry_name_at : Table → ℕ → List ℕ → Result (List ℕ × List ℕ) BlockRule
entry_name_at table index octets = do
  header ← entry_at table index
  Ok (header.name, octets)

unfoldable pub name_at : Table → ℕ → List ℕ → Result (List ℕ × List ℕ) BlockRule
name_at table index octets = if index == 0 then string_at octets else entry_name_at table index octets

unfoldable pub value_at : List ℕ → List ℕ → Result (Header × List ℕ) BlockRule
value_at name octets = do
  value ← string_at octets
  Ok (record { name = name; value = value.0 }, value.1)

unfoldable pub literal_at : ℕ → Table → List ℕ → Result (Header × List ℕ) BlockRule
literal_at bits table octets = do
  index ← integer_at bits octets
  name ← name_at table index.0 index.1
  value_at name.0 name.1

-- the headers with one more, where their size stays within 16,384
abbrev pub list_with : List Header → Header → Result (List Header) BlockRule
list_with headers header = if nat_le (list_size headers + size_of header) MAX_HEADER_LIST_SIZE then Ok (headers ++ header ∷ []) else Err ListTooLarge

-- a field that was read joins the headers
abbrev pub listing_with : (Header → Table) → List Header → Result (Header × List ℕ) BlockRule → Result (Listing × List ℕ) BlockRule
listing_with after headers read = do
  field ← read
  now ← list_with headers field.0
  Ok (record { headers = now; table = after field.0 }, field.1)

abbrev pub is_empty : List Header → Bool
is_empty [] = true
is_empty (header ∷ headers) = false

unfoldable pub update_at : Table → List ℕ → Result (Listing × List ℕ) BlockRule
update_at table octets = do
  limit ← integer_at SIZE_UPDATE_BITS octets
  if nat_le limit.0 MAX_TABLE_SIZE then Ok (record { headers = []; table = table_limited limit.0 table }, limit.1) else Err WrongSizeUpdate

-- one representation of a kind
unfoldable pub read_as : Representation → Listing → List ℕ → Result (Listing × List ℕ) BlockRule
read_as Indexed old octets = listing_with (λ header. old.table) old.headers (indexed_at old.table octets)
read_as WithIndexing old octets = listing_with (λ header. table_with header old.table) old.headers (literal_at WITH_INDEXING_BITS old.table octets)
read_as WithoutIndexing old octets = listing_with (λ header. old.table) old.headers (literal_at WITHOUT_INDEXING_BITS old.table octets)
read_as NeverIndexed old octets = listing_with (λ header. old.table) old.headers (literal_at WITHOUT_INDEXING_BITS old.table octets)
read_as SizeUpdate old octets = if is_empty old.headers then update_at old.table octets else Err WrongSizeUpdate

-- one representation
unfoldable pub representation_at : Listing → List ℕ → Result (Listing × List ℕ) BlockRule
representation_at old [] = Err CutOrTooLarge
representation_at old (octet ∷ octets) = read_as (representation_of octet) old (octet ∷ octets)
