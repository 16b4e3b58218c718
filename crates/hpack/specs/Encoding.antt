-- The block that an encoder writes. Of what RFC 7541 leaves to an encoder: each field is written by the least index that serves,
-- joins the table where it fits into it, and a string is Huffman coded exactly where that takes fewer octets.
use Rattle.std.specs.Prelude.{◌≡◌, ℕ, zero, suc, ◌+◌, ◌-◌, ◌/◌, ◌%◌, ◌≤◌, ◌==◌, ◌&&◌, nat_le, nat_lt, min, Bool, Option, Some, None, List, [], ◌∷◌, ◌++◌, length, bytes_eq, if◌then◌else◌}
use Rattle.hpack.specs.declared.limits.TheConstants.{MAX_TABLE_SIZE, INDEXED_BITS, WITH_INDEXING_BITS, WITHOUT_INDEXING_BITS, SIZE_UPDATE_BITS, STRING_BITS, INDEXED_MARK, WITH_INDEXING_MARK, WITHOUT_INDEXING_MARK, SIZE_UPDATE_MARK, CODED_MARK}
use Rattle.hpack.specs.declared.header.Header.{Header}
use Rattle.hpack_huffman.specs.Code.{AreOctets}
use Rattle.hpack_huffman.specs.Encoding.{encoded}
use Rattle.hpack.specs.Integers.{full_prefix}
use Rattle.hpack.specs.StaticTable.{static_table}
use Rattle.hpack.specs.Tables.{Table, new_table, size_of, list_size, table_with, table_limited}

-- What an encoder keeps: its table, which is the peer's too, and what it has still to tell of the maximum sizes that the peer
-- allowed since the last block, each cut to MAX_TABLE_SIZE: the least of them, where it is below the table's, and the last.
pub record Writing : Type 0 where
  pub table : Table
  pub least : ℕ
  pub last : ℕ

abbrev pub new_writing : Writing
new_writing = record { table = new_table; least = MAX_TABLE_SIZE; last = MAX_TABLE_SIZE }

-- the peer allows a maximum size
abbrev pub with_peer_limit : ℕ → Writing → Writing
with_peer_limit peer old = record { table = old.table; least = min old.least (min peer MAX_TABLE_SIZE); last = min peer MAX_TABLE_SIZE }

-- ---- integers and strings

-- seven bits an octet, the least significant first, in at most so many octets before the last one
unfoldable pub groups_of : ℕ → ℕ → List ℕ
groups_of zero n = n ∷ []
groups_of (suc more) n = if nat_lt n 128 then n ∷ [] else (128 + n % 128) ∷ groups_of more (n / 128)

-- an integer below 2^32, in a prefix of so many bits, after bits that are 0 (RFC 7541, section 5.1)
unfoldable pub integer_of : ℕ → ℕ → List ℕ
integer_of bits n = if nat_lt n (full_prefix bits) then n ∷ [] else full_prefix bits ∷ groups_of 4 (n - full_prefix bits)

-- a string as it is, without the Huffman code (section 5.2)
unfoldable pub string_of : List ℕ → List ℕ
string_of text = integer_of STRING_BITS (length text) ++ text

-- the bits with which a representation begins, above the prefix of its integer
abbrev pub marked : ℕ → List ℕ → List ℕ
marked mark [] = []
marked mark (octet ∷ octets) = (mark + octet) ∷ octets

abbrev pub integer_with : ℕ → ℕ → ℕ → List ℕ
integer_with mark bits n = marked mark (integer_of bits n)

-- a string, Huffman coded where that takes fewer octets (section 5.2)
abbrev pub text_of : List ℕ → List ℕ
text_of text =
    if nat_lt (length (encoded text)) (length text)
    then integer_with CODED_MARK STRING_BITS (length (encoded text)) ++ encoded text
    else string_of text

-- ---- indices

-- the index of the first of some entries that passes, where the first of all has the index `from`
abbrev pub first_index : (Header → Bool) → ℕ → List Header → Option ℕ
first_index passes from [] = None
first_index passes from (entry ∷ entries) = if passes entry then Some from else first_index passes (from + 1) entries

-- the entries of both tables, from index 1 on (section 2.3.3)
abbrev pub entries_of : Table → List Header
entries_of table = static_table ++ table.entries

abbrev pub has_name : Header → Header → Bool
has_name header entry = bytes_eq entry.name header.name

abbrev pub is_field : Header → Header → Bool
is_field header entry = bytes_eq entry.name header.name && bytes_eq entry.value header.value

abbrev pub field_index : Table → Header → Option ℕ
field_index table header = first_index (is_field header) 1 (entries_of table)

abbrev pub name_index : Table → Header → Option ℕ
name_index table header = first_index (has_name header) 1 (entries_of table)

-- ---- fields

-- a literal, its name by an index or, after the index 0, as a string (section 6.2)
abbrev pub literal : ℕ → ℕ → Option ℕ → Header → List ℕ
literal mark bits (Some index) header = integer_with mark bits index ++ text_of header.value
literal mark bits None header = integer_with mark bits 0 ++ (text_of header.name ++ text_of header.value)

-- a field that is no entry joins the table where its size is at most the maximum (section 6.2.1), else it does not (section
-- 6.2.2)
abbrev pub joins : Table → Header → Bool
joins table header = nat_le (size_of header) table.limit

abbrev pub new_field : Table → Header → List ℕ
new_field table header =
    if joins table header
    then literal WITH_INDEXING_MARK WITH_INDEXING_BITS (name_index table header) header
    else literal WITHOUT_INDEXING_MARK WITHOUT_INDEXING_BITS (name_index table header) header

abbrev pub table_joined : Table → Header → Table
table_joined table header = if joins table header then table_with header table else table

-- an entry is written by its index (section 6.1)
abbrev pub field_by : Table → Header → Option ℕ → List ℕ
field_by table header (Some index) = integer_with INDEXED_MARK INDEXED_BITS index
field_by table header None = new_field table header

abbrev pub table_by : Table → Header → Option ℕ → Table
table_by table header (Some index) = table
table_by table header None = table_joined table header

unfoldable pub encoded_field : Table → Header → List ℕ
encoded_field table header = field_by table header (field_index table header)

unfoldable pub table_with_field : Table → Header → Table
table_with_field table header = table_by table header (field_index table header)

abbrev pub encoded_fields : Table → List Header → List ℕ
encoded_fields table [] = []
encoded_fields table (header ∷ headers) = encoded_field table header ++ encoded_fields (table_with_field table header) headers

abbrev pub table_with_fields : Table → List Header → Table
table_with_fields table [] = table
table_with_fields table (header ∷ headers) = table_with_fields (table_with_field table header) headers

-- ---- blocks

-- a size update where the maximum size differs (sections 4.2 and 6.3)
abbrev pub size_update : ℕ → Table → List ℕ
size_update limit table = if limit == table.limit then [] else integer_with SIZE_UPDATE_MARK SIZE_UPDATE_BITS limit

abbrev pub table_sized : ℕ → Table → Table
table_sized limit table = if limit == table.limit then table else table_limited limit table

-- the table behind the size updates
abbrev pub table_before : Writing → Table
table_before old = table_sized old.last (table_sized old.least old.table)

-- the least maximum size is told first, then the last one
abbrev pub size_updates : Writing → List ℕ
size_updates old = size_update old.least old.table ++ size_update old.last (table_sized old.least old.table)

-- the encoder's block of the headers, and what it keeps after it
abbrev pub encoded_block : Writing → List Header → List ℕ
encoded_block old headers = size_updates old ++ encoded_fields (table_before old) headers

abbrev pub writing_with : Table → Writing
writing_with table = record { table = table; least = table.limit; last = table.limit }

abbrev pub writing_after : Writing → List Header → Writing
writing_after old headers = writing_with (table_with_fields (table_before old) headers)

-- ---- what holds of it

-- the peer has been told the maximum size, which is the table's
pub record IsTold (writing : Writing) : Type 0 where
  pub least : writing.least ≡ writing.table.limit
  pub last : writing.last ≡ writing.table.limit

-- the octets of names and values are octets
abbrev pub AreTexts : List Header → Type 0
AreTexts [] = Unit {0}
AreTexts (header ∷ headers) = AreOctets header.name × AreOctets header.value × AreTexts headers

-- a table within its maximum size, and that within the greatest
pub record IsKept (table : Table) : Type 0 where
  pub within : list_size table.entries ≤ table.limit
  pub small : table.limit ≤ MAX_TABLE_SIZE

pub record IsWriting (kept : Writing) : Type 0 where
  pub table : IsKept kept.table
  pub least : kept.least ≤ MAX_TABLE_SIZE
  pub last : kept.last ≤ MAX_TABLE_SIZE
