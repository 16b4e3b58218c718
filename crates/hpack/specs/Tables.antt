-- The two tables (RFC 7541, sections 2.3 and 4).
use Rattle.std.specs.Prelude.{◌≡◌, ℕ, ◌+◌, ◌-◌, ◌≤◌, nat_le, List, [], ◌∷◌, length, sum_by, if◌then◌else◌}
use Rattle.hpack.specs.declared.limits.TheConstants.{ENTRY_OVERHEAD, MAX_TABLE_SIZE}
use Rattle.hpack.specs.declared.header.Header.{Header}

-- the size of an entry (section 4.1)
abbrev pub size_of : Header → ℕ
size_of header = length header.name + length header.value + ENTRY_OVERHEAD

-- the size of a table, and that of a header list (RFC 9113, section 10.5.1)
abbrev pub list_size : List Header → ℕ
list_size headers = sum_by size_of headers

-- the dynamic table: its entries, the newest first, and its maximum size
pub record Table : Type 0 where
  pub entries : List Header
  pub limit : ℕ

-- the longest prefix of a list whose size is at most `room`
abbrev pub fitting : ℕ → List Header → List Header
fitting room [] = []
fitting room (header ∷ headers) = if nat_le (size_of header) room then header ∷ fitting (room - size_of header) headers else []

-- a new entry comes first, and the oldest ones are evicted (section 4.4)
abbrev pub table_with : Header → Table → Table
table_with header table = record { entries = fitting table.limit (header ∷ table.entries); limit = table.limit }

-- the maximum size changes, and the oldest entries are evicted (section 4.3)
abbrev pub table_limited : ℕ → Table → Table
table_limited limit table = record { entries = fitting limit table.entries; limit = limit }

-- a table without entries, of the size that a connection begins with (RFC 9113, section 6.5.2)
abbrev pub new_table : Table
new_table = record { entries = []; limit = MAX_TABLE_SIZE }

-- what the code keeps beside a table's entries: their size, within the maximum
pub record IsCounted (entries : List Header) (size limit : ℕ) : Type 0 where
  pub counted : size ≡ list_size entries
  pub small : size ≤ limit
  pub limit_small : limit ≤ MAX_TABLE_SIZE
