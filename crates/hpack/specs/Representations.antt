-- The five representations (RFC 7541, section 6), and what each does to the headers and the table.
use Rattle.std.specs.Prelude.{◌≡◌, ℕ, ◌-◌, ◌<◌, ◌≤◌, ◌⊎◌, nat_le, Some, List, [], ◌∷◌, ◌++◌, slice_get, if◌then◌else◌}
use Rattle.hpack.specs.declared.limits.TheConstants.{MAX_HEADER_LIST_SIZE, MAX_TABLE_SIZE, INDEXED_BITS, WITH_INDEXING_BITS, WITHOUT_INDEXING_BITS, SIZE_UPDATE_BITS}
use Rattle.hpack.specs.declared.stop.BlockRule.{BlockRule}
use Rattle.hpack.specs.declared.stop.BlockRule.TheVariants.{NoSuchEntry, WrongSizeUpdate, ListTooLarge}
use Rattle.hpack.specs.declared.header.Header.{Header}
use Rattle.hpack.specs.declared.representation.Representation.{Representation}
use Rattle.hpack.specs.declared.representation.Representation.TheVariants.{Indexed, WithIndexing, WithoutIndexing, NeverIndexed, SizeUpdate}
use Rattle.hpack.specs.Integers.{IsInteger, BreaksInteger}
use Rattle.hpack.specs.Strings.{IsString, BreaksString}
use Rattle.hpack.specs.Readers.{IsSequence, HoldsAfter, BreaksSequence}
use Rattle.hpack.specs.StaticTable.{static_table}
use Rattle.hpack.specs.Tables.{Table, table_with, table_limited, list_size}

-- the representation by the bits with which an octet begins
abbrev pub representation_of : ℕ → Representation
representation_of octet =
    if nat_le 128 octet then Indexed else (if nat_le 64 octet then WithIndexing else (if nat_le 32 octet then SizeUpdate else (if nat_le 16 octet then NeverIndexed else WithoutIndexing)))

-- The header is the table's entry at the index (section 2.3.3): the static table comes first, from index 1
-- on, and after it the dynamic one.
pub record IsEntry (table : Table) (index : ℕ) (header : Header) : Type 0 where
  pub from_one : 0 < index
  pub stands : slice_get (static_table ++ table.entries) (index - 1) ≡ Some header

-- no entry has the index
abbrev pub LacksEntry : Table → ℕ → Type 0
LacksEntry table index = (header : Header) → IsEntry table index header → ⊥

-- an index whose entry the header is (section 6.1)
pub record IsIndexed (table : Table) (octets : List ℕ) (header : Header) : Type 0 where
  pub index : ℕ
  pub is_index : IsInteger INDEXED_BITS octets index
  pub is_entry : IsEntry table index header

-- the name of an entry, which takes no octets
pub record IsEntryName (table : Table) (index : ℕ) (octets name : List ℕ) : Type 0 where
  pub header : Header
  pub is_entry : IsEntry table index header
  pub is_name : name ≡ header.name
  pub none : octets ≡ []

-- a name as a string, after the index 0
pub record IsStringName (index : ℕ) (octets name : List ℕ) : Type 0 where
  pub zero_index : index ≡ 0
  pub is_string : IsString octets name

-- the name of the entry that a literal's index has, or the string after the index 0
abbrev pub IsName : Table → ℕ → List ℕ → List ℕ → Type 0
IsName table index octets name = IsStringName index octets name ⊎ IsEntryName table index octets name

-- a header of the name, and of the value that the octets are
pub record IsValued (name : List ℕ) (octets : List ℕ) (header : Header) : Type 0 where
  pub is_name : header.name ≡ name
  pub is_value : IsString octets header.value

-- an index in a prefix, the name and the value (section 6.2)
abbrev pub IsLiteral : ℕ → Table → List ℕ → Header → Type 0
IsLiteral bits table = IsSequence (IsInteger bits) (λ index. IsSequence (IsName table index) IsValued)

-- the headers that were read so far, and the table as it is then
pub record Listing : Type 0 where
  pub headers : List Header
  pub table : Table

abbrev pub with_header : Listing → Header → Table → Listing
with_header old header table = record { headers = old.headers ++ header ∷ []; table = table }

-- a field joins the headers, and the table becomes the one after it
pub record IsField (IsHeader : List ℕ → Header → Type 0) (after : Header → Table) (old : Listing) (octets : List ℕ) (new : Listing) : Type 0 where
  pub header : Header
  pub is_header : IsHeader octets header
  pub joins : new ≡ with_header old header (after header)

-- a new maximum size, of at most 4,096, before any field (sections 4.2 and 6.3)
pub record IsSizeUpdate (old : Listing) (octets : List ℕ) (new : Listing) : Type 0 where
  pub limit : ℕ
  pub at_start : old.headers ≡ []
  pub is_limit : IsInteger SIZE_UPDATE_BITS octets limit
  pub small : limit ≤ MAX_TABLE_SIZE
  pub resizes : new ≡ record { headers = []; table = table_limited limit old.table }

-- what a representation is, by its kind
abbrev pub IsOf : Representation → Listing → List ℕ → Listing → Type 0
IsOf Indexed old = IsField (IsIndexed old.table) (λ header. old.table) old
IsOf WithIndexing old = IsField (IsLiteral WITH_INDEXING_BITS old.table) (λ header. table_with header old.table) old
IsOf WithoutIndexing old = IsField (IsLiteral WITHOUT_INDEXING_BITS old.table) (λ header. old.table) old
IsOf NeverIndexed old = IsField (IsLiteral WITHOUT_INDEXING_BITS old.table) (λ header. old.table) old
IsOf SizeUpdate old = IsSizeUpdate old

-- the octets are one representation, which turns the old headers and table into the new ones
abbrev pub IsRepresentation : Listing → List ℕ → Listing → Type 0
IsRepresentation old [] new = ⊥
IsRepresentation old (octet ∷ octets) new = IsOf (representation_of octet) old (octet ∷ octets) new

-- no entry has the index
abbrev pub BreaksIndex : Table → ℕ → BlockRule → List ℕ → Type 0
BreaksIndex table index rule octets = (rule ≡ NoSuchEntry) × LacksEntry table index

abbrev pub BreaksIndexed : Table → BlockRule → List ℕ → Type 0
BreaksIndexed table = BreaksSequence (BreaksInteger INDEXED_BITS) (IsInteger INDEXED_BITS) (BreaksIndex table)

-- a rule is broken where a literal's name is due
abbrev pub BreaksName : Table → ℕ → BlockRule → List ℕ → Type 0
BreaksName table index rule octets = ((index ≡ 0) × BreaksString rule octets) ⊎ ((0 < index) × BreaksIndex table index rule octets)

abbrev pub BreaksLiteral : ℕ → Table → BlockRule → List ℕ → Type 0
BreaksLiteral bits table =
    BreaksSequence (BreaksInteger bits) (IsInteger bits) (λ index. BreaksSequence (BreaksName table index) (IsName table index) (λ name. BreaksString))

-- a header stands there, and with it the list is larger than 16,384
abbrev pub BreaksSize : (List ℕ → Header → Type 0) → Listing → BlockRule → List ℕ → Type 0
BreaksSize IsHeader old rule octets = (rule ≡ ListTooLarge) × HoldsAfter IsHeader (λ header rest. MAX_HEADER_LIST_SIZE < list_size (old.headers ++ header ∷ [])) octets

-- a size update stands after a field, or it sets more than 4,096, or its integer does not stand
abbrev pub BreaksUpdate : Listing → BlockRule → List ℕ → Type 0
BreaksUpdate old rule octets =
    ((rule ≡ WrongSizeUpdate) × ¬ (old.headers ≡ []))
    ⊎ ((old.headers ≡ []) × (BreaksInteger SIZE_UPDATE_BITS rule octets ⊎ ((rule ≡ WrongSizeUpdate) × HoldsAfter (IsInteger SIZE_UPDATE_BITS) (λ limit rest. MAX_TABLE_SIZE < limit) octets)))

-- a rule is broken where a representation is due, by its kind
abbrev pub BreaksOf : Representation → Listing → BlockRule → List ℕ → Type 0
BreaksOf Indexed old rule octets = BreaksIndexed old.table rule octets ⊎ BreaksSize (IsIndexed old.table) old rule octets
BreaksOf WithIndexing old rule octets = BreaksLiteral WITH_INDEXING_BITS old.table rule octets ⊎ BreaksSize (IsLiteral WITH_INDEXING_BITS old.table) old rule octets
BreaksOf WithoutIndexing old rule octets = BreaksLiteral WITHOUT_INDEXING_BITS old.table rule octets ⊎ BreaksSize (IsLiteral WITHOUT_INDEXING_BITS old.table) old rule octets
BreaksOf NeverIndexed old rule octets = BreaksLiteral WITHOUT_INDEXING_BITS old.table rule octets ⊎ BreaksSize (IsLiteral WITHOUT_INDEXING_BITS old.table) old rule octets
BreaksOf SizeUpdate old rule octets = BreaksUpdate old rule octets

-- a rule is broken by the representation with which the octets begin
abbrev pub BreaksRepresentation : Listing → BlockRule → List ℕ → Type 0
BreaksRepresentation old rule [] = ⊥
BreaksRepresentation old rule (octet ∷ octets) = BreaksOf (representation_of octet) old rule (octet ∷ octets)
