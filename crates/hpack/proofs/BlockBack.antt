-- What an encoder writes that indexes fields and codes strings is a header block of the same headers, with the same tables.
use Rattle.std.proofs.Common.{◌≡◌, ℕ, suc, ◌+◌, ◌-◌, ◌%◌, ◌^◌, ◌<◌, ◌≤◌, ◌==◌, Bool, true, false, Option, Some, None, List, [], ◌∷◌, ◌++◌, length, inl, inr, refl, ap, sym, ◌∙◌, subst, arith, length-append}
use Rattle.std.specs.Prelude.{nat_lt, slice_get, bytes_eq, if◌then◌else◌}
use Rattle.std.proofs.lemmas.Bool.{cases_lt, lt-leb, le-leb, ltb-true, cond-true, cond-false}
use Rattle.std.proofs.lemmas.Bool.Decides.{Decides-and}
use Rattle.std.proofs.lemmas.List.{append_assoc, append-nil}
use Rattle.std.proofs.lemmas.Slice.Eq.{bytes_eq-Decides}
use Rattle.hpack_huffman.specs.Code.{AreOctets}
use Rattle.hpack_huffman.specs.Encoding.{encoded}
use Rattle.hpack_huffman.specs.EncodingLaws.{encoded_words}
use Rattle.hpack.specs.declared.limits.TheConstants.{MAX_HEADER_LIST_SIZE, MAX_TABLE_SIZE, INTEGER_VALUES, INDEXED_BITS, WITH_INDEXING_BITS, WITHOUT_INDEXING_BITS, SIZE_UPDATE_BITS, STRING_BITS, INDEXED_MARK, WITH_INDEXING_MARK, WITHOUT_INDEXING_MARK, SIZE_UPDATE_MARK, CODED_MARK}
use Rattle.hpack.specs.declared.header.Header.{Header}
use Rattle.hpack.specs.declared.representation.Representation.{Representation}
use Rattle.hpack.specs.declared.representation.Representation.TheVariants.{Indexed, WithIndexing, WithoutIndexing, SizeUpdate}
use Rattle.hpack.specs.Integers.{full_prefix, IsInteger}
use Rattle.hpack.specs.Strings.{first_bit, IsString}
use Rattle.hpack.specs.StaticTable.{static_table, length_static_table}
use Rattle.hpack.specs.Tables.{Table, size_of, list_size, table_with, table_limited, fitting}
use Rattle.hpack.specs.Representations.{Listing, IsEntry, IsLiteral, IsOf, representation_of, IsRepresentation}
use Rattle.hpack.specs.Blocks.{AreRepresentations, IsBlock}
use Rattle.hpack.specs.Encoding.{groups_of, string_of, Writing, marked, integer_with, text_of, AreTexts, IsKept, IsWriting, new_writing, with_peer_limit, first_index, entries_of, has_name, is_field, field_index, name_index, literal, joins, field_by, table_by, encoded_field, table_with_field, encoded_fields, table_with_fields, size_update, table_sized, table_before, encoded_block, writing_after}
use Rattle.hpack.proofs.EncodingLemmas.{integer_short, integer_long}
use Rattle.hpack.proofs.StringBack.{groups_are, string_back}
use Rattle.hpack.proofs.TableLemmas.{list_size-cons}
use Rattle.hpack.proofs.IndexLaws.{few_entries}
use Rattle.hpack.proofs.LawProofs.{fitting_longest}

-- ---- integers below a mark

-- a mark leaves the prefix of so many bits as it is
abbrev Leaves : ℕ → ℕ → Type 0
Leaves mark bits = (k : ℕ) → k ≤ full_prefix bits → (mark + k) % 2 ^ bits ≡ k

-- an integer with a mark before it
record Marked (mark bits n : ℕ) : Type 0 where
  prefix : ℕ
  rest : List ℕ
  whole : integer_with mark bits n ≡ (mark + prefix) ∷ rest
  low : prefix ≤ full_prefix bits
  is : IsInteger bits ((mark + prefix) ∷ rest) n

marked_back : (mark bits n : ℕ) → Leaves mark bits → n < INTEGER_VALUES → Marked mark bits n
marked_back mark bits n leaves low = elim (cases_lt n (full_prefix bits)) [
  | inl short ↦
      let same = leaves n (omega (arith, short)) in
      record {
        prefix = n;
        rest = [];
        whole = ap (marked mark) (integer_short bits n short);
        low = omega (arith, short);
        is = inl (record { below = subst (λ (k : ℕ). k < full_prefix bits) (sym same) short; alone = refl; value = sym same });
      }
  | inr long ↦
      let same = leaves (full_prefix bits) (omega arith) in
      let groups = groups_are 4 (n - full_prefix bits) (omega arith) in
      let value = groups.value in
      record {
        prefix = full_prefix bits;
        rest = groups_of 4 (n - full_prefix bits);
        whole = ap (marked mark) (integer_long bits n long);
        low = omega arith;
        is = inr (record { is_full = subst (λ (k : ℕ). full_prefix bits ≤ k) (sym same) (omega arith); group = groups.group; few = groups.few; value = omega arith; small = low });
      }
]

leaves_indexed : Leaves INDEXED_MARK INDEXED_BITS
leaves_indexed k h = omega (arith, h)

leaves_with : Leaves WITH_INDEXING_MARK WITH_INDEXING_BITS
leaves_with k h = omega (arith, h)

leaves_without : Leaves WITHOUT_INDEXING_MARK WITHOUT_INDEXING_BITS
leaves_without k h = omega (arith, h)

leaves_update : Leaves SIZE_UPDATE_MARK SIZE_UPDATE_BITS
leaves_update k h = omega (arith, h)

leaves_coded : Leaves CODED_MARK STRING_BITS
leaves_coded k h = omega (arith, h)

-- ---- strings

coded_back : (text : List ℕ) → AreOctets text → length (encoded text) < INTEGER_VALUES → IsString (integer_with CODED_MARK STRING_BITS (length (encoded text)) ++ encoded text) text
coded_back text octets low =
    let count = marked_back CODED_MARK STRING_BITS (length (encoded text)) leaves_coded low in
    let bit : first_bit ((CODED_MARK + count.prefix) ∷ count.rest) ≡ true = le-leb 128 (128 + count.prefix) (omega arith) in
    record {
      front = integer_with CODED_MARK STRING_BITS (length (encoded text));
      rest = encoded text;
      first = record { coded = true; count = length (encoded text) };
      whole = refl;
      is_first = record { coded = sym (ap first_bit count.whole ∙ bit); count = subst (λ o. IsInteger STRING_BITS o (length (encoded text))) (sym count.whole) count.is };
      is_second = record { counted = refl; spelled = encoded_words text octets };
    }

text_back : (text : List ℕ) → AreOctets text → length text < INTEGER_VALUES → IsString (text_of text) text
text_back text octets low = of (nat_lt (length (encoded text)) (length text)) refl
  where
    of : (b : Bool) → nat_lt (length (encoded text)) (length text) ≡ b → IsString (if b then integer_with CODED_MARK STRING_BITS (length (encoded text)) ++ encoded text else string_of text) text
    of true e = coded_back text octets (omega (arith, ltb-true (length (encoded text)) (length text) e, low))
    of false e = string_back text low

-- ---- indices

record Found (passes : Header → Bool) (from : ℕ) (entries : List Header) (index : ℕ) : Type 0 where
  entry : Header
  late : from ≤ index
  within : index < from + length entries
  stands : slice_get entries (index - from) ≡ Some entry
  passed : passes entry ≡ true

found_at : (passes : Header → Bool) (from : ℕ) (entries : List Header) (index : ℕ) → first_index passes from entries ≡ Some index → Found passes from entries index
found_at passes from [] index e = absurd cc
found_at passes from (entry ∷ entries) index e = of (passes entry) refl e (found_at passes (from + 1) entries index)
  where
    of : (b : Bool) → passes entry ≡ b → (if b then Some from else first_index passes (from + 1) entries) ≡ Some index
        → (first_index passes (from + 1) entries ≡ Some index → Found passes (from + 1) entries index) → Found passes from (entry ∷ entries) index
    of true p e later =
        let same : from ≡ index = cc in
        record { entry = entry; late = omega (arith, same); within = omega (arith, same); stands = ap (slice_get (entry ∷ entries)) (let z : index - from ≡ 0 = omega (arith, same) in z); passed = p }
    of false p e later =
        let more = later e in
        let late = more.late in
        let within = more.within in
        let step : index - from ≡ suc (index - (from + 1)) = omega arith in
        record { entry = more.entry; late = omega arith; within = omega arith; stands = ap (slice_get (entry ∷ entries)) step ∙ more.stands; passed = more.passed }

-- an index of the tables has an entry
record HasEntry (passes : Header → Bool) (table : Table) (index : ℕ) : Type 0 where
  entry : Header
  is_entry : IsEntry table index entry
  passed : passes entry ≡ true
  small : index < INTEGER_VALUES

entry_found : (passes : Header → Bool) (table : Table) (index : ℕ) → length table.entries ≤ MAX_TABLE_SIZE → first_index passes 1 (entries_of table) ≡ Some index → HasEntry passes table index
entry_found passes table index few e =
    let found = found_at passes 1 (entries_of table) index e in
    let late = found.late in
    let within = found.within in
    let all = length-append static_table table.entries in
    let count = length_static_table in
    record { entry = found.entry; is_entry = record { from_one = omega arith; stands = found.stands }; passed = found.passed; small = omega arith }

same_field : (header entry : Header) → is_field header entry ≡ true → entry ≡ header
same_field header entry e =
    let both = (Decides-and (bytes_eq entry.name header.name) (bytes_eq entry.value header.value) (bytes_eq-Decides entry.name header.name) (bytes_eq-Decides entry.value header.value)).0 e in
    ap (λ (n : List ℕ). let h : Header = record { name = n; value = entry.value } in h) both.0 ∙ ap (λ (v : List ℕ). let h : Header = record { name = header.name; value = v } in h) both.1

-- ---- representations

-- octets are a representation of the kind with which their first octet begins
of_kind : (kind : Representation) (old new : Listing) (octets : List ℕ) (octet : ℕ) (rest : List ℕ) → octets ≡ octet ∷ rest → representation_of octet ≡ kind → IsOf kind old octets new → IsRepresentation old octets new
of_kind kind old new octets octet rest whole begins is =
    subst (λ (o : List ℕ). IsRepresentation old o new) (sym whole)
    (subst (λ (k : Representation). IsOf k old (octet ∷ rest) new) (sym begins) (subst (λ (o : List ℕ). IsOf kind old o new) whole is))

begins_indexed : (k : ℕ) → k ≤ full_prefix INDEXED_BITS → representation_of (INDEXED_MARK + k) ≡ Indexed
begins_indexed k h = cond-true _ _ _ (le-leb 128 (128 + k) (omega arith))

begins_with : (k : ℕ) → k ≤ full_prefix WITH_INDEXING_BITS → representation_of (WITH_INDEXING_MARK + k) ≡ WithIndexing
begins_with k h = cond-false _ _ _ (lt-leb 128 (64 + k) (omega (arith, h))) ∙ cond-true _ _ _ (le-leb 64 (64 + k) (omega arith))

begins_update : (k : ℕ) → k ≤ full_prefix SIZE_UPDATE_BITS → representation_of (SIZE_UPDATE_MARK + k) ≡ SizeUpdate
begins_update k h =
    cond-false _ _ _ (lt-leb 128 (32 + k) (omega (arith, h))) ∙ cond-false _ _ _ (lt-leb 64 (32 + k) (omega (arith, h))) ∙ cond-true _ _ _ (le-leb 32 (32 + k) (omega arith))

begins_without : (k : ℕ) → k ≤ full_prefix WITHOUT_INDEXING_BITS → representation_of (WITHOUT_INDEXING_MARK + k) ≡ WithoutIndexing
begins_without k h =
    cond-false _ _ _ (lt-leb 128 (0 + k) (omega (arith, h))) ∙ cond-false _ _ _ (lt-leb 64 (0 + k) (omega (arith, h))) ∙ cond-false _ _ _ (lt-leb 32 (0 + k) (omega (arith, h))) ∙ cond-false _ _ _ (lt-leb 16 (0 + k) (omega (arith, h)))

-- a literal, and its first octet
record Literal (mark bits : ℕ) (table : Table) (octets : List ℕ) (header : Header) : Type 0 where
  prefix : ℕ
  rest : List ℕ
  whole : octets ≡ (mark + prefix) ∷ rest
  low : prefix ≤ full_prefix bits
  is : IsLiteral bits table octets header

literal_back : (mark bits : ℕ) (table : Table) (header : Header) (named : Option ℕ) → Leaves mark bits → length table.entries ≤ MAX_TABLE_SIZE → AreOctets header.name → AreOctets header.value
    → size_of header ≤ MAX_HEADER_LIST_SIZE → name_index table header ≡ named → Literal mark bits table (literal mark bits named header) header
literal_back mark bits table header (Some index) leaves few name value small e =
    let found = entry_found (has_name header) table index few e in
    let head = marked_back mark bits index leaves found.small in
    record {
      prefix = head.prefix;
      rest = head.rest ++ text_of header.value;
      whole = ap (λ o. o ++ text_of header.value) head.whole;
      low = head.low;
      is = record {
        front = integer_with mark bits index;
        rest = text_of header.value;
        first = index;
        whole = refl;
        is_first = subst (λ o. IsInteger bits o index) (sym head.whole) head.is;
        is_second = record {
          front = [];
          rest = text_of header.value;
          first = header.name;
          whole = refl;
          is_first = inr (record { header = found.entry; is_entry = found.is_entry; is_name = sym ((bytes_eq-Decides found.entry.name header.name).0 found.passed); none = refl });
          is_second = record { is_name = refl; is_value = text_back header.value value (omega arith) };
        };
      };
    }
literal_back mark bits table header None leaves few name value small e =
    let head = marked_back mark bits 0 leaves (omega arith) in
    record {
      prefix = head.prefix;
      rest = head.rest ++ (text_of header.name ++ text_of header.value);
      whole = ap (λ o. o ++ (text_of header.name ++ text_of header.value)) head.whole;
      low = head.low;
      is = record {
        front = integer_with mark bits 0;
        rest = text_of header.name ++ text_of header.value;
        first = 0;
        whole = refl;
        is_first = subst (λ o. IsInteger bits o 0) (sym head.whole) head.is;
        is_second = record {
          front = text_of header.name;
          rest = text_of header.value;
          first = header.name;
          whole = refl;
          is_first = inl (record { zero_index = refl; is_string = text_back header.name name (omega arith) });
          is_second = record { is_name = refl; is_value = text_back header.value value (omega arith) };
        };
      };
    }

abbrev listing : List Header → Table → Listing
listing headers table = record { headers = headers; table = table }

new_back : (listed : List Header) (table : Table) (header : Header) → length table.entries ≤ MAX_TABLE_SIZE → AreOctets header.name → AreOctets header.value → size_of header ≤ MAX_HEADER_LIST_SIZE
    → (joining : Bool) → joins table header ≡ joining
    → IsRepresentation (listing listed table)
    (if joining then literal WITH_INDEXING_MARK WITH_INDEXING_BITS (name_index table header) header else literal WITHOUT_INDEXING_MARK WITHOUT_INDEXING_BITS (name_index table header) header)
    (listing (listed ++ header ∷ []) (if joining then table_with header table else table))
new_back listed table header few name value small true e =
    let l = literal_back WITH_INDEXING_MARK WITH_INDEXING_BITS table header (name_index table header) leaves_with few name value small refl in
    of_kind WithIndexing (listing listed table) (listing (listed ++ header ∷ []) (table_with header table)) (literal WITH_INDEXING_MARK WITH_INDEXING_BITS (name_index table header) header) (WITH_INDEXING_MARK + l.prefix) l.rest l.whole (begins_with l.prefix l.low)
    (record { header = header; is_header = l.is; joins = refl })
new_back listed table header few name value small false e =
    let l = literal_back WITHOUT_INDEXING_MARK WITHOUT_INDEXING_BITS table header (name_index table header) leaves_without few name value small refl in
    of_kind WithoutIndexing (listing listed table) (listing (listed ++ header ∷ []) table) (literal WITHOUT_INDEXING_MARK WITHOUT_INDEXING_BITS (name_index table header) header) (WITHOUT_INDEXING_MARK + l.prefix) l.rest l.whole (begins_without l.prefix l.low)
    (record { header = header; is_header = l.is; joins = refl })

field_back : (listed : List Header) (table : Table) (header : Header) → length table.entries ≤ MAX_TABLE_SIZE → AreOctets header.name → AreOctets header.value → size_of header ≤ MAX_HEADER_LIST_SIZE
    → (found : Option ℕ) → field_index table header ≡ found → IsRepresentation (listing listed table) (field_by table header found) (listing (listed ++ header ∷ []) (table_by table header found))
field_back listed table header few name value small (Some index) e =
    let found = entry_found (is_field header) table index few e in
    let head = marked_back INDEXED_MARK INDEXED_BITS index leaves_indexed found.small in
    of_kind Indexed (listing listed table) (listing (listed ++ header ∷ []) table) (integer_with INDEXED_MARK INDEXED_BITS index) (INDEXED_MARK + head.prefix) head.rest head.whole (begins_indexed head.prefix head.low)
    (record {
      header = header;
      is_header = record {
        index = index;
        is_index = subst (λ o. IsInteger INDEXED_BITS o index) (sym head.whole) head.is;
        is_entry = subst (λ (h : Header). IsEntry table index h) (same_field header found.entry found.passed) found.is_entry;
      };
      joins = refl;
    })
field_back listed table header few name value small None e = new_back listed table header few name value small (joins table header) refl

-- ---- tables

fits : (room : ℕ) (entries : List Header) → list_size (fitting room entries) ≤ room
fits room entries = (fitting_longest room entries).fits

kept_by : (table : Table) (header : Header) (found : Option ℕ) → IsKept table → IsKept (table_by table header found)
kept_by table header (Some index) kept = kept
kept_by table header None kept = of (joins table header)
  where
    of : (b : Bool) → IsKept (if b then table_with header table else table)
    of true = record { within = fits table.limit (header ∷ table.entries); small = kept.small }
    of false = kept

kept_field : (table : Table) (header : Header) → IsKept table → IsKept (table_with_field table header)
unfolding table_with_field
kept_field table header kept = kept_by table header (field_index table header) kept

kept_fields : (headers : List Header) (table : Table) → IsKept table → IsKept (table_with_fields table headers)
kept_fields [] table kept = kept
kept_fields (header ∷ headers) table kept = kept_fields headers (table_with_field table header) (kept_field table header kept)

kept_sized : (limit : ℕ) (table : Table) → limit ≤ MAX_TABLE_SIZE → IsKept table → IsKept (table_sized limit table)
kept_sized limit table small kept = of (limit == table.limit)
  where
    of : (b : Bool) → IsKept (if b then table else table_limited limit table)
    of true = kept
    of false = record { within = fits limit table.entries; small = small }

-- ---- fields

encoded_parts : Table → List Header → List (List ℕ)
encoded_parts table [] = []
encoded_parts table (header ∷ headers) = encoded_field table header ∷ encoded_parts (table_with_field table header) headers

one_back : (listed : List Header) (table : Table) (header : Header) → length table.entries ≤ MAX_TABLE_SIZE → AreOctets header.name → AreOctets header.value → size_of header ≤ MAX_HEADER_LIST_SIZE
    → IsRepresentation (listing listed table) (encoded_field table header) (listing (listed ++ header ∷ []) (table_with_field table header))
unfolding encoded_field table_with_field
one_back listed table header few name value small = field_back listed table header few name value small (field_index table header) refl

fields_back : (headers listed : List Header) (table : Table) → IsKept table → AreTexts headers → list_size headers ≤ MAX_HEADER_LIST_SIZE
    → AreRepresentations (encoded_parts table headers) (listing listed table) (encoded_fields table headers) (listing (listed ++ headers) (table_with_fields table headers))
unfolding encoded_parts
fields_back [] listed table kept texts small = (refl, ap (λ (hs : List Header). listing hs table) (sym (append-nil listed)))
fields_back (header ∷ headers) listed table kept texts small =
    let size = list_size-cons header headers in
    let few = few_entries table.entries in
    let within = kept.within in
    let limit = kept.small in
    let next = table_with_field table header in
    let more = fields_back headers (listed ++ header ∷ []) next (kept_field table header kept) texts.2 (omega arith) in
    let end : (listed ++ header ∷ []) ++ headers ≡ listed ++ (header ∷ headers) = append_assoc listed (header ∷ []) headers in (
      encoded_fields next headers,
      listing (listed ++ header ∷ []) next,
      refl,
      one_back listed table header (omega arith) texts.0 texts.1 (omega arith),
      subst (λ (hs : List Header). AreRepresentations (encoded_parts next headers) (listing (listed ++ header ∷ []) next) (encoded_fields next headers) (listing hs (table_with_fields next headers))) end more,
    )

-- ---- size updates

update_back : (limit : ℕ) (table : Table) → limit ≤ MAX_TABLE_SIZE → IsRepresentation (listing [] table) (integer_with SIZE_UPDATE_MARK SIZE_UPDATE_BITS limit) (listing [] (table_limited limit table))
update_back limit table small =
    let head = marked_back SIZE_UPDATE_MARK SIZE_UPDATE_BITS limit leaves_update (omega (arith, small)) in
    of_kind SizeUpdate (listing [] table) (listing [] (table_limited limit table)) (integer_with SIZE_UPDATE_MARK SIZE_UPDATE_BITS limit) (SIZE_UPDATE_MARK + head.prefix) head.rest head.whole (begins_update head.prefix head.low)
    (record { limit = limit; at_start = refl; is_limit = subst (λ o. IsInteger SIZE_UPDATE_BITS o limit) (sym head.whole) head.is; small = small; resizes = refl })

-- representations with a size update before them, where one is due
record After (limit : ℕ) (table : Table) (octets : List ℕ) (new : Listing) : Type 0 where
  parts : List (List ℕ)
  are : AreRepresentations parts (listing [] table) (size_update limit table ++ octets) new

sized_back : (limit : ℕ) (table : Table) (parts : List (List ℕ)) (octets : List ℕ) (new : Listing) → limit ≤ MAX_TABLE_SIZE → AreRepresentations parts (listing [] (table_sized limit table)) octets new → After limit table octets new
sized_back limit table parts octets new small are = of (limit == table.limit) refl are
  where
    of : (b : Bool) → (limit == table.limit) ≡ b → AreRepresentations parts (listing [] (if b then table else table_limited limit table)) octets new → After limit table octets new
    of true e are = record { parts = parts; are = subst (λ (o : List ℕ). AreRepresentations parts (listing [] table) (o ++ octets) new) (sym (cond-true _ _ _ e)) are }
    of false e are = record {
      parts = integer_with SIZE_UPDATE_MARK SIZE_UPDATE_BITS limit ∷ parts;
      are = subst (λ (o : List ℕ). AreRepresentations (integer_with SIZE_UPDATE_MARK SIZE_UPDATE_BITS limit ∷ parts) (listing [] table) (o ++ octets) new) (sym (cond-false _ _ _ e))
          (octets, listing [] (table_limited limit table), refl, update_back limit table small, are);
    }

-- ---- blocks

pub block_back : (old : Writing) (headers : List Header) → IsWriting old → AreTexts headers → list_size headers ≤ MAX_HEADER_LIST_SIZE → IsBlock old.table (encoded_block old headers) headers (writing_after old headers).table
block_back old headers is texts small =
    let first = table_sized old.least old.table in
    let kept = kept_sized old.last first is.last (kept_sized old.least old.table is.least is.table) in
    let fields = fields_back headers [] (table_before old) kept texts small in
    let new = listing headers (table_with_fields (table_before old) headers) in
    let second = sized_back old.last first (encoded_parts (table_before old) headers) (encoded_fields (table_before old) headers) new is.last fields in
    let all = sized_back old.least old.table second.parts (size_update old.last first ++ encoded_fields (table_before old) headers) new is.least second.are in
    let joined = append_assoc (size_update old.least old.table) (size_update old.last first) (encoded_fields (table_before old) headers) in
    record { parts = all.parts; are_representations = subst (λ (o : List ℕ). AreRepresentations all.parts (listing [] old.table) o new) (sym joined) all.are }

pub block_kept : (old : Writing) (headers : List Header) → IsWriting old → IsWriting (writing_after old headers)
block_kept old headers is =
    let first = kept_sized old.least old.table is.least is.table in
    let kept = kept_fields headers (table_before old) (kept_sized old.last (table_sized old.least old.table) is.last first) in
    record { table = kept; least = kept.small; last = kept.small }

pub new_kept : IsWriting new_writing
new_kept = record { table = record { within = omega arith; small = omega arith }; least = omega arith; last = omega arith }

pub allowed_kept : (peer : ℕ) (old : Writing) → IsWriting old → IsWriting (with_peer_limit peer old)
allowed_kept peer old is = let least = is.least in record { table = is.table; least = omega arith; last = omega arith }
