-- How long the block of a header list is that may be sent.
use Rattle.std.proofs.Common.{ℕ, zero, suc, ◌+◌, ◌-◌, ◌*◌, ◌/◌, ◌%◌, ◌≤◌, ◌≡◌, ◌==◌, Bool, true, false, Option, Some, None, cond, ltb, List, [], ◌∷◌, ◌++◌, length, length-append, refl, arith, lit≤}
use Rattle.std.proofs.lemmas.Bool.{ltb-true}
use Rattle.std.proofs.lemmas.List.Sums.{sum_by-cons}
use Rattle.hpack_huffman.specs.Encoding.{encoded}
use Rattle.hpack.specs.declared.header.Header.{Header}
use Rattle.hpack.specs.declared.limits.TheConstants.{MAX_HEADER_LIST_SIZE}
use Rattle.hpack.specs.Encoding.{Writing, groups_of, integer_of, string_of, marked, integer_with, text_of, literal, joins, name_index, field_index, field_by, encoded_field, table_with_field, encoded_fields, size_update, table_sized, size_updates, table_before, encoded_block}
use Rattle.hpack.specs.Integers.{full_prefix}
use Rattle.hpack.specs.Tables.{Table, size_of, list_size}
use Rattle.h2_layouts.specs.declared.limit.TheConstants.{LONGEST_PAYLOAD}

either_len : (b : Bool) (x y : List ℕ) (most : ℕ) → length x ≤ most → length y ≤ most → length (cond b x y) ≤ most
either_len true x y most hits misses = hits
either_len false x y most hits misses = misses

either_by : (b : Bool) (x y : List ℕ) (most : ℕ) → (b ≡ true → length x ≤ most) → length y ≤ most → length (cond b x y) ≤ most
either_by true x y most hits misses = hits refl
either_by false x y most hits misses = misses

-- ---- integers and strings

groups_len : (more n : ℕ) → length (groups_of more n) ≤ more + 1
unfolding groups_of
groups_len zero n = omega arith
groups_len (suc more) n = either_len (ltb n 128) (n ∷ []) ((128 + n % 128) ∷ groups_of more (n / 128)) (suc more + 1) (omega arith) (omega (arith, groups_len more (n / 128)))

integer_len : (bits n : ℕ) → length (integer_of bits n) ≤ 6
unfolding integer_of
integer_len bits n = either_len (ltb n (full_prefix bits)) (n ∷ []) (full_prefix bits ∷ groups_of 4 (n - full_prefix bits)) 6 (lit≤ tt) (omega (arith, groups_len 4 (n - full_prefix bits)))

marked_len : (mark : ℕ) (octets : List ℕ) → length octets ≤ 6 → length (marked mark octets) ≤ 6
marked_len mark [] few = few
marked_len mark (octet ∷ octets) few = few

with_len : (mark bits n : ℕ) → length (integer_with mark bits n) ≤ 6
with_len mark bits n = marked_len mark (integer_of bits n) (integer_len bits n)

string_len : (text : List ℕ) → length (string_of text) ≤ 6 + length text
unfolding string_of
string_len text = omega (arith, integer_len 7 (length text), length-append (integer_of 7 (length text)) text)

coded_len : (mark bits most : ℕ) (code : List ℕ) → length code ≤ most → length (integer_with mark bits (length code) ++ code) ≤ 6 + most
coded_len mark bits most code few = omega (arith, few, with_len mark bits (length code), length-append (integer_with mark bits (length code)) code)

shorter : (a b : ℕ) → ltb a b ≡ true → a ≤ b
shorter a b e = omega (arith, ltb-true a b e)

-- a string is coded only where that takes fewer octets
text_len : (text : List ℕ) → length (text_of text) ≤ 6 + length text
text_len text =
    either_by (ltb (length (encoded text)) (length text)) (integer_with 128 7 (length (encoded text)) ++ encoded text) (string_of text) (6 + length text)
    (λ e. coded_len 128 7 (length text) (encoded text) (shorter (length (encoded text)) (length text) e)) (string_len text)

-- ---- fields

-- an entry counts 32 octets beside its name and its value, and three integers are no longer than 18
literal_len : (mark bits : ℕ) (named : Option ℕ) (header : Header) → 14 + length (literal mark bits named header) ≤ size_of header
literal_len mark bits (Some index) header = omega (arith, with_len mark bits index, text_len header.value, length-append (integer_with mark bits index) (text_of header.value))
literal_len mark bits None header =
    omega (arith, with_len mark bits 0, text_len header.name, text_len header.value, length-append (text_of header.name) (text_of header.value), length-append (integer_with mark bits 0) (text_of header.name ++ text_of header.value))

either_literal : (b : Bool) (with_bits with_mark without_bits without_mark : ℕ) (named : Option ℕ) (header : Header)
    → 14 + length (cond b (literal with_mark with_bits named header) (literal without_mark without_bits named header)) ≤ size_of header
either_literal true with_bits with_mark without_bits without_mark named header = literal_len with_mark with_bits named header
either_literal false with_bits with_mark without_bits without_mark named header = literal_len without_mark without_bits named header

by_len : (found : Option ℕ) (table : Table) (header : Header) → 14 + length (field_by table header found) ≤ size_of header
by_len (Some index) table header = omega (arith, with_len 128 7 index)
by_len None table header = either_literal (joins table header) 6 64 4 0 (name_index table header) header

field_len : (table : Table) (header : Header) → 14 + length (encoded_field table header) ≤ size_of header
unfolding encoded_field
field_len table header = by_len (field_index table header) table header

fields_len : (headers : List Header) (table : Table) → length (encoded_fields table headers) + 14 * length headers ≤ list_size headers
fields_len [] table = omega arith
fields_len (header ∷ headers) table =
    omega (arith, field_len table header, fields_len headers (table_with_field table header), sum_by-cons size_of header headers, length-append (encoded_field table header) (encoded_fields (table_with_field table header) headers))

-- ---- blocks

update_len : (limit : ℕ) (table : Table) → length (size_update limit table) ≤ 6
update_len limit table = either_len (limit == table.limit) [] (integer_with 32 5 limit) 6 (lit≤ tt) (with_len 32 5 limit)

updates_len : (writing : Writing) → length (size_updates writing) ≤ 12
updates_len writing =
    let between = table_sized writing.least writing.table in
    omega (arith, update_len writing.least writing.table, update_len writing.last between, length-append (size_update writing.least writing.table) (size_update writing.last between))

-- size updates are no longer than 12 octets, and a list that is not empty has more to spare
pub block_len : (writing : Writing) (headers : List Header) → list_size headers ≤ MAX_HEADER_LIST_SIZE → length (encoded_block writing headers) ≤ LONGEST_PAYLOAD
block_len writing [] small = omega (arith, updates_len writing, length-append (size_updates writing) [])
block_len writing (header ∷ headers) small =
    omega (arith, small, updates_len writing, fields_len (header ∷ headers) (table_before writing), length-append (size_updates writing) (encoded_fields (table_before writing) (header ∷ headers)))
