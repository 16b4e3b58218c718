-- The least index of an entry that passes, found entry by entry.
use Rattle.std.proofs.Common.{◌≡◌, ℕ, zero, suc, ◌+◌, ◌*◌, ◌<◌, ◌≤◌, Bool, true, false, Some, None, List, [], ◌∷◌, ◌++◌, length, drop, refl, ap, sym, ◌∙◌, arith}
use Rattle.std.specs.Prelude.{slice_get, get_or, if◌then◌else◌}
use Rattle.std.proofs.lemmas.Bool.{cond-true, cond-false, eq-eqb}
use Rattle.hpack.specs.declared.header.Header.{Header}
use Rattle.hpack.specs.StaticTable.{static_table, field, length_static_table}
use Rattle.hpack.specs.StaticPieces.{piece}
use Rattle.hpack.specs.Tables.{Table, size_of, list_size}
use Rattle.std.proofs.lemmas.List.{append_assoc, append-nil}
use Rattle.std.proofs.lemmas.List.Sums.{sum_by-take-drop}
use Rattle.hpack.specs.Known.{AreKnown}
use Rattle.hpack.proofs.EncodingLemmas.{extends_none, extends_after}
use Rattle.hpack.specs.declared.limits.TheConstants.{INDEXED_BITS, INDEXED_MARK}
use Rattle.hpack.specs.Encoding.{Writing, first_index, entries_of, integer_with, field_index, field_by, table_by, encoded_field, table_with_field, encoded_fields, table_with_fields, size_update, table_sized, size_updates, table_before, encoded_block, writing_with, writing_after, IsTold}
use Rattle.hpack.specs.declared.sought.Sought.{Sought}
use Rattle.hpack.specs.Sought.{passes}
use Rattle.hpack.proofs.StaticLemmas.{static_pair}
use Rattle.hpack.proofs.TableLemmas.{list_size-cons}

-- ---- a list from an index on

drop_some : {A : Type 0} (xs : List A) (at : ℕ) (x : A) → slice_get xs at ≡ Some x → drop at xs ≡ x ∷ drop (at + 1) xs
drop_some [] at x e = absurd cc
drop_some (y ∷ xs) zero x e = let same : y ≡ x = cc in ap (λ z. z ∷ xs) same
drop_some (y ∷ xs) (suc at) x e = drop_some xs at x e ∙ ap (λ k. x ∷ drop k (y ∷ xs)) (let k : suc (at + 1) ≡ suc at + 1 = omega arith in k)

drop_none : {A : Type 0} (xs : List A) (at : ℕ) → slice_get xs at ≡ None → drop at xs ≡ []
drop_none [] zero e = refl
drop_none [] (suc at) e = refl
drop_none (x ∷ xs) zero e = absurd cc
drop_none (x ∷ xs) (suc at) e = drop_none xs at e

-- ---- an entry after another

pub index_found : (p : Header → Bool) (from : ℕ) (entries : List Header) (at : ℕ) (entry : Header) → slice_get entries at ≡ Some entry → p entry ≡ true → first_index p from (drop at entries) ≡ Some from
index_found p from entries at entry stands passed = ap (first_index p from) (drop_some entries at entry stands) ∙ cond-true _ _ _ passed

pub index_missed : (p : Header → Bool) (from : ℕ) (entries : List Header) (at : ℕ) (entry : Header) → slice_get entries at ≡ Some entry → p entry ≡ false
    → first_index p from (drop at entries) ≡ first_index p (from + 1) (drop (at + 1) entries)
index_missed p from entries at entry stands missed = ap (first_index p from) (drop_some entries at entry stands) ∙ cond-false _ _ _ missed

-- ---- the static table

pub static_found : (p : Header → Bool) (at : ℕ) → at < 61 → p (field (piece (2 * at)) (piece (2 * at + 1))) ≡ true → first_index p (at + 1) (drop at static_table) ≡ Some (at + 1)
static_found p at low passed = index_found p (at + 1) static_table at (field (piece (2 * at)) (piece (2 * at + 1))) (static_pair at low) passed

pub static_missed : (p : Header → Bool) (at : ℕ) → at < 61 → p (field (piece (2 * at)) (piece (2 * at + 1))) ≡ false
    → first_index p (at + 1) (drop at static_table) ≡ first_index p (at + 1 + 1) (drop (at + 1) static_table)
static_missed p at low missed = index_missed p (at + 1) static_table at (field (piece (2 * at)) (piece (2 * at + 1))) (static_pair at low) missed

pub static_none : (p : Header → Bool) → first_index p 62 (drop 61 static_table) ≡ None
unfolding static_table
static_none p = refl

-- ---- both tables

pub index_before : (p : Header → Bool) (from : ℕ) (xs ys : List Header) (index : ℕ) → first_index p from xs ≡ Some index → first_index p from (xs ++ ys) ≡ Some index
index_before p from [] ys index e = absurd cc
index_before p from (x ∷ xs) ys index e = of (p x) e (index_before p (from + 1) xs ys index)
  where
    of : (b : Bool) → (if b then Some from else first_index p (from + 1) xs) ≡ Some index → (first_index p (from + 1) xs ≡ Some index → first_index p (from + 1) (xs ++ ys) ≡ Some index)
        → (if b then Some from else first_index p (from + 1) (xs ++ ys)) ≡ Some index
    of true e later = e
    of false e later = later e

pub index_behind : (p : Header → Bool) (from : ℕ) (xs ys : List Header) → first_index p from xs ≡ None → first_index p from (xs ++ ys) ≡ first_index p (from + length xs) ys
index_behind p from [] ys e = ap (λ (k : ℕ). first_index p k ys) (let k : from ≡ from + 0 = omega arith in k)
index_behind p from (x ∷ xs) ys e = of (p x) e (index_behind p (from + 1) xs ys)
  where
    of : (b : Bool) → (if b then Some from else first_index p (from + 1) xs) ≡ None → (first_index p (from + 1) xs ≡ None → first_index p (from + 1) (xs ++ ys) ≡ first_index p (from + 1 + length xs) ys)
        → (if b then Some from else first_index p (from + 1) (xs ++ ys)) ≡ first_index p (from + length (x ∷ xs)) ys
    of true e later = absurd cc
    of false e later = later e ∙ ap (λ (k : ℕ). first_index p k ys) (let k : from + 1 + length xs ≡ from + length (x ∷ xs) = omega arith in k)

pub index_static : (p : Header → Bool) (table : Table) (index : ℕ) → first_index p 1 static_table ≡ Some index → first_index p 1 (entries_of table) ≡ Some index
index_static p table index e = index_before p 1 static_table table.entries index e

pub index_dynamic : (p : Header → Bool) (table : Table) → first_index p 1 static_table ≡ None → first_index p 1 (entries_of table) ≡ first_index p 62 table.entries
index_dynamic p table e = index_behind p 1 static_table table.entries e ∙ ap (λ (k : ℕ). first_index p k table.entries) (ap (λ n. 1 + n) length_static_table)

-- each entry counts for one at least
pub few_entries : (entries : List Header) → length entries ≤ list_size entries
few_entries [] = omega arith
few_entries (entry ∷ entries) = omega (arith, few_entries entries, list_size-cons entry entries)

-- where no entries are left, none passes
pub index_end : (p : Header → Bool) (from : ℕ) (entries : List Header) (at : ℕ) → length entries ≤ at → first_index p from (drop at entries) ≡ None
index_end p from [] at h = ap (first_index p from) (drop_none {A = Header} [] at refl)
index_end p from (entry ∷ entries) zero h = absurd (omega (arith, h))
index_end p from (entry ∷ entries) (suc at) h = index_end p from entries at (omega (arith, h))

-- what a test of a name and a value told
pub told : (sought : Sought) (header : Header) (name other value more : List ℕ) (result answer : Bool) → name ≡ other → value ≡ more → result ≡ passes sought header (field name value) → result ≡ answer
    → passes sought header (field other more) ≡ answer
told sought header name other value more result answer n v test is =
    ap (λ (o : List ℕ). passes sought header (field o more)) (sym n) ∙ ap (λ (o : List ℕ). passes sought header (field name o)) (sym v) ∙ sym test ∙ is

-- ---- fields that are entries

known_field : (table : Table) (header : Header) (index : ℕ) → field_index table header ≡ Some index → encoded_field table header ≡ integer_with INDEXED_MARK INDEXED_BITS index
unfolding encoded_field
known_field table header index e = ap (field_by table header) e

known_table : (table : Table) (header : Header) (index : ℕ) → field_index table header ≡ Some index → table_with_field table header ≡ table
unfolding table_with_field
known_table table header index e = ap (table_by table header) e

-- a field that is an entry is written by its index, and the fields after it by the same table
known_fields : (table : Table) (header : Header) (headers : List Header) (index : ℕ) → field_index table header ≡ Some index
    → encoded_fields table (header ∷ headers) ≡ integer_with INDEXED_MARK INDEXED_BITS index ++ encoded_fields table headers
known_fields table header headers index e =
    ap (λ (o : List ℕ). o ++ encoded_fields (table_with_field table header) headers) (known_field table header index e)
    ∙ ap (λ (t : Table). integer_with INDEXED_MARK INDEXED_BITS index ++ encoded_fields t headers) (known_table table header index e)

known_tables : (table : Table) (header : Header) (headers : List Header) (index : ℕ) → field_index table header ≡ Some index → table_with_fields table (header ∷ headers) ≡ table_with_fields table headers
known_tables table header headers index e = ap (λ (t : Table). table_with_fields t headers) (known_table table header index e)

drop_at : {A : Type 0} (xs : List A) (at : ℕ) (x : A) → at < length xs → x ≡ get_or xs at x → drop at xs ≡ x ∷ drop (at + 1) xs
drop_at [] at x low e = absurd (omega arith)
drop_at (y ∷ ys) zero x low e = ap (λ z. z ∷ ys) (sym e)
drop_at (y ∷ ys) (suc at) x low e = drop_at ys at x (omega arith) e ∙ ap (λ k. x ∷ drop k (y ∷ ys)) (let f : suc (at + 1) ≡ suc at + 1 = omega arith in f)

drop_all : {A : Type 0} (xs : List A) → drop (length xs) xs ≡ []
drop_all [] = refl
drop_all (x ∷ xs) = drop_all xs

pub known_none : (table : Table) (headers : List Header) (old : List ℕ) → AreKnown table headers 0 old old
known_none table headers old = record { few = omega arith; written = refl; stays = refl; extends = extends_none old old refl }

pub known_more : (table : Table) (headers : List Header) (at : ℕ) (header : Header) (index : ℕ) (old now new : List ℕ) → at < length headers → header ≡ get_or headers at header
    → field_index table header ≡ Some index → new ≡ now ++ integer_with INDEXED_MARK INDEXED_BITS index → AreKnown table headers at old now → AreKnown table headers (at + 1) old new
known_more table headers at header index old now new low is found added known =
    let rest = drop_at headers at header low is in
    record {
      few = omega (arith, low);
      written =
          ap (λ (o : List ℕ). o ++ encoded_fields table (drop (at + 1) headers)) added
          ∙ append_assoc now (integer_with INDEXED_MARK INDEXED_BITS index) (encoded_fields table (drop (at + 1) headers))
          ∙ ap (λ (o : List ℕ). now ++ o) (sym (known_fields table header (drop (at + 1) headers) index found))
          ∙ ap (λ (hs : List Header). now ++ encoded_fields table hs) (sym rest)
          ∙ known.written;
      stays = sym (known_tables table header (drop (at + 1) headers) index found) ∙ ap (λ (hs : List Header). table_with_fields table hs) (sym rest) ∙ known.stays;
      extends = extends_after old now new (integer_with INDEXED_MARK INDEXED_BITS index) known.extends added;
    }

-- ---- blocks before which nothing is to be told

update_none : (limit : ℕ) (table : Table) → limit ≡ table.limit → size_update limit table ≡ []
update_none limit table e = cond-true _ _ _ (eq-eqb limit table.limit e)

sized_none : (limit : ℕ) (table : Table) → limit ≡ table.limit → table_sized limit table ≡ table
sized_none limit table e = cond-true _ _ _ (eq-eqb limit table.limit e)

table_told : (w : Writing) → IsTold w → table_before w ≡ w.table
table_told w told = ap (λ (t : Table). table_sized w.last t) (sized_none w.least w.table told.least) ∙ sized_none w.last w.table told.last

none_told : (w : Writing) → IsTold w → size_updates w ≡ []
none_told w told =
    ap (λ (o : List ℕ). o ++ size_update w.last (table_sized w.least w.table)) (update_none w.least w.table told.least)
    ∙ ap (λ (t : Table). size_update w.last t) (sized_none w.least w.table told.least)
    ∙ update_none w.last w.table told.last

told_octets : (w : Writing) (headers : List Header) → IsTold w → encoded_block w headers ≡ encoded_fields w.table headers
told_octets w headers told =
    ap (λ (o : List ℕ). o ++ encoded_fields (table_before w) headers) (none_told w told) ∙ ap (λ (t : Table). encoded_fields t headers) (table_told w told)

told_after : (w : Writing) (headers : List Header) → IsTold w → writing_after w headers ≡ writing_with (table_with_fields w.table headers)
told_after w headers told = ap (λ (t : Table). writing_with (table_with_fields t headers)) (table_told w told)

told_same : (w : Writing) → IsTold w → w ≡ writing_with w.table
told_same w told =
    ap (λ (n : ℕ). let x : Writing = record { table = w.table; least = n; last = w.last } in x) told.least
    ∙ ap (λ (n : ℕ). let x : Writing = record { table = w.table; least = w.table.limit; last = n } in x) told.last

-- all fields are entries
pub all_known : (w : Writing) (headers : List Header) (known : ℕ) (old new : List ℕ) → IsTold w → known ≡ length headers → AreKnown w.table headers known old new → new ≡ old ++ encoded_block w headers
all_known w headers known old new told all are =
    sym (append-nil new)
    ∙ ap (λ (hs : List Header). new ++ encoded_fields w.table hs) (sym (ap (λ k. drop k headers) all ∙ drop_all headers))
    ∙ are.written
    ∙ ap (λ (o : List ℕ). old ++ o) (sym (told_octets w headers told))

pub all_stays : (w : Writing) (headers : List Header) (known : ℕ) (old new : List ℕ) → IsTold w → known ≡ length headers → AreKnown w.table headers known old new → w ≡ writing_after w headers
all_stays w headers known old new told all are =
    told_same w told
    ∙ ap (λ (hs : List Header). writing_with (table_with_fields w.table hs)) (sym (ap (λ k. drop k headers) all ∙ drop_all headers))
    ∙ ap writing_with are.stays
    ∙ sym (told_after w headers told)

-- the fields that are left are written
pub rest_known : (w : Writing) (headers : List Header) (known : ℕ) (old now new : List ℕ) → IsTold w → AreKnown w.table headers known old now
    → new ≡ now ++ encoded_block w (drop known headers) → new ≡ old ++ encoded_block w headers
rest_known w headers known old now new told are added =
    added ∙ ap (λ (o : List ℕ). now ++ o) (told_octets w (drop known headers) told) ∙ are.written ∙ ap (λ (o : List ℕ). old ++ o) (sym (told_octets w headers told))

pub rest_stays : (w new : Writing) (headers : List Header) (known : ℕ) (old now : List ℕ) → IsTold w → AreKnown w.table headers known old now → new ≡ writing_after w (drop known headers) → new ≡ writing_after w headers
rest_stays w new headers known old now told are after = after ∙ told_after w (drop known headers) told ∙ ap writing_with are.stays ∙ sym (told_after w headers told)

pub rest_small : (headers : List Header) (known most : ℕ) → list_size headers ≤ most → list_size (drop known headers) ≤ most
rest_small headers known most small = let parts = sum_by-take-drop size_of headers known in omega arith
