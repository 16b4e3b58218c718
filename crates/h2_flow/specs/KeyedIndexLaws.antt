-- The index of a number's row in a list.
use Rattle.std.proofs.Common.{◌≡◌, ℕ, zero, suc, ◌<◌, ◌≤◌, inl, inr, IfSome, IfNone, is_some, true, false, cond, ltb, Option, Some, None, List, [], ◌∷◌, length, get_or, refl, ap, sym, ◌∙◌, arith}
use Rattle.std.specs.List.{position, position_or_len}
use Rattle.std.proofs.lemmas.Bool.{eqb-true, cond-true, cond-false, cases_lt, lt-ltb}
use Rattle.std.proofs.lemmas.List.Quantifiers.{position-Some}
use Rattle.std.proofs.lemmas.List.Sums.{fails_before_first}
use Rattle.h2_flow.specs.KeyedRows.{is_row_of, row_at, rows_with, rows_without, IsAbsent, IsIndexOf}

-- where no row is the number's, it has none
absent_by : {A : Type 0} (key : A → ℕ) (number : ℕ) (rows : List A) → ((k : ℕ) (d : A) → k < length rows → is_row_of key number (get_or rows k d) ≡ false) → IsAbsent key number rows
absent_by key number [] none = record { found = refl; put = λ new e. refl; removed = refl }
absent_by key number (row ∷ rows) none =
    let no : is_row_of key number row ≡ false = none 0 row (omega arith) in
    let rest = absent_by key number rows (λ k d lt. none (suc k) d (omega arith)) in
    record {
      found = cond-false (is_row_of key number row) (Some row) (row_at key number rows) no ∙ rest.found;
      put = λ new e. cond-false (is_row_of key (key new) row) (new ∷ rows) (row ∷ rows_with key new rows) (ap (λ s. is_row_of key s row) e ∙ no) ∙ ap (λ others. row ∷ others) (rest.put new e);
      removed = cond-false (is_row_of key number row) rows (row ∷ rows_without key number rows) no ∙ ap (λ others. row ∷ others) rest.removed;
    }

no_first : {A : Type 0} (key : A → ℕ) (number : ℕ) (rows : List A) → position (is_row_of key number) rows ≡ None → length rows ≤ position_or_len (is_row_of key number) rows
no_first key number rows e =
    let n = position_or_len (is_row_of key number) rows in
    elim (cases_lt n (length rows)) [
      | inl lt ↦ let some : cond (ltb n (length rows)) (Some n) None ≡ Some n = cond-true (ltb n (length rows)) (Some n) None (lt-ltb n (length rows) lt) in absurd (cc)
      | inr le ↦ le
    ]

pub no_index : {A : Type 0} (key : A → ℕ) (number : ℕ) (rows : List A) → position (is_row_of key number) rows ≡ None → IsAbsent key number rows
no_index key number rows e =
    let n = position_or_len (is_row_of key number) rows in
    let past : length rows ≤ n = no_first key number rows e in
    absent_by key number rows (λ k d lt. fails_before_first (is_row_of key number) rows k d (omega arith))

-- the first row that is the number's stands at its index
index_by : {A : Type 0} (key : A → ℕ) (number : ℕ) (rows : List A) (at : ℕ) → at < length rows
    → ((d : A) → is_row_of key number (get_or rows at d) ≡ true)
    → ((k : ℕ) (d : A) → k < at → is_row_of key number (get_or rows k d) ≡ false) → IsIndexOf key number rows at
index_by key number [] at lt passes before = absurd (omega arith)
index_by key number (row ∷ rows) zero lt passes before = record {
  within = lt;
  found = λ d. cond-true (is_row_of key number row) (Some row) (row_at key number rows) (passes d);
  named = λ d. eqb-true (key row) number (passes d);
  put = λ new e. cond-true (is_row_of key (key new) row) (new ∷ rows) (row ∷ rows_with key new rows) (ap (λ s. is_row_of key s row) e ∙ passes row);
  removed = cond-true (is_row_of key number row) rows (row ∷ rows_without key number rows) (passes row);
}
index_by key number (row ∷ rows) (suc at) lt passes before =
    let no : is_row_of key number row ≡ false = before 0 row (omega arith) in
    let rest = index_by key number rows at (omega arith) passes (λ k d below. before (suc k) d (omega arith)) in
    record {
      within = lt;
      found = λ d. cond-false (is_row_of key number row) (Some row) (row_at key number rows) no ∙ rest.found d;
      named = λ d. rest.named d;
      put = λ new e. cond-false (is_row_of key (key new) row) (new ∷ rows) (row ∷ rows_with key new rows) (ap (λ s. is_row_of key s row) e ∙ no) ∙ ap (λ others. row ∷ others) (rest.put new e);
      removed = cond-false (is_row_of key number row) rows (row ∷ rows_without key number rows) no ∙ ap (λ others. row ∷ others) rest.removed;
    }

pub is_index : {A : Type 0} (key : A → ℕ) (number : ℕ) (rows : List A) (at : ℕ) → position (is_row_of key number) rows ≡ Some at → IsIndexOf key number rows at
is_index key number [] at e = absurd (cc)
is_index key number (row ∷ rows) at e =
    index_by key number (row ∷ rows) at (position-Some (is_row_of key number) (row ∷ rows) at row e).0 (λ d. (position-Some (is_row_of key number) (row ∷ rows) at d e).1) (λ k d lt. (position-Some (is_row_of key number) (row ∷ rows) at d e).2 k lt)

-- what the index that was found says
pub index_says : {A : Type 0} (key : A → ℕ) (number : ℕ) (rows : List A) (index : Option ℕ) → index ≡ position (is_row_of key number) rows → IfNone index (IsAbsent key number rows) × IfSome index (IsIndexOf key number rows)
index_says key number rows None e = (no_index key number rows (sym e), tt)
index_says key number rows (Some at) e = (tt, is_index key number rows at (sym e))

-- a number has a row where it has an index
pub found_by_index : {A : Type 0} (key : A → ℕ) (number : ℕ) (rows : List A) (index : Option ℕ) → IfNone index (IsAbsent key number rows) → IfSome index (IsIndexOf key number rows) → is_some index ≡ is_some (row_at key number rows)
found_by_index key number rows None absent stands = ap is_some (sym absent.found)
found_by_index key number [] (Some at) absent stands = absurd (omega (arith, stands.within))
found_by_index key number (row ∷ rows) (Some at) absent stands = ap is_some (sym (stands.found row))
