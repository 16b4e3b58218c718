-- One number's row in a list, where the row of any number changes.
use Rattle.std.proofs.Common.{◌≡◌, ◌≢◌, ℕ, inl, inr, cond, eqb, Some, None, List, [], ◌∷◌, ◌++◌, refl, ap, sym, ◌∙◌, subst}
use Rattle.std.proofs.lemmas.Bool.{eq-eqb, ne_eqb, cond-true, cond-false}
use Rattle.std.proofs.lemmas.Bool.Decides.{eqb_tells}
use Rattle.h2_flow.specs.KeyedRows.{row_at, rows_with, rows_without, AreApart}

-- the row that stands first, if it is the number's
hit : {A : Type 0} (key : A → ℕ) (number : ℕ) (row : A) (rows : List A) → key row ≡ number → row_at key number (row ∷ rows) ≡ Some row
hit key number row rows e = cond-true (eqb (key row) number) (Some row) (row_at key number rows) (eq-eqb (key row) number e)

miss : {A : Type 0} (key : A → ℕ) (number : ℕ) (row : A) (rows : List A) → key row ≢ number → row_at key number (row ∷ rows) ≡ row_at key number rows
miss key number row rows ne = cond-false (eqb (key row) number) (Some row) (row_at key number rows) (ne_eqb (key row) number ne)

with_hit : {A : Type 0} (key : A → ℕ) (new row : A) (rows : List A) → key row ≡ key new → rows_with key new (row ∷ rows) ≡ new ∷ rows
with_hit key new row rows e = cond-true (eqb (key row) (key new)) (new ∷ rows) (row ∷ rows_with key new rows) (eq-eqb (key row) (key new) e)

with_miss : {A : Type 0} (key : A → ℕ) (new row : A) (rows : List A) → key row ≢ key new → rows_with key new (row ∷ rows) ≡ row ∷ rows_with key new rows
with_miss key new row rows ne = cond-false (eqb (key row) (key new)) (new ∷ rows) (row ∷ rows_with key new rows) (ne_eqb (key row) (key new) ne)

without_hit : {A : Type 0} (key : A → ℕ) (number : ℕ) (row : A) (rows : List A) → key row ≡ number → rows_without key number (row ∷ rows) ≡ rows
without_hit key number row rows e = cond-true (eqb (key row) number) rows (row ∷ rows_without key number rows) (eq-eqb (key row) number e)

without_miss : {A : Type 0} (key : A → ℕ) (number : ℕ) (row : A) (rows : List A) → key row ≢ number → rows_without key number (row ∷ rows) ≡ row ∷ rows_without key number rows
without_miss key number row rows ne = cond-false (eqb (key row) number) rows (row ∷ rows_without key number rows) (ne_eqb (key row) number ne)

-- what is found has the number
pub row_at-named : {A : Type 0} (key : A → ℕ) (number : ℕ) (rows : List A) (row : A) → row_at key number rows ≡ Some row → key row ≡ number
row_at-named key number [] row found = cc
row_at-named key number (first ∷ rows) row found =
    elim (eqb_tells (key first) number) [
      | inl h ↦ let same : Some first ≡ Some row = sym (hit key number first rows h.1) ∙ found in let is : first ≡ row = cc in ap key (sym is) ∙ h.1
      | inr h ↦ row_at-named key number rows row (sym (miss key number first rows h.1) ∙ found)
    ]

-- a row that was put is found
pub row_at-with_same : {A : Type 0} (key : A → ℕ) (new : A) (rows : List A) (row : A) → row_at key (key new) rows ≡ Some row → row_at key (key new) (rows_with key new rows) ≡ Some new
row_at-with_same key new [] row found = cc
row_at-with_same key new (first ∷ rows) row found =
    elim (eqb_tells (key first) (key new)) [
      | inl h ↦ ap (λ l. row_at key (key new) l) (with_hit key new first rows h.1) ∙ hit key (key new) new rows refl
      | inr h ↦ ap (λ l. row_at key (key new) l) (with_miss key new first rows h.1) ∙ (miss key (key new) first (rows_with key new rows) h.1 ∙ row_at-with_same key new rows row (sym (miss key (key new) first rows h.1) ∙ found))
    ]

-- and every other number's stays
pub row_at-with_other : {A : Type 0} (key : A → ℕ) (number : ℕ) (new : A) (rows : List A) → key new ≢ number → row_at key number (rows_with key new rows) ≡ row_at key number rows
row_at-with_other key number new [] ne = refl
row_at-with_other key number new (first ∷ rows) ne =
    elim (eqb_tells (key first) (key new)) [
      | inl h ↦ ap (λ l. row_at key number l) (with_hit key new first rows h.1) ∙ (miss key number new rows ne ∙ sym (miss key number first rows (λ e. ne (sym h.1 ∙ e))))
      | inr h ↦ ap (λ l. row_at key number l) (with_miss key new first rows h.1) ∙ ap (λ o. cond (eqb (key first) number) (Some first) o) (row_at-with_other key number new rows ne)
    ]

-- a row that was added is found, and every other number's stays
pub row_at-push_same : {A : Type 0} (key : A → ℕ) (number : ℕ) (new : A) (rows : List A) → key new ≡ number → row_at key number rows ≡ None → row_at key number (rows ++ new ∷ []) ≡ Some new
row_at-push_same key number new [] e none = hit key number new [] e
row_at-push_same key number new (first ∷ rows) e none =
    elim (eqb_tells (key first) number) [
      | inl h ↦ let no : Some first ≡ None = sym (hit key number first rows h.1) ∙ none in absurd (cc no)
      | inr h ↦ miss key number first (rows ++ new ∷ []) h.1 ∙ row_at-push_same key number new rows e (sym (miss key number first rows h.1) ∙ none)
    ]

pub row_at-push_other : {A : Type 0} (key : A → ℕ) (number : ℕ) (new : A) (rows : List A) → key new ≢ number → row_at key number (rows ++ new ∷ []) ≡ row_at key number rows
row_at-push_other key number new [] ne = miss key number new [] ne
row_at-push_other key number new (first ∷ rows) ne = ap (λ o. cond (eqb (key first) number) (Some first) o) (row_at-push_other key number new rows ne)

-- a number whose row was taken out has none, and every other number's stays
pub row_at-without_same : {A : Type 0} (key : A → ℕ) (number : ℕ) (rows : List A) → AreApart key rows → row_at key number (rows_without key number rows) ≡ None
row_at-without_same key number [] apart = refl
row_at-without_same key number (first ∷ rows) apart =
    elim (eqb_tells (key first) number) [
      | inl h ↦ ap (λ l. row_at key number l) (without_hit key number first rows h.1) ∙ (ap (λ s. row_at key s rows) (sym h.1) ∙ apart.0)
      | inr h ↦ ap (λ l. row_at key number l) (without_miss key number first rows h.1) ∙ (miss key number first (rows_without key number rows) h.1 ∙ row_at-without_same key number rows apart.1)
    ]

pub row_at-without_other : {A : Type 0} (key : A → ℕ) (number gone : ℕ) (rows : List A) → gone ≢ number → row_at key number (rows_without key gone rows) ≡ row_at key number rows
row_at-without_other key number gone [] ne = refl
row_at-without_other key number gone (first ∷ rows) ne =
    elim (eqb_tells (key first) gone) [
      | inl h ↦ ap (λ l. row_at key number l) (without_hit key gone first rows h.1) ∙ sym (miss key number first rows (λ e. ne (sym h.1 ∙ e)))
      | inr h ↦ ap (λ l. row_at key number l) (without_miss key gone first rows h.1) ∙ ap (λ o. cond (eqb (key first) number) (Some first) o) (row_at-without_other key number gone rows ne)
    ]

-- a number that has no row gets none where another's is put or taken out
stays_none : {A : Type 0} (key : A → ℕ) (number gone : ℕ) (rows : List A) → row_at key number rows ≡ None → AreApart key rows → row_at key number (rows_without key gone rows) ≡ None
stays_none key number gone rows none apart =
    elim (eqb_tells gone number) [
      | inl h ↦ ap (λ s. row_at key number (rows_without key s rows)) h.1 ∙ row_at-without_same key number rows apart
      | inr h ↦ row_at-without_other key number gone rows h.1 ∙ none
    ]

none_with : {A : Type 0} (key : A → ℕ) (number : ℕ) (new : A) (rows : List A) → row_at key number rows ≡ None → row_at key number (rows_with key new rows) ≡ None
none_with key number new [] none = refl
none_with key number new (first ∷ rows) none =
    elim (eqb_tells (key first) number) [
      | inl h ↦ let no : Some first ≡ None = sym (hit key number first rows h.1) ∙ none in absurd (cc no)
      | inr h ↦
          let rest : row_at key number rows ≡ None = sym (miss key number first rows h.1) ∙ none in
          elim (eqb_tells (key first) (key new)) [
            | inl k ↦ ap (λ l. row_at key number l) (with_hit key new first rows k.1) ∙ (miss key number new rows (λ e. h.1 (k.1 ∙ e)) ∙ rest)
            | inr k ↦ ap (λ l. row_at key number l) (with_miss key new first rows k.1) ∙ (miss key number first (rows_with key new rows) h.1 ∙ none_with key number new rows rest)
          ]
    ]

-- no change makes two rows one number's
pub AreApart-with : {A : Type 0} (key : A → ℕ) (new : A) (rows : List A) → AreApart key rows → AreApart key (rows_with key new rows)
AreApart-with key new [] apart = tt
AreApart-with key new (first ∷ rows) apart =
    elim (eqb_tells (key first) (key new)) [
      | inl h ↦ subst (AreApart key) (sym (with_hit key new first rows h.1)) (ap (λ s. row_at key s rows) (sym h.1) ∙ apart.0, apart.1)
      | inr h ↦ subst (AreApart key) (sym (with_miss key new first rows h.1)) (none_with key (key first) new rows apart.0, AreApart-with key new rows apart.1)
    ]

pub AreApart-without : {A : Type 0} (key : A → ℕ) (gone : ℕ) (rows : List A) → AreApart key rows → AreApart key (rows_without key gone rows)
AreApart-without key gone [] apart = tt
AreApart-without key gone (first ∷ rows) apart =
    elim (eqb_tells (key first) gone) [
      | inl h ↦ subst (AreApart key) (sym (without_hit key gone first rows h.1)) apart.1
      | inr h ↦ subst (AreApart key) (sym (without_miss key gone first rows h.1)) (stays_none key (key first) gone rows apart.0 apart.1, AreApart-without key gone rows apart.1)
    ]

pub AreApart-push : {A : Type 0} (key : A → ℕ) (new : A) (rows : List A) → AreApart key rows → row_at key (key new) rows ≡ None → AreApart key (rows ++ new ∷ [])
AreApart-push key new [] apart none = (refl, tt)
AreApart-push key new (first ∷ rows) apart none =
    elim (eqb_tells (key first) (key new)) [
      | inl h ↦ let no : Some first ≡ None = sym (hit key (key new) first rows h.1) ∙ none in absurd (cc no)
      | inr h ↦ (row_at-push_other key (key first) new rows (λ e. h.1 (sym e)) ∙ apart.0, AreApart-push key new rows apart.1 (sym (miss key (key new) first rows h.1) ∙ none))
    ]
