-- What is found by the index of its name is the first that has the name.
use Rattle.std.proofs.Common.{◌≡◌, ℕ, zero, suc, ◌+◌, ◌-◌, ◌<◌, ◌≤◌, Bool, true, false, ◌⊎◌, inl, inr, List, [], ◌∷◌, ◌++◌, map, length, take, drop, refl, ap, sym, ◌∙◌, append_assoc, arith}
use Rattle.std.specs.Prelude.{Option, Some, None, find, slice_get, nat_lt, if◌then◌else◌}
use Rattle.std.proofs.lemmas.List.{map-append, length-map, length_push, length-take, take-append-drop, drop_all}
use Rattle.std.proofs.lemmas.Bool.{lt-ltb, ltb-true}
use Rattle.design_tree.specs.declared.leaves.Name.{Name}
use Rattle.name_tables.specs.Labels.{Label, same_label}
use Rattle.name_tables.specs.Lists.{index_from, index_in}
use Rattle.check_rules.specs.Scopes.{and_then, is_name}
use Rattle.check_rules.specs.References.{named}
use Rattle.design_scopes.specs.Tables.{get_below}

-- ---- the first index

abbrev pub or_else : Option ℕ → Option ℕ → Option ℕ
or_else (Some k) o = Some k
or_else None o = o

pub index_append : (label : Label) (i : ℕ) (xs ys : List Label) → index_from label i (xs ++ ys) ≡ or_else (index_from label i xs) (index_from label (i + length xs) ys)
index_append label i [] ys = ap (λ k. index_from label k ys) (omega arith)
index_append label i (x ∷ xs) ys = tested (same_label label x) (index_append label (i + 1) xs ys ∙ ap (λ k. or_else (index_from label (i + 1) xs) (index_from label k ys)) (omega arith))
  where
    tested : (b : Bool) → index_from label (i + 1) (xs ++ ys) ≡ or_else (index_from label (i + 1) xs) (index_from label (i + length (x ∷ xs)) ys)
        → (if b then Some i else index_from label (i + 1) (xs ++ ys)) ≡ or_else (if b then Some i else index_from label (i + 1) xs) (index_from label (i + length (x ∷ xs)) ys)
    tested true later = refl
    tested false later = later

some_one : {A : Type 0} (a b : A) → Some a ≡ Some b → a ≡ b
some_one a b e = cc

pub index_within : (label : Label) (i k : ℕ) (xs : List Label) → index_from label i xs ≡ Some k → (i ≤ k) × (k < i + length xs)
index_within label i k [] e = absurd (cc)
index_within label i k (x ∷ xs) e = tested (same_label label x) (index_within label (i + 1) k xs) e
  where
    tested : (b : Bool) → (index_from label (i + 1) xs ≡ Some k → (i + 1 ≤ k) × (k < i + 1 + length xs)) → (if b then Some i else index_from label (i + 1) xs) ≡ Some k → (i ≤ k) × (k < i + length (x ∷ xs))
    tested true later h = let same : i ≡ k = some_one i k h in (omega arith, omega arith)
    tested false later h = let bounds = later h in let low = bounds.0 in let high = bounds.1 in (omega arith, omega arith)

-- ---- what stands at an index

pub get_seam : {A : Type 0} (front : List A) (x : A) (xs : List A) → slice_get (front ++ x ∷ xs) (length front) ≡ Some x
get_seam [] x xs = refl
get_seam (y ∷ front) x xs = get_seam front x xs

pub get_front : {A : Type 0} (xs ys : List A) (k : ℕ) → k < length xs → slice_get (xs ++ ys) k ≡ slice_get xs k
get_front [] ys k low = absurd (omega arith)
get_front (x ∷ xs) ys zero low = refl
get_front (x ∷ xs) ys (suc k) low = get_front xs ys k (omega arith)

pub get_past : {A : Type 0} (xs : List A) (k : ℕ) → length xs ≤ k → slice_get xs k ≡ None
get_past [] k high = refl
get_past (x ∷ xs) zero high = absurd (omega arith)
get_past (x ∷ xs) (suc k) high = get_past xs k (omega arith)

-- ---- the first that passes a test, where labels tell whether it does

find_from : {A : Type 0} (label : Label) (f : A → Label) (test : A → Bool) → ((x : A) → same_label label (f x) ≡ test x) → (front xs : List A) (i : ℕ) → i ≡ length front
    → and_then (index_from label i (map f xs)) (slice_get (front ++ xs)) ≡ find test xs
find_from label f test tells front [] i e = refl
find_from label f test tells front (x ∷ xs) i e =
    tested (same_label label (f x)) (test x) (tells x)
    (ap (λ l. and_then (index_from label (i + 1) (map f xs)) (slice_get l)) (sym (append_assoc front (x ∷ []) xs)) ∙ find_from label f test tells (front ++ x ∷ []) xs (i + 1) (ap (λ k. k + 1) e ∙ sym (length_push front x)))
  where
    tested : (b c : Bool) → b ≡ c → and_then (index_from label (i + 1) (map f xs)) (slice_get (front ++ x ∷ xs)) ≡ find test xs
        → and_then (if b then Some i else index_from label (i + 1) (map f xs)) (slice_get (front ++ x ∷ xs)) ≡ (if c then Some x else find test xs)
    tested true true same later = ap (slice_get (front ++ x ∷ xs)) e ∙ get_seam front x xs
    tested true false same later = absurd (cc)
    tested false true same later = absurd (cc)
    tested false false same later = later

pub find_by_label : {A : Type 0} (label : Label) (f : A → Label) (test : A → Bool) → ((x : A) → same_label label (f x) ≡ test x) → (xs : List A)
    → and_then (index_in label (map f xs)) (slice_get xs) ≡ find test xs
find_by_label label f test tells xs = find_from label f test tells [] xs 0 refl

-- The first that has a name is found by the index of the name.
pub find_named : {A : Type 0} (name : Name) (f : A → Name) (xs : List A)
    → and_then (index_in (named name).label (map (λ x. (named (f x)).label) xs)) (slice_get xs) ≡ find (λ x. is_name name (f x)) xs
find_named name f xs = find_by_label (named name).label (λ x. (named (f x)).label) (λ x. is_name name (f x)) (λ x. refl) xs

-- ---- the first of those before a place

below_yes : {A : Type 0} (n k : ℕ) (xs : List A) → k < n → get_below n xs k ≡ slice_get xs k
below_yes n k xs low = ap (λ b. if b then slice_get xs k else None) (lt-ltb k n low)

below_no : {A : Type 0} (n k : ℕ) (xs : List A) → n ≤ k → get_below n xs k ≡ None
below_no n k xs high = ap (λ b. if b then slice_get xs k else None) (no_lt (nat_lt k n) refl)
  where
    no_lt : (b : Bool) → nat_lt k n ≡ b → nat_lt k n ≡ false
    no_lt true e = absurd (let low = ltb-true k n e in omega arith)
    no_lt false e = e

before_parts : {A : Type 0} (label : Label) (f : A → Label) (n : ℕ) (xs front rest : List A) → xs ≡ front ++ rest → length front ≤ n → ((rest ≡ []) ⊎ (length front ≡ n))
    → and_then (index_in label (map f xs)) (get_below n xs) ≡ and_then (index_in label (map f front)) (slice_get front)
before_parts {A} label f n xs front rest split few ends =
    ap (λ l. and_then (index_in label l) (get_below n xs)) (ap (map f) split ∙ map-append f front rest) ∙ ap (λ o. and_then o (get_below n xs)) (index_append label 0 (map f front) (map f rest))
    ∙ cases (index_in label (map f front)) refl (index_from label (0 + length (map f front)) (map f rest)) refl
  where
    many : length (map f front) ≡ length front
    many = length-map front f

    cases : (o : Option ℕ) → index_in label (map f front) ≡ o → (p : Option ℕ) → index_from label (0 + length (map f front)) (map f rest) ≡ p
        → and_then (or_else o p) (get_below n xs) ≡ and_then o (slice_get front)
    cases (Some k) here p e =
        let low : k < length front = let bounds = (index_within label 0 k (map f front) here).1 in let m = many in omega arith in
        below_yes n k xs (omega arith) ∙ ap (λ l. slice_get l k) split ∙ get_front front rest k low
    cases None here None e = refl
    cases None here (Some k) e = elim ends [
      | inl nothing ↦ absurd (let none : index_from label (0 + length (map f front)) (map f rest) ≡ None = ap (λ l. index_from label (0 + length (map f front)) (map f l)) nothing in cc)
      | inr full ↦ below_no n k xs (let low = (index_within label (0 + length (map f front)) k (map f rest) e).0 in let m = many in omega arith)
    ]

pub find_before : {A : Type 0} (name : Name) (f : A → Name) (n : ℕ) (xs : List A)
    → and_then (index_in (named name).label (map (λ x. (named (f x)).label) xs)) (get_below n xs) ≡ find (λ x. is_name name (f x)) (take n xs)
find_before {A} name f n xs =
    before_parts (named name).label (λ x. (named (f x)).label) n xs (take n xs) (drop n xs) (sym (take-append-drop n xs)) (let long = length-take n xs in omega arith) ends ∙ find_named name f (take n xs)
  where
    short_or_long : (a b : ℕ) → (b ≤ a) ⊎ (a ≤ b)
    short_or_long a b = grind arith

    ends : (drop n xs ≡ []) ⊎ (length (take n xs) ≡ n)
    ends = elim (short_or_long n (length xs)) [ inl short ↦ inl (drop_all n xs short) | inr long ↦ inr (let taken = length-take n xs in omega arith) ]
