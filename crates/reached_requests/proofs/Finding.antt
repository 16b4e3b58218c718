-- What is found among the first so many by the index of its name.
use Rattle.std.proofs.Common.{◌≡◌, ℕ, zero, suc, ◌+◌, ◌<◌, ◌≤◌, Bool, true, false, List, [], ◌∷◌, map, take, refl, ap, ◌∙◌, arith}
use Rattle.std.specs.Prelude.{Some, None, find, slice_get, if◌then◌else◌}
use Rattle.name_tables.specs.Labels.{Label, same_label}
use Rattle.name_tables.specs.Lists.{index_from}

some_one : {A : Type 0} (a b : A) → Some a ≡ Some b → a ≡ b
some_one a b e = cc

index_low : (label : Label) (i k : ℕ) (xs : List Label) → index_from label i xs ≡ Some k → i ≤ k
index_low label i k [] e = absurd (cc)
index_low label i k (x ∷ xs) e = tested (same_label label x) (index_low label (i + 1) k xs) e
  where
    tested : (b : Bool) → (index_from label (i + 1) xs ≡ Some k → i + 1 ≤ k) → (if b then Some i else index_from label (i + 1) xs) ≡ Some k → i ≤ k
    tested true later h = let same : i ≡ k = some_one i k h in omega arith
    tested false later h = let low = later h in omega arith

-- a name that is found stands where it is found first
pub find_below : {A : Type 0} (label : Label) (f : A → Label) (xs : List A) (n i j : ℕ) → index_from label i (map f xs) ≡ Some (i + j) → j < n
    → find (λ x. same_label label (f x)) (take n xs) ≡ slice_get xs j
find_below label f [] n i j e low = absurd (cc)
find_below label f (x ∷ xs) zero i j e low = absurd (omega arith)
find_below label f (x ∷ xs) (suc n) i zero e low = tested (same_label label (f x)) e
  where
    tested : (b : Bool) → (if b then Some i else index_from label (i + 1) (map f xs)) ≡ Some (i + 0) → (if b then Some x else find (λ y. same_label label (f y)) (take n xs)) ≡ Some x
    tested true h = refl
    tested false h = absurd (let high = index_low label (i + 1) (i + 0) (map f xs) h in omega arith)
find_below label f (x ∷ xs) (suc n) i (suc j) e low = tested (same_label label (f x)) (λ h. find_below label f xs n (i + 1) j h (omega arith)) e
  where
    next : i + suc j ≡ i + 1 + j
    next = omega arith

    tested : (b : Bool) → (index_from label (i + 1) (map f xs) ≡ Some (i + 1 + j) → find (λ y. same_label label (f y)) (take n xs) ≡ slice_get xs j)
        → (if b then Some i else index_from label (i + 1) (map f xs)) ≡ Some (i + suc j)
        → (if b then Some x else find (λ y. same_label label (f y)) (take n xs)) ≡ slice_get xs j
    tested true later h = absurd (let same : i ≡ i + suc j = some_one i (i + suc j) h in omega arith)
    tested false later h = later (h ∙ ap Some next)

-- a name that stands first behind them is none of theirs
pub find_behind : {A : Type 0} (label : Label) (f : A → Label) (xs : List A) (n i k : ℕ) → index_from label i (map f xs) ≡ Some k → i + n ≤ k
    → find (λ x. same_label label (f x)) (take n xs) ≡ None
find_behind label f [] n i k e high = absurd (cc)
find_behind label f (x ∷ xs) zero i k e high = refl
find_behind label f (x ∷ xs) (suc n) i k e high = tested (same_label label (f x)) (λ h. find_behind label f xs n (i + 1) k h (omega arith)) e
  where
    tested : (b : Bool) → (index_from label (i + 1) (map f xs) ≡ Some k → find (λ y. same_label label (f y)) (take n xs) ≡ None)
        → (if b then Some i else index_from label (i + 1) (map f xs)) ≡ Some k → (if b then Some x else find (λ y. same_label label (f y)) (take n xs)) ≡ None
    tested true later h = absurd (let same : i ≡ k = some_one i k h in omega arith)
    tested false later h = later h

pub find_nowhere : {A : Type 0} (label : Label) (f : A → Label) (xs : List A) (n i : ℕ) → index_from label i (map f xs) ≡ None → find (λ x. same_label label (f x)) (take n xs) ≡ None
find_nowhere label f [] zero i e = refl
find_nowhere label f [] (suc n) i e = refl
find_nowhere label f (x ∷ xs) zero i e = refl
find_nowhere label f (x ∷ xs) (suc n) i e = tested (same_label label (f x)) (find_nowhere label f xs n (i + 1)) e
  where
    tested : (b : Bool) → (index_from label (i + 1) (map f xs) ≡ None → find (λ y. same_label label (f y)) (take n xs) ≡ None)
        → (if b then Some i else index_from label (i + 1) (map f xs)) ≡ None → (if b then Some x else find (λ y. same_label label (f y)) (take n xs)) ≡ None
    tested true later h = absurd (cc)
    tested false later h = later h
