-- What stands in a list, at which place, and in which part of it.
use Rattle.std.proofs.Common.{◌≡◌, ℕ, zero, suc, ◌<◌, Bool, true, false, List, [], ◌∷◌, ◌++◌, Some, map, length, get_or, refl, ap, sym, ◌∙◌, subst, inl, inr, arith}
use Rattle.std.specs.Prelude.{Contains, cond, filter, flat_map, slice_get, eqb}
use Rattle.std.proofs.lemmas.Bool.{false≢true, or_cases, or_left, or_right, eqb-true, and_parts}
use Rattle.std.proofs.lemmas.List.{append_assoc, append-nil}
use Rattle.std.proofs.lemmas.List.Elements.{Contains-append_cases}
use Rattle.std.proofs.lemmas.Option.{same_Some}
use Rattle.name_tables.specs.PlaceLaws.{contains_none, contains_here, contains_later, contains_cases}
use Rattle.element_order.specs.Orders.{among, all_among}
use Rattle.body_plans.specs.declared.ordered.OrderedElement.{OrderedElement}
use Rattle.once_laws.specs.Accepted.{number_of}

pub get_contains : {A : Type 0} (xs : List A) (i : ℕ) (x : A) → slice_get xs i ≡ Some x → Contains xs x
get_contains [] i x e = absurd (cc)
get_contains (y ∷ ys) zero x e = subst (λ q. Contains (y ∷ ys) q) (same_Some y x e) (contains_here y ys)
get_contains (y ∷ ys) (suc i) x e = contains_later y ys x (get_contains ys i x e)

pub contains_get : {A : Type 0} (xs : List A) (x : A) → Contains xs x → (i : ℕ) × (i < length xs) × (slice_get xs i ≡ Some x)
contains_get [] x c = absurd (contains_none x c)
contains_get (y ∷ ys) x c =
    elim (contains_cases y ys x c) [
      | inl is ↦ (0, omega arith, ap Some is)
      | inr later ↦ let more = contains_get ys x later in (suc more.0, (let low = more.1 in omega arith), more.2)
    ]

pub filter_contains : {A : Type 0} (keep : A → Bool) (xs : List A) (x : A) → Contains (filter keep xs) x → Contains xs x
filter_contains keep [] x c = c
filter_contains keep (y ∷ ys) x c = here (keep y) c (filter_contains keep ys x)
  where
    here : (b : Bool) → Contains (cond b (y ∷ filter keep ys) (filter keep ys)) x → (Contains (filter keep ys) x → Contains ys x) → Contains (y ∷ ys) x
    here true d more = elim (contains_cases y (filter keep ys) x d) [ inl is ↦ subst (λ q. Contains (y ∷ ys) q) is (contains_here y ys) | inr later ↦ contains_later y ys x (more later) ]
    here false d more = contains_later y ys x (more d)

pub contains_filter : {A : Type 0} (keep : A → Bool) (xs : List A) (x : A) → Contains xs x → keep x ≡ true → Contains (filter keep xs) x
contains_filter keep [] x c k = c
contains_filter keep (y ∷ ys) x c k =
    elim (contains_cases y ys x c) [
      | inl is ↦ subst (λ b. Contains (cond b (y ∷ filter keep ys) (filter keep ys)) x) (sym (ap keep is ∙ k)) (subst (λ q. Contains (y ∷ filter keep ys) q) is (contains_here y (filter keep ys)))
      | inr later ↦ here (keep y) (contains_filter keep ys x later k)
    ]
  where
    here : (b : Bool) → Contains (filter keep ys) x → Contains (cond b (y ∷ filter keep ys) (filter keep ys)) x
    here true d = contains_later y (filter keep ys) x d
    here false d = d

pub contains_map : {A B : Type 0} (f : A → B) (xs : List A) (x : A) → Contains xs x → Contains (map f xs) (f x)
contains_map f [] x c = absurd (contains_none x c)
contains_map f (y ∷ ys) x c =
    elim (contains_cases y ys x c) [
      | inl is ↦ subst (λ q. Contains (f y ∷ map f ys) (f q)) is (contains_here (f y) (map f ys))
      | inr later ↦ contains_later (f y) (map f ys) (f x) (contains_map f ys x later)
    ]

pub flat_contains : {A B P : Type 0} (g : A → List B) (xs : List A) (y : B) → Contains (flat_map g xs) y → ((x : A) → Contains xs x → Contains (g x) y → P) → P
flat_contains g [] y c k = absurd (contains_none y c)
flat_contains g (x ∷ xs) y c k =
    elim (Contains-append_cases (g x) (flat_map g xs) y c) [
      | inl here ↦ k x (contains_here x xs) here
      | inr later ↦ flat_contains g xs y later (λ z d e. k z (contains_later x xs z d) e)
    ]

-- before it and after it
pub record IsParted (A : Type 0) (xs : List A) (x : A) : Type 0 where
  pub front : List A
  pub back : List A
  pub split : xs ≡ front ++ x ∷ back

pub parted : {A : Type 0} (xs : List A) (x : A) → Contains xs x → IsParted A xs x
parted [] x c = absurd (contains_none x c)
parted {A} (y ∷ ys) x c =
    elim (contains_cases y ys x c) [
      | inl is ↦ record { front = []; back = ys; split = ap (λ q. q ∷ ys) is }
      | inr later ↦ let more = parted ys x later in record { front = y ∷ more.front; back = more.back; split = ap (λ r. y ∷ r) more.split }
    ]

pub flat_push : {A B : Type 0} (g : A → List B) (front : List A) (x : A) → flat_map g (front ++ x ∷ []) ≡ flat_map g front ++ g x
flat_push g [] x = append-nil (g x)
flat_push g (y ∷ front) x = ap (λ r. g y ++ r) (flat_push g front x) ∙ sym (append_assoc (g y) (flat_map g front) (g x))

-- ---- numbers
pub all_among_at : (k : ℕ) (ds placed : List ℕ) → all_among ds placed ≡ true → among k ds ≡ true → among k placed ≡ true
all_among_at k [] placed all e = absurd (false≢true e)
all_among_at k (d ∷ ds) placed all e =
    let parts = and_parts (among d placed) (all_among ds placed) all in
    elim (or_cases (eqb k d) (among k ds) e) [
      | inl t ↦ subst (λ q. among q placed ≡ true) (sym (eqb-true k d t)) parts.0
      | inr t ↦ all_among_at k ds placed parts.1 t
    ]

pub among_left : (k : ℕ) (xs ys : List ℕ) → among k xs ≡ true → among k (xs ++ ys) ≡ true
among_left k [] ys e = absurd (false≢true e)
among_left k (x ∷ xs) ys e =
    elim (or_cases (eqb k x) (among k xs) e) [ inl t ↦ or_left (eqb k x) (among k (xs ++ ys)) t | inr t ↦ or_right (eqb k x) (among k (xs ++ ys)) (among_left k xs ys t) ]

pub among_right : (k : ℕ) (xs ys : List ℕ) → among k ys ≡ true → among k (xs ++ ys) ≡ true
among_right k [] ys e = e
among_right k (x ∷ xs) ys e = or_right (eqb k x) (among k (xs ++ ys)) (among_right k xs ys e)

pub among_flat : {A : Type 0} (k : ℕ) (g : A → List ℕ) (xs : List A) (x : A) → Contains xs x → among k (g x) ≡ true → among k (flat_map g xs) ≡ true
among_flat k g [] x c e = absurd (contains_none x c)
among_flat k g (y ∷ ys) x c e =
    elim (contains_cases y ys x c) [
      | inl is ↦ among_left k (g y) (flat_map g ys) (ap (λ q. among k (g q)) is ∙ e)
      | inr later ↦ among_right k (g y) (flat_map g ys) (among_flat k g ys x later e)
    ]

pub get_or_mapped : {A B : Type 0} (f : A → B) (xs : List A) (i : ℕ) (x : A) (d : B) → slice_get xs i ≡ Some x → get_or (map f xs) i d ≡ f x
get_or_mapped f [] i x d e = absurd (cc)
get_or_mapped f (y ∷ ys) zero x d e = ap f (same_Some y x e)
get_or_mapped f (y ∷ ys) (suc i) x d e = get_or_mapped f ys i x d e

-- an element of an order, by its number
pub record IsNumberedAt (order : List OrderedElement) (k : ℕ) : Type 0 where
  pub front : List OrderedElement
  pub one : OrderedElement
  pub back : List OrderedElement
  pub split : order ≡ front ++ one ∷ back
  pub is : k ≡ one.number

pub numbered_at : (order : List OrderedElement) (k : ℕ) → among k (map number_of order) ≡ true → IsNumberedAt order k
numbered_at [] k e = absurd (false≢true e)
numbered_at (o ∷ order) k e =
    elim (or_cases (eqb k o.number) (among k (map number_of order)) e) [
      | inl t ↦ record { front = []; one = o; back = order; split = refl; is = eqb-true k o.number t }
      | inr t ↦ let more = numbered_at order k t in record { front = o ∷ more.front; one = more.one; back = more.back; split = ap (λ r. o ∷ r) more.split; is = more.is }
    ]
