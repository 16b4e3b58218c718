-- Sums over lists, and how often a name stands in a list.
use Rattle.std.proofs.Common.{◌≡◌, ℕ, zero, suc, ◌+◌, ◌≤◌, Bool, true, false, List, [], ◌∷◌, ◌++◌, Option, Some, map, length, refl, ap, sym, ◌∙◌, subst, inl, inr, arith}
use Rattle.std.specs.Prelude.{◌||◌, Contains, flat_map, slice_get, if◌then◌else◌}
use Rattle.std.proofs.lemmas.Bool.{false≢true, cases_Bool, cases_lt, or_cases, or_left, or_right}
use Rattle.name_tables.specs.Labels.{Label, Occurrence, label_at, same_label}
use Rattle.name_tables.specs.Lists.{stands, index_from, index_in}
use Rattle.name_tables.specs.Repeats.{IsRepeat}
use Rattle.name_tables.specs.LabelLaws.{same_label-refl, same_label-one}
use Rattle.name_tables.specs.ListLaws.{stands-append, contains_stands}
use Rattle.name_tables.specs.PlaceLaws.{contains_none, contains_here, contains_later, contains_cases}
use Rattle.check_rules.specs.Scopes.{and_then}
use Rattle.body_order.specs.Cycles.{AreApart}
use Rattle.plan_laws.specs.Once.{sum_of}

-- ---- sums
pub sum_of-append : {A : Type 0} (f : A → ℕ) (xs ys : List A) → sum_of f (xs ++ ys) ≡ sum_of f xs + sum_of f ys
sum_of-append f [] ys = omega arith
sum_of-append f (x ∷ xs) ys = let more = sum_of-append f xs ys in omega arith

pub sum_of-map : {A B : Type 0} (f : B → ℕ) (g : A → B) (xs : List A) → sum_of f (map g xs) ≡ sum_of (λ x. f (g x)) xs
sum_of-map f g [] = refl
sum_of-map f g (x ∷ xs) = ap (λ n. f (g x) + n) (sum_of-map f g xs)

pub sum_of-flat_map : {A B : Type 0} (f : B → ℕ) (g : A → List B) (xs : List A) → sum_of f (flat_map g xs) ≡ sum_of (λ x. sum_of f (g x)) xs
sum_of-flat_map f g [] = refl
sum_of-flat_map f g (x ∷ xs) = sum_of-append f (g x) (flat_map g xs) ∙ ap (λ n. sum_of f (g x) + n) (sum_of-flat_map f g xs)

pub sum_same : {A : Type 0} (f g : A → ℕ) (xs : List A) → ((x : A) → Contains xs x → f x ≡ g x) → sum_of f xs ≡ sum_of g xs
sum_same f g [] h = refl
sum_same f g (x ∷ xs) h =
    let here = h x (contains_here x xs) in
    let more = sum_same f g xs (λ y c. h y (contains_later x xs y c)) in
    omega arith

pub sum_plus : {A : Type 0} (f g : A → ℕ) (xs : List A) → sum_of (λ x. f x + g x) xs ≡ sum_of f xs + sum_of g xs
sum_plus f g [] = omega arith
sum_plus f g (x ∷ xs) = let more = sum_plus f g xs in omega arith

pub sum_least : {A : Type 0} (f g : A → ℕ) (xs : List A) → ((x : A) → Contains xs x → f x ≤ g x) → sum_of f xs ≤ sum_of g xs
sum_least f g [] h = omega arith
sum_least f g (x ∷ xs) h =
    let here = h x (contains_here x xs) in
    let more = sum_least f g xs (λ y c. h y (contains_later x xs y c)) in
    omega arith

-- ---- how often a name stands in a list
abbrev pub one_if : Bool → ℕ
one_if true = 1
one_if false = 0

abbrev pub hit : Label → Label → ℕ
hit l x = one_if (same_label l x)

abbrev pub count : Label → List Label → ℕ
count l xs = sum_of (hit l) xs

pub stands_count : (l : Label) (xs : List Label) → stands l xs ≡ true → 1 ≤ count l xs
stands_count l [] e = absurd (false≢true e)
stands_count l (x ∷ xs) e = here (same_label l x) e (stands_count l xs)
  where
    here : (b : Bool) → (b || stands l xs) ≡ true → (stands l xs ≡ true → 1 ≤ count l xs) → 1 ≤ one_if b + count l xs
    here true e more = omega arith
    here false e more = let n = more e in omega arith

pub count_stands : (l : Label) (xs : List Label) → 1 ≤ count l xs → stands l xs ≡ true
count_stands l [] n = absurd (omega arith)
count_stands l (x ∷ xs) n = here (same_label l x) n (count_stands l xs)
  where
    here : (b : Bool) → 1 ≤ one_if b + count l xs → (1 ≤ count l xs → stands l xs ≡ true) → (b || stands l xs) ≡ true
    here true n more = refl
    here false n more = more (omega arith)

pub absent_count : (l : Label) (xs : List Label) → stands l xs ≡ false → count l xs ≡ 0
absent_count l xs e = elim (cases_lt 0 (count l xs)) [ inl lt ↦ absurd (false≢true (sym e ∙ count_stands l xs (omega arith))) | inr le ↦ omega arith ]

pub count_absent : (l : Label) (xs : List Label) → count l xs ≡ 0 → stands l xs ≡ false
count_absent l xs e = elim (cases_Bool (stands l xs)) [ inl t ↦ absurd (let n = stands_count l xs t in omega arith) | inr f ↦ f ]

-- ---- lists with the same names have the same sums
record IsSplit (l : Label) (xs : List Label) : Type 0 where
  pub front : List Label
  pub back : List Label
  pub split : xs ≡ front ++ l ∷ back

split_at : (l : Label) (xs : List Label) → stands l xs ≡ true → IsSplit l xs
split_at l [] e = absurd (false≢true e)
split_at l (x ∷ xs) e =
    elim (or_cases (same_label l x) (stands l xs) e) [
      | inl t ↦ record { front = []; back = xs; split = ap (λ q. q ∷ xs) (sym (same_label-one l x t)) }
      | inr t ↦ let more = split_at l xs t in record { front = x ∷ more.front; back = more.back; split = ap (λ r. x ∷ r) more.split }
    ]

pub itself : (l : Label) → hit l l ≡ 1
itself l = ap one_if (same_label-refl l)

pub same_sums : (xs ys : List Label) → ((l : Label) → count l xs ≡ count l ys) → (f : Label → ℕ) → sum_of f xs ≡ sum_of f ys
same_sums [] [] h f = refl
same_sums [] (y ∷ ys) h f =
    let n : 0 ≡ hit y y + count y ys = h y in
    let one = itself y in
    absurd (omega arith)
same_sums (x ∷ xs) ys h f =
    let n : hit x x + count x xs ≡ count x ys = h x in
    let one = itself x in
    let at = split_at x ys (count_stands x ys (omega arith)) in
    let more = same_sums xs (at.front ++ at.back) (λ l. less at l) f in
    let whole : sum_of f ys ≡ sum_of f (at.front ++ x ∷ at.back) = ap (sum_of f) at.split in
    let parts = sum_of-append f at.front (x ∷ at.back) in
    let rest = sum_of-append f at.front at.back in
    omega arith
  where
    less : (at : IsSplit x ys) (l : Label) → count l xs ≡ count l (at.front ++ at.back)
    less at l =
        let n : hit l x + count l xs ≡ count l ys = h l in
        let whole : count l ys ≡ count l (at.front ++ x ∷ at.back) = ap (count l) at.split in
        let parts = sum_of-append (hit l) at.front (x ∷ at.back) in
        let rest = sum_of-append (hit l) at.front at.back in
        omega arith

-- ---- names that stand once
pub apart_from_count : (xs : List Label) → ((l : Label) → count l xs ≤ 1) → AreApart xs
apart_from_count [] h = tt
apart_from_count (x ∷ xs) h = (new, apart_from_count xs (λ l. let n : hit l x + count l xs ≤ 1 = h l in omega arith))
  where
    new : stands x xs ≡ false
    new =
        let n : hit x x + count x xs ≤ 1 = h x in
        let one = itself x in
        count_absent x xs (omega arith)

record IsLater (label : Label) (names : List Occurrence) : Type 0 where
  pub between : List Occurrence
  pub later : Occurrence
  pub after : List Occurrence
  pub split : names ≡ between ++ later ∷ after
  pub same : label ≡ later.label

later_one : (label : Label) (names : List Occurrence) → stands label (map label_at names) ≡ true → IsLater label names
later_one label [] e = absurd (false≢true e)
later_one label (o ∷ names) e =
    elim (or_cases (same_label label o.label) (stands label (map label_at names)) e) [
      | inl t ↦ record { between = []; later = o; after = names; split = refl; same = same_label-one label o.label t }
      | inr t ↦ let more = later_one label names t in record { between = o ∷ more.between; later = more.later; after = more.after; split = ap (λ xs. o ∷ xs) more.split; same = more.same }
    ]

repeat_more : (o : Occurrence) (names : List Occurrence) (at : ℕ) → IsRepeat names at → IsRepeat (o ∷ names) at
repeat_more o names at r = record { before = o ∷ r.before; earlier = r.earlier; between = r.between; later = r.later; after = r.after; split = ap (λ xs. o ∷ xs) r.split; same = r.same; stands = r.stands }

-- names none of which stands twice
pub once_names : (names : List Occurrence) → ((at : ℕ) → IsRepeat names at → ⊥) → (l : Label) → count l (map label_at names) ≤ 1
once_names [] h l = omega arith
once_names (o ∷ names) h l = here (same_label l o.label) refl (once_names names (λ at r. h at (repeat_more o names at r)) l)
  where
    here : (b : Bool) → same_label l o.label ≡ b → count l (map label_at names) ≤ 1 → one_if b + count l (map label_at names) ≤ 1
    here false e more = omega arith
    here true e more =
        elim (cases_Bool (stands l (map label_at names))) [
          | inl t ↦
              let one = later_one l names t in
              absurd (h one.later.at (record { before = []; earlier = o; between = one.between; later = one.later; after = one.after; split = ap (λ xs. o ∷ xs) one.split; same = sym (same_label-one l o.label e) ∙ one.same; stands = refl }))
          | inr f ↦ let none = absent_count l (map label_at names) f in omega arith
        ]

-- ---- in lists that are joined
pub stands_left : (l : Label) (xs ys : List Label) → stands l xs ≡ true → stands l (xs ++ ys) ≡ true
stands_left l xs ys e = stands-append l xs ys ∙ or_left (stands l xs) (stands l ys) e

pub stands_right : (l : Label) (xs ys : List Label) → stands l ys ≡ true → stands l (xs ++ ys) ≡ true
stands_right l xs ys e = stands-append l xs ys ∙ or_right (stands l xs) (stands l ys) e

pub in_flat : {A P : Type 0} (l : Label) (g : A → List Label) (xs : List A) → stands l (flat_map g xs) ≡ true → ((x : A) → Contains xs x → stands l (g x) ≡ true → P) → P
in_flat l g [] e k = absurd (false≢true e)
in_flat l g (x ∷ xs) e k =
    elim (or_cases (stands l (g x)) (stands l (flat_map g xs)) (sym (stands-append l (g x) (flat_map g xs)) ∙ e)) [
      | inl t ↦ k x (contains_here x xs) t
      | inr t ↦ in_flat l g xs t (λ y c s. k y (contains_later x xs y c) s)
    ]

pub in_map : {A P : Type 0} (l : Label) (g : A → Label) (xs : List A) → stands l (map g xs) ≡ true → ((x : A) → Contains xs x → l ≡ g x → P) → P
in_map l g [] e k = absurd (false≢true e)
in_map l g (x ∷ xs) e k =
    elim (or_cases (same_label l (g x)) (stands l (map g xs)) e) [
      | inl t ↦ k x (contains_here x xs) (same_label-one l (g x) t)
      | inr t ↦ in_map l g xs t (λ y c s. k y (contains_later x xs y c) s)
    ]

pub in_flat_stands : {A : Type 0} (l : Label) (g : A → List Label) (xs : List A) (x : A) → Contains xs x → stands l (g x) ≡ true → stands l (flat_map g xs) ≡ true
in_flat_stands l g [] x c e = absurd (contains_none x c)
in_flat_stands l g (y ∷ ys) x c e =
    elim (contains_cases y ys x c) [
      | inl is ↦ stands_left l (g y) (flat_map g ys) (ap (λ q. stands l (g q)) is ∙ e)
      | inr later ↦ stands_right l (g y) (flat_map g ys) (in_flat_stands l g ys x later e)
    ]

pub in_map_stands : {A : Type 0} (g : A → Label) (xs : List A) (x : A) → Contains xs x → stands (g x) (map g xs) ≡ true
in_map_stands g [] x c = absurd (contains_none x c)
in_map_stands g (y ∷ ys) x c =
    elim (contains_cases y ys x c) [
      | inl is ↦ or_left (same_label (g x) (g y)) (stands (g x) (map g ys)) (ap (λ q. same_label (g x) (g q)) is ∙ same_label-refl (g x))
      | inr later ↦ or_right (same_label (g x) (g y)) (stands (g x) (map g ys)) (in_map_stands g ys x later)
    ]

-- ---- lists without places
pub nil_parts : {A : Type 0} (xs ys : List A) → xs ++ ys ≡ [] → (xs ≡ []) × (ys ≡ [])
nil_parts [] ys e = (refl, e)
nil_parts (x ∷ xs) ys e = absurd (cc)

pub nil_of : (xs : List ℕ) → ((at : ℕ) → Contains xs at → ⊥) → xs ≡ []
nil_of [] h = refl
nil_of (x ∷ xs) h = absurd (h x (contains_here x xs))

pub flat_nil : {A B : Type 0} (g : A → List B) (xs : List A) (x : A) → Contains xs x → flat_map g xs ≡ [] → g x ≡ []
flat_nil g [] x c e = absurd (contains_none x c)
flat_nil g (y ∷ ys) x c e =
    let parts = nil_parts (g y) (flat_map g ys) e in
    elim (contains_cases y ys x c) [ inl is ↦ ap g (sym is) ∙ parts.0 | inr later ↦ flat_nil g ys x later parts.1 ]

-- ---- what is found by a name
index_shift : {B : Type 0} (l : Label) (i : ℕ) (keys : List Label) (v : B) (values : List B) → and_then (index_from l (i + 1) keys) (slice_get (v ∷ values)) ≡ and_then (index_from l i keys) (slice_get values)
index_shift l i [] v values = refl
index_shift l i (x ∷ keys) v values = here (same_label l x) (index_shift l (i + 1) keys v values)
  where
    here : (b : Bool) → and_then (index_from l (i + 1 + 1) keys) (slice_get (v ∷ values)) ≡ and_then (index_from l (i + 1) keys) (slice_get values)
        → and_then (if b then Some (i + 1) else index_from l (i + 1 + 1) keys) (slice_get (v ∷ values)) ≡ and_then (if b then Some i else index_from l (i + 1) keys) (slice_get values)
    here true more = let one : i + 1 ≡ suc i = omega arith in ap (slice_get (v ∷ values)) one
    here false more = more

-- the value of a key, in lists of keys and of values
abbrev pub found_by : {B : Type 0} → List Label → List B → Label → Option B
found_by keys values l = and_then (index_in l keys) (slice_get values)

-- over all keys, each with what is found by it
pub lookup_sum : {B : Type 0} (g : Option B → ℕ) (keys : List Label) (values : List B) → length keys ≡ length values → AreApart keys → sum_of (λ l. g (found_by keys values l)) keys ≡ sum_of (λ v. g (Some v)) values
lookup_sum g [] [] n a = refl
lookup_sum g [] (v ∷ values) n a = absurd (omega arith)
lookup_sum g (x ∷ keys) [] n a = absurd (omega arith)
lookup_sum g (x ∷ keys) (v ∷ values) n a =
    let here : g (found_by (x ∷ keys) (v ∷ values) x) ≡ g (Some v) = ap (λ b. g (and_then (if b then Some 0 else index_from x (0 + 1) keys) (slice_get (v ∷ values)))) (same_label-refl x) in
    let others = sum_same (λ l. g (found_by (x ∷ keys) (v ∷ values) l)) (λ l. g (found_by keys values l)) keys (λ l c. skipped l c) in
    let more = lookup_sum g keys values (omega arith) a.1 in
    omega arith
  where
    other : (l : Label) → Contains keys l → same_label l x ≡ false
    other l c = elim (cases_Bool (same_label l x)) [ inl t ↦ absurd (false≢true (sym a.0 ∙ contains_stands x keys (subst (λ q. Contains keys q) (same_label-one l x t) c))) | inr f ↦ f ]

    skipped : (l : Label) → Contains keys l → g (found_by (x ∷ keys) (v ∷ values) l) ≡ g (found_by keys values l)
    skipped l c = ap (λ b. g (and_then (if b then Some 0 else index_from l (0 + 1) keys) (slice_get (v ∷ values)))) (other l c) ∙ ap g (index_shift l 0 keys v values)

-- a key that stands there has a value
pub lookup_some : {B P : Type 0} (l : Label) (keys : List Label) (values : List B) → length keys ≡ length values → stands l keys ≡ true → ((v : B) → Contains values v → found_by keys values l ≡ Some v → P) → P
lookup_some l [] values n e k = absurd (false≢true e)
lookup_some l (x ∷ keys) [] n e k = absurd (omega arith)
lookup_some {B} {P} l (x ∷ keys) (v ∷ values) n e k =
    here (same_label l x) refl e (λ s more. lookup_some l keys values (omega arith) s more)
  where
    here : (b : Bool) → same_label l x ≡ b → (b || stands l keys) ≡ true → (stands l keys ≡ true → ((w : B) → Contains values w → found_by keys values l ≡ Some w → P) → P) → P
    here true t s later = k v (contains_here v values) (ap (λ b. and_then (if b then Some 0 else index_from l (0 + 1) keys) (slice_get (v ∷ values))) t)
    here false f s later =
        later s (λ w c is. k w (contains_later v values w c) (ap (λ b. and_then (if b then Some 0 else index_from l (0 + 1) keys) (slice_get (v ∷ values))) f ∙ index_shift l 0 keys v values ∙ is))

-- ---- numbers that are at most one
-- what is taken and what is driven are what may be taken and what may be driven, each once
pub matched : (t s a b : ℕ) → t + s ≤ 1 → a + b ≤ 1 → (1 ≤ a + b → 1 ≤ t + s) → (1 ≤ t → 1 ≤ a) → (1 ≤ s → 1 ≤ b) → (t ≡ a) × (s ≡ b)
matched zero zero a b ts ab all ta sb = elim (cases_lt 0 (a + b)) [ inl lt ↦ absurd (let n = all (omega arith) in omega arith) | inr le ↦ (omega arith, omega arith) ]
matched zero (suc s) a b ts ab all ta sb = let n = sb (omega arith) in (omega arith, omega arith)
matched (suc t) s a b ts ab all ta sb = let n = ta (omega arith) in (omega arith, omega arith)

pub once_each : (a b : ℕ) → a ≤ 1 → b ≤ 1 → (1 ≤ a → 1 ≤ b) → (1 ≤ b → 1 ≤ a) → a ≡ b
once_each zero zero al bl ab ba = refl
once_each zero (suc b) al bl ab ba = absurd (let n = ba (omega arith) in omega arith)
once_each (suc a) zero al bl ab ba = absurd (let n = ab (omega arith) in omega arith)
once_each (suc a) (suc b) al bl ab ba = omega arith
