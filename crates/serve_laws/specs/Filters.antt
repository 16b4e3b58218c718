-- Lists of which some pass a test.
use Rattle.std.proofs.Common.{◌≡◌, ◌||◌, not, Bool, true, false, List, [], ◌∷◌, ◌++◌, filter, refl, ap, sym, ◌∙◌, true≢false}
use Rattle.std.specs.List.{list_any}
use Rattle.serve_acts.specs.Prefixes.{AtMostOne}

module _ {A : Type 0} (p : A → Bool) where
  joined_by : (b : Bool) (x : A) (xs ys : List A) → p x ≡ b → filter p (xs ++ ys) ≡ filter p xs ++ filter p ys → filter p ((x ∷ xs) ++ ys) ≡ filter p (x ∷ xs) ++ filter p ys
  joined_by true x xs ys e rest = rw e (ap (λ (l : List A). x ∷ l) rest)
  joined_by false x xs ys e rest = rw e rest

  pub filter_joined : (xs ys : List A) → filter p (xs ++ ys) ≡ filter p xs ++ filter p ys
  filter_joined [] ys = refl
  filter_joined (x ∷ xs) ys = joined_by (p x) x xs ys refl (filter_joined xs ys)

  none_by : (b : Bool) (x : A) (xs : List A) → p x ≡ b → (b || list_any p xs) ≡ false → (list_any p xs ≡ false → filter p xs ≡ []) → filter p (x ∷ xs) ≡ []
  none_by true x xs e none rest = cc
  none_by false x xs e none rest = rw e (rest none)

  pub filter_none : (xs : List A) → list_any p xs ≡ false → filter p xs ≡ []
  filter_none [] none = refl
  filter_none (x ∷ xs) none = none_by (p x) x xs refl none (filter_none xs)

  all_by : (b : Bool) (x : A) (xs : List A) → p x ≡ b → (b || list_any p xs) ≡ false → (list_any p xs ≡ false → filter (λ y. not (p y)) xs ≡ xs) → filter (λ y. not (p y)) (x ∷ xs) ≡ x ∷ xs
  all_by true x xs e none rest = cc
  all_by false x xs e none rest = rw e (ap (λ (l : List A). x ∷ l) (rest none))

  -- where none passes, all fail
  pub filter_others : (xs : List A) → list_any p xs ≡ false → filter (λ y. not (p y)) xs ≡ xs
  filter_others [] none = refl
  filter_others (x ∷ xs) none = all_by (p x) x xs refl none (filter_others xs)

  pub any_joined : (xs ys : List A) → list_any p (xs ++ ys) ≡ (list_any p xs || list_any p ys)
  any_joined [] ys = refl
  any_joined (x ∷ xs) ys = any_by (p x) (list_any p xs) (list_any p ys) (list_any p (xs ++ ys)) (any_joined xs ys)
    where
      any_by : (b c d e : Bool) → e ≡ (c || d) → (b || e) ≡ ((b || c) || d)
      any_by true c d e is = refl
      any_by false c d e is = is

module _ {A : Type 0} (p q : A → Bool) where
  swapped_by : (b c : Bool) (x : A) (xs : List A) → p x ≡ b → q x ≡ c → filter p (filter q xs) ≡ filter q (filter p xs) → filter p (filter q (x ∷ xs)) ≡ filter q (filter p (x ∷ xs))
  swapped_by true true x xs e f rest = simp (e, f) (ap (λ (l : List A). x ∷ l) rest)
  swapped_by true false x xs e f rest = simp (e, f) rest
  swapped_by false true x xs e f rest = simp (e, f) rest
  swapped_by false false x xs e f rest = simp (e, f) rest

  pub filter_swapped : (xs : List A) → filter p (filter q xs) ≡ filter q (filter p xs)
  filter_swapped [] = refl
  filter_swapped (x ∷ xs) = swapped_by (p x) (q x) x xs refl refl (filter_swapped xs)

  -- neither the one nor the other
  neither_by : (b c : Bool) (x : A) (xs : List A) → p x ≡ b → q x ≡ c → filter (λ y. not (p y || q y)) xs ≡ filter (λ y. not (p y)) (filter (λ y. not (q y)) xs)
      → filter (λ y. not (p y || q y)) (x ∷ xs) ≡ filter (λ y. not (p y)) (filter (λ y. not (q y)) (x ∷ xs))
  neither_by true true x xs e f rest = simp (e, f) rest
  neither_by true false x xs e f rest = simp (e, f) rest
  neither_by false true x xs e f rest = simp (e, f) rest
  neither_by false false x xs e f rest = simp (e, f) (ap (λ (l : List A). x ∷ l) rest)

  pub filter_neither : (xs : List A) → filter (λ y. not (p y || q y)) xs ≡ filter (λ y. not (p y)) (filter (λ y. not (q y)) xs)
  filter_neither [] = refl
  filter_neither (x ∷ xs) = neither_by (p x) (q x) x xs refl refl (filter_neither xs)

  -- where none passes, none does among some of them
  none_filtered_by : (b c : Bool) (x : A) (xs : List A) → p x ≡ b → q x ≡ c → (list_any p xs ≡ false → list_any p (filter q xs) ≡ false) → (b || list_any p xs) ≡ false → list_any p (filter q (x ∷ xs)) ≡ false
  none_filtered_by true c x xs e f rest none = cc
  none_filtered_by false true x xs e f rest none = simp (e, f) (rest none)
  none_filtered_by false false x xs e f rest none = simp f (rest none)

  pub none_filtered : (xs : List A) → list_any p xs ≡ false → list_any p (filter q xs) ≡ false
  none_filtered [] none = refl
  none_filtered (x ∷ xs) none = none_filtered_by (p x) (q x) x xs refl refl (none_filtered xs) none

-- ---- at most one

either_false : (b c : Bool) → (b || c) ≡ false → (b ≡ false) × (c ≡ false)
either_false true c e = cc
either_false false c e = (refl, e)

module _ {A : Type 0} (p : A → Bool) where
  -- of two parts, the one has it or the other
  apart_by : (b : Bool) (x : A) (xs ys : List A) → p x ≡ b → (b ≡ true → list_any p (xs ++ ys) ≡ false) → list_any p ys ≡ true → list_any p xs ≡ false → list_any p (x ∷ xs) ≡ false
  apart_by true x xs ys e one any rest = let none = either_false (list_any p xs) (list_any p ys) (sym (any_joined p xs ys) ∙ one refl) in absurd (true≢false (sym any ∙ none.1))
  apart_by false x xs ys e one any rest = rw e rest

  pub one_apart : (xs ys : List A) → AtMostOne p (xs ++ ys) → list_any p ys ≡ true → list_any p xs ≡ false
  one_apart [] ys one any = refl
  one_apart (x ∷ xs) ys one any = apart_by (p x) x xs ys refl (λ e. one.0 e) any (one_apart xs ys one.1 any)

  pub one_more : (xs : List A) (x : A) → AtMostOne p xs → (p x ≡ true → list_any p xs ≡ false) → AtMostOne p (xs ++ x ∷ [])
  one_more [] x one new = (λ e. refl, tt)
  one_more (y ∷ xs) x one new = (λ e. more_by (p x) refl e, one_more xs x one.1 (λ e. (either_false (p y) (list_any p xs) (new e)).1))
    where
      more_by : (b : Bool) → p x ≡ b → p y ≡ true → list_any p (xs ++ x ∷ []) ≡ false
      more_by true e f = absurd (true≢false (sym f ∙ (either_false (p y) (list_any p xs) (new e)).0))
      more_by false e f = any_joined p xs (x ∷ []) ∙ simp (one.0 f, e) refl

module _ {A : Type 0} (p q : A → Bool) where
  one_filtered_by : (b : Bool) (x : A) (xs : List A) → q x ≡ b → (p x ≡ true → list_any p xs ≡ false) → AtMostOne p (filter q xs) → AtMostOne p (filter q (x ∷ xs))
  one_filtered_by true x xs e one rest = rw e (λ f. none_filtered p q xs (one f), rest)
  one_filtered_by false x xs e one rest = rw e rest

  pub one_filtered : (xs : List A) → AtMostOne p xs → AtMostOne p (filter q xs)
  one_filtered [] one = tt
  one_filtered (x ∷ xs) one = one_filtered_by (q x) x xs refl (λ e. one.0 e) (one_filtered xs one.1)

-- of two tests of which no two hold at once, at most one lets the one through
module _ {A : Type 0} (p q r : A → Bool) (exclude : (x : A) → q x ≡ true → r x ≡ false) where
  others_by : (b c d : Bool) (x : A) (xs : List A) → p x ≡ b → q x ≡ c → r x ≡ d → (b ≡ true → list_any p xs ≡ false)
      → (list_any p (filter q xs) ≡ true → list_any p (filter r xs) ≡ false) → list_any p (filter q (x ∷ xs)) ≡ true → list_any p (filter r (x ∷ xs)) ≡ false
  others_by true true d x xs e f g one rest any = simp (exclude x f) (none_filtered p r xs (one refl))
  others_by true false d x xs e f g one rest any = absurd (true≢false (sym any ∙ simp f (none_filtered p q xs (one refl))))
  others_by false true true x xs e f g one rest any = absurd (true≢false (sym g ∙ exclude x f))
  others_by false true false x xs e f g one rest any = simp g (rest (sym any_is ∙ any))
    where
      any_is : list_any p (filter q (x ∷ xs)) ≡ list_any p (filter q xs)
      any_is = simp (e, f) refl
  others_by false false true x xs e f g one rest any = simp (g, e) (rest (sym any_is ∙ any))
    where
      any_is : list_any p (filter q (x ∷ xs)) ≡ list_any p (filter q xs)
      any_is = simp f refl
  others_by false false false x xs e f g one rest any = simp g (rest (sym any_is ∙ any))
    where
      any_is : list_any p (filter q (x ∷ xs)) ≡ list_any p (filter q xs)
      any_is = simp f refl

  pub one_of_others : (xs : List A) → AtMostOne p xs → list_any p (filter q xs) ≡ true → list_any p (filter r xs) ≡ false
  one_of_others [] one any = refl
  one_of_others (x ∷ xs) one any = others_by (p x) (q x) (r x) x xs refl refl refl (λ e. one.0 e) (one_of_others xs one.1) any
