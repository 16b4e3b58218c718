-- Two lists walked side by side: what is left of a change, and what is left to come.
use Rattle.std.proofs.Common.{◌≡◌, ℕ, zero, suc, ◌+◌, ◌<◌, List, [], ◌∷◌, ◌++◌, length, map, drop, get_or, slice_set, refl, sym, ◌∙◌, ap, append_assoc, append-nil, arith, add-one}
use Rattle.cycle_rules.specs.Lists.{zip_with}

-- the change of the places from one on
abbrev pub zip_from : {A B : Type 0} → (A → B → A) → ℕ → List A → List B → List A
zip_from f zero xs ys = zip_with f xs ys
zip_from f (suc k) [] ys = []
zip_from f (suc k) (x ∷ xs) [] = x ∷ xs
zip_from f (suc k) (x ∷ xs) (y ∷ ys) = x ∷ zip_from f k xs ys

-- what comes of the places from one on
abbrev pub zip_rest : {A B C : Type 0} → (A → B → C) → ℕ → List A → List B → List C
zip_rest f zero xs ys = zip_with f xs ys
zip_rest f (suc k) [] ys = []
zip_rest f (suc k) (x ∷ xs) [] = []
zip_rest f (suc k) (x ∷ xs) (y ∷ ys) = zip_rest f k xs ys

module _ {A B : Type 0} (f : A → B → A) where
  from_more : (xs : List A) (ys : List B) (k : ℕ) (d : A) (e : B) → k < length xs → length xs ≡ length ys → zip_from f (suc k) (slice_set xs k (f (get_or xs k d) (get_or ys k e))) ys ≡ zip_from f k xs ys
  from_more [] ys k d e lt same = absurd (omega arith)
  from_more (x ∷ xs) [] k d e lt same = absurd (omega arith)
  from_more (x ∷ xs) (y ∷ ys) zero d e lt same = refl
  from_more (x ∷ xs) (y ∷ ys) (suc k) d e lt same = ap (λ (l : List A). x ∷ l) (from_more xs ys k d e (omega arith) (omega arith))

  pub from_step : (xs xs' : List A) (ys : List B) (k : ℕ) (d : A) (e : B) (whole : List A) → k < length xs → length xs ≡ length ys → xs' ≡ slice_set xs k (f (get_or xs k d) (get_or ys k e))
      → zip_from f k xs ys ≡ whole → zip_from f (k + 1) xs' ys ≡ whole
  from_step xs xs' ys k d e whole lt same is rest =
      ap (λ n. zip_from f n xs' ys) (add-one k) ∙ (ap (λ (l : List A). zip_from f (suc k) l ys) is ∙ (from_more xs ys k d e lt same ∙ rest))

  from_all : (xs : List A) (ys : List B) → length xs ≡ length ys → zip_from f (length xs) xs ys ≡ xs
  from_all [] ys same = refl
  from_all (x ∷ xs) [] same = absurd (omega arith)
  from_all (x ∷ xs) (y ∷ ys) same = ap (λ (l : List A). x ∷ l) (from_all xs ys (omega arith))

  pub from_end : (xs : List A) (ys : List B) (k : ℕ) (whole : List A) → k ≡ length xs → length xs ≡ length ys → zip_from f k xs ys ≡ whole → xs ≡ whole
  from_end xs ys k whole all same rest = sym (from_all xs ys same) ∙ (ap (λ n. zip_from f n xs ys) (sym all) ∙ rest)

module _ {A B C : Type 0} (f : A → B → C) where
  -- a change of the place itself changes nothing of what comes
  rest_set : (xs : List A) (ys : List B) (k : ℕ) (z d : A) (e : B) → k < length xs → length xs ≡ length ys → zip_rest f k xs ys ≡ f (get_or xs k d) (get_or ys k e) ∷ zip_rest f (suc k) (slice_set xs k z) ys
  rest_set [] ys k z d e lt same = absurd (omega arith)
  rest_set (x ∷ xs) [] k z d e lt same = absurd (omega arith)
  rest_set (x ∷ xs) (y ∷ ys) zero z d e lt same = refl
  rest_set (x ∷ xs) (y ∷ ys) (suc k) z d e lt same = rest_set xs ys k z d e (omega arith) (omega arith)

  pub rest_step : (xs xs' : List A) (ys : List B) (k : ℕ) (z d : A) (e : B) → k < length xs → length xs ≡ length ys → xs' ≡ slice_set xs k z → zip_rest f k xs ys ≡ f (get_or xs k d) (get_or ys k e) ∷ zip_rest f (k + 1) xs' ys
  rest_step xs xs' ys k z d e lt same is =
      rest_set xs ys k z d e lt same ∙ ap (λ (l : List C). f (get_or xs k d) (get_or ys k e) ∷ l)
      (ap (λ (l : List A). zip_rest f (suc k) l ys) (sym is) ∙ ap (λ n. zip_rest f n xs' ys) (sym (add-one k)))

  rest_more : (xs : List A) (ys : List B) (k : ℕ) (d : A) (e : B) → k < length xs → length xs ≡ length ys → zip_rest f k xs ys ≡ f (get_or xs k d) (get_or ys k e) ∷ zip_rest f (suc k) xs ys
  rest_more [] ys k d e lt same = absurd (omega arith)
  rest_more (x ∷ xs) [] k d e lt same = absurd (omega arith)
  rest_more (x ∷ xs) (y ∷ ys) zero d e lt same = refl
  rest_more (x ∷ xs) (y ∷ ys) (suc k) d e lt same = rest_more xs ys k d e (omega arith) (omega arith)

  pub rest_read : (xs : List A) (ys : List B) (k : ℕ) (d : A) (e : B) → k < length xs → length xs ≡ length ys → zip_rest f k xs ys ≡ f (get_or xs k d) (get_or ys k e) ∷ zip_rest f (k + 1) xs ys
  rest_read xs ys k d e lt same = rest_more xs ys k d e lt same ∙ ap (λ n. f (get_or xs k d) (get_or ys k e) ∷ zip_rest f n xs ys) (sym (add-one k))

  rest_all : (xs : List A) (ys : List B) → length xs ≡ length ys → zip_rest f (length xs) xs ys ≡ []
  rest_all [] ys same = refl
  rest_all (x ∷ xs) [] same = absurd (omega arith)
  rest_all (x ∷ xs) (y ∷ ys) same = rest_all xs ys (omega arith)

  pub rest_end : (xs : List A) (ys : List B) (k : ℕ) → k ≡ length xs → length xs ≡ length ys → zip_rest f k xs ys ≡ []
  rest_end xs ys k all same = ap (λ n. zip_rest f n xs ys) all ∙ rest_all xs ys same

-- what is left of a list from a place on
drop_more : {A : Type 0} (xs : List A) (k : ℕ) (d : A) → k < length xs → drop k xs ≡ get_or xs k d ∷ drop (suc k) xs
drop_more [] k d lt = absurd (omega arith)
drop_more (x ∷ xs) zero d lt = refl
drop_more (x ∷ xs) (suc k) d lt = drop_more xs k d (omega arith)

pub drop_read : {A : Type 0} (xs : List A) (k : ℕ) (d : A) → k < length xs → drop k xs ≡ get_or xs k d ∷ drop (k + 1) xs
drop_read {A} xs k d lt = drop_more xs k d lt ∙ ap (λ n. get_or xs k d ∷ drop n xs) (sym (add-one k))

pub drop_end : {A : Type 0} (xs : List A) (k : ℕ) → k ≡ length xs → drop k xs ≡ []
drop_end [] k all = ap (λ n. drop n []) all
drop_end {A} (x ∷ xs) k all = ap (λ n. drop n (x ∷ xs)) all ∙ drop_end xs (length xs) refl

pub map_read : {A B : Type 0} (f : A → B) (xs : List A) (k : ℕ) (d : A) (e : B) → k < length xs → get_or (map f xs) k e ≡ f (get_or xs k d)
map_read f [] k d e lt = absurd (omega arith)
map_read f (x ∷ xs) zero d e lt = refl
map_read f (x ∷ xs) (suc k) d e lt = map_read f xs k d e (omega arith)

-- what was read by an index
pub read_is : {A : Type 0} (xs : List A) (k : ℕ) (x d : A) → k < length xs → x ≡ get_or xs k x → x ≡ get_or xs k d
read_is [] k x d lt e = absurd (omega arith)
read_is (y ∷ ys) zero x d lt e = e
read_is (y ∷ ys) (suc k) x d lt e = read_is ys k x d (omega arith) e

pub set_same : {A : Type 0} (xs : List A) (k : ℕ) (d : A) → slice_set xs k (get_or xs k d) ≡ xs
set_same [] k d = refl
set_same (x ∷ xs) zero d = refl
set_same {A} (x ∷ xs) (suc k) d = ap (λ (l : List A). x ∷ l) (set_same xs k d)

-- a list that grows by what f makes of each
module _ {A B : Type 0} (f : A → B) where
  pub mapped_more : (made made' whole : List B) (xs : List A) (k : ℕ) (d : A) (item : B) → k < length xs → item ≡ f (get_or xs k d) → made' ≡ made ++ item ∷ [] → made ++ map f (drop k xs) ≡ whole → made' ++ map f (drop (k + 1) xs) ≡ whole
  mapped_more made made' whole xs k d item lt is more rest =
      ap (λ (l : List B). l ++ map f (drop (k + 1) xs)) more
      ∙ (append_assoc made (item ∷ []) (map f (drop (k + 1) xs))
      ∙ (ap (λ (b : B). made ++ (b ∷ map f (drop (k + 1) xs))) is
      ∙ (ap (λ (l : List A). made ++ map f l) (sym (drop_read xs k d lt)) ∙ rest)))

  pub mapped_done : (made whole : List B) (xs : List A) (k : ℕ) → k ≡ length xs → made ++ map f (drop k xs) ≡ whole → made ≡ whole
  mapped_done made whole xs k all rest = sym (append-nil made) ∙ (ap (λ (l : List A). made ++ map f l) (sym (drop_end xs k all)) ∙ rest)
