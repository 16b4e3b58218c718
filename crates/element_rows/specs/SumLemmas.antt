-- Sums.
use Rattle.std.specs.Prelude.{◌≡◌, ℕ, zero, suc, ◌+◌, ◌<◌, ◌≤◌, ◌==◌, ◌||◌, Bool, true, false, List, [], ◌∷◌, ◌++◌, refl}
use Rattle.std.specs.List.{range_with_len}
use Rattle.std.proofs.Common.{◌∙◌, ap, add_assoc, arith}
use Rattle.std.proofs.lemmas.Bool.Decides.{nat_tests}
use Rattle.element_rows.specs.Flat.{among, total, sum_below}

-- sums of equal terms, and of terms that are at most those
pub sums_same : (f g : ℕ → ℕ) (n : ℕ) → ((k : ℕ) → k < n → f k ≡ g k) → sum_below f n ≡ sum_below g n
sums_same f g zero e = refl
sums_same f g (suc n) e = let here : f n ≡ g n = e n (omega arith) in let before : sum_below f n ≡ sum_below g n = sums_same f g n (λ k h. e k (omega arith)) in omega arith

pub sums_below : (f g : ℕ → ℕ) (n : ℕ) → ((k : ℕ) → k < n → f k ≤ g k) → sum_below f n ≤ sum_below g n
sums_below f g zero e = omega arith
sums_below f g (suc n) e = let here : f n ≤ g n = e n (omega arith) in let before : sum_below f n ≤ sum_below g n = sums_below f g n (λ k h. e k (omega arith)) in omega arith

-- a sum that is nothing, term by term, both ways
pub none_in_sum : (f : ℕ → ℕ) (n : ℕ) → sum_below f n ≡ 0 → (k : ℕ) → k < n → f k ≡ 0
none_in_sum f zero e k h = absurd (omega arith)
none_in_sum f (suc n) e k h = grind (arith, none_in_sum f n)

pub sum_of_none : (f : ℕ → ℕ) (n : ℕ) → ((k : ℕ) → k < n → f k ≡ 0) → sum_below f n ≡ 0
sum_of_none f zero e = refl
sum_of_none f (suc n) e = let here : f n ≡ 0 = e n (omega arith) in let before : sum_below f n ≡ 0 = sum_of_none f n (λ k h. e k (omega arith)) in omega arith

pub sum_split : (f : ℕ → ℕ) (a n : ℕ) → sum_below f (a + n) ≡ sum_below f a + sum_below (λ k. f (a + k)) n
sum_split f a zero = ap (sum_below f) (let e : a + 0 ≡ a = omega arith in e) ∙ (let e : sum_below f a ≡ sum_below f a + 0 = omega arith in e)
sum_split f a (suc n) =
    ap (sum_below f) (let e : a + suc n ≡ suc (a + n) = omega arith in e)
    ∙ ap (λ m. m + f (a + n)) (sum_split f a n)
    ∙ add_assoc (sum_below f a) (sum_below (λ k. f (a + k)) n) (f (a + n))

pub totals_below : (f g : ℕ → ℕ) (xs : List ℕ) → ((c : ℕ) → f c ≤ g c) → total f xs ≤ total g xs
totals_below f g [] e = omega arith
totals_below f g (x ∷ xs) e = let here : f x ≤ g x = e x in let rest : total f xs ≤ total g xs = totals_below f g xs e in omega arith

pub total-append : (f : ℕ → ℕ) (xs ys : List ℕ) → total f (xs ++ ys) ≡ total f xs + total f ys
total-append f [] ys = omega arith
total-append f (x ∷ xs) ys = let rest : total f (xs ++ ys) ≡ total f xs + total f ys = total-append f xs ys in omega arith

-- equal terms at each of the channels
alike : (x : ℕ) → (x == x) ≡ true
alike x = grind (arith, nat_tests)

pub totals_same : (f g : ℕ → ℕ) (xs : List ℕ) → ((c : ℕ) → among c xs ≡ true → f c ≡ g c) → total f xs ≡ total g xs
totals_same f g [] e = refl
totals_same f g (x ∷ xs) e =
    let here : f x ≡ g x = e x (ap (λ b. b || among x xs) (alike x)) in
    let rest : total f xs ≡ total g xs = totals_same f g xs (λ c h. e c (behind (c == x) (among c xs) h)) in
    omega arith
  where
    behind : (a b : Bool) → b ≡ true → (a || b) ≡ true
    behind true b h = refl
    behind false b h = h

-- a sum below a bound, from a number on as the sum over the list of the numbers
pub sum_below-range : (f : ℕ → ℕ) (a n : ℕ) → sum_below f (a + n) ≡ sum_below f a + total f (range_with_len a n)
sum_below-range f a zero = ap (sum_below f) (let e : a + 0 ≡ a = omega arith in e) ∙ (let e : sum_below f a ≡ sum_below f a + 0 = omega arith in e)
sum_below-range f a (suc n) =
    let rest : sum_below f (a + 1 + n) ≡ sum_below f (a + 1) + total f (range_with_len (a + 1) n) = sum_below-range f (a + 1) n in
    let first : sum_below f (a + 1) ≡ sum_below f a + f a = ap (sum_below f) (let e : a + 1 ≡ suc a = omega arith in e) in
    ap (sum_below f) (let e : a + suc n ≡ a + 1 + n = omega arith in e) ∙ omega (arith, rest, first)
