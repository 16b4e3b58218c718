-- Places that are all apart, and are all those below a number, are used once each: what is summed over them is summed over the
-- numbers below.
use Rattle.std.specs.Prelude.{◌≡◌, ℕ, zero, suc, ◌+◌, ◌||◌, Bool, true, false, List, [], ◌∷◌, ◌++◌, nat_lt, eqb, refl}
use Rattle.std.specs.List.{IsDistinct, list_any, AllByRecursion}
use Rattle.std.proofs.Common.{sym, ◌∙◌, ap, subst, inl, inr, arith}
use Rattle.std.proofs.lemmas.Bool.{false≢true, cases_eq, cases_lt, or_cases, or_parts, or_left, eqb-true, eq-eqb, ne_eqb, lt-ltb, le-ltb}
use Rattle.std.proofs.lemmas.Map.Keys.{IsDistinct-head, IsDistinct-tail, IsDistinct-cons}
use Rattle.flat_design.specs.Laying.{count_up}
use Rattle.flat_design.specs.FlatLaws.{total}

-- what stands before the number, and after it
record IsSplit (k : ℕ) (xs : List ℕ) : Type 0 where
  pub front : List ℕ
  pub back : List ℕ
  pub split : xs ≡ front ++ k ∷ back

split_at : (k : ℕ) (xs : List ℕ) → list_any (eqb k) xs ≡ true → IsSplit k xs
split_at k [] e = absurd (false≢true e)
split_at k (x ∷ xs) e =
    elim (or_cases (eqb k x) (list_any (eqb k) xs) e) [
      | inl t ↦ record { front = []; back = xs; split = ap (λ q. q ∷ xs) (sym (eqb-true k x t)) }
      | inr t ↦ let more = split_at k xs t in record { front = x ∷ more.front; back = more.back; split = ap (λ r. x ∷ r) more.split }
    ]

any-append : (q : ℕ) (xs ys : List ℕ) → list_any (eqb q) (xs ++ ys) ≡ (list_any (eqb q) xs || list_any (eqb q) ys)
any-append q [] ys = refl
any-append q (x ∷ xs) ys = ap (λ b. eqb q x || b) (any-append q xs ys) ∙ assoc (eqb q x) (list_any (eqb q) xs) (list_any (eqb q) ys)
  where
    assoc : (a b c : Bool) → (a || (b || c)) ≡ ((a || b) || c)
    assoc true b c = refl
    assoc false b c = refl

apart-any : (k : ℕ) (xs : List ℕ) → AllByRecursion (λ y. eqb k y ≡ false) xs → list_any (eqb k) xs ≡ false
apart-any k [] h = refl
apart-any k (x ∷ xs) h = ap (λ b. b || list_any (eqb k) xs) h.0 ∙ apart-any k xs h.1

any-apart : (k : ℕ) (xs : List ℕ) → list_any (eqb k) xs ≡ false → AllByRecursion (λ y. eqb k y ≡ false) xs
any-apart k [] e = tt
any-apart k (x ∷ xs) e = let parts = or_parts (eqb k x) (list_any (eqb k) xs) e in (parts.0, any-apart k xs parts.1)

-- without the number, the others are apart, and it does not stand there
record IsRest (k : ℕ) (front back : List ℕ) : Type 0 where
  pub distinct : IsDistinct eqb (front ++ back)
  pub gone : list_any (eqb k) (front ++ back) ≡ false

rest_of : (k : ℕ) (front back : List ℕ) → IsDistinct eqb (front ++ k ∷ back) → IsRest k front back
rest_of k [] back d = record { distinct = IsDistinct-tail eqb k back d; gone = apart-any k back (IsDistinct-head eqb k back d) }
rest_of k (x ∷ front) back d =
    let more = rest_of k front back (IsDistinct-tail eqb x (front ++ k ∷ back) d) in
    let apart = apart-any x (front ++ k ∷ back) (IsDistinct-head eqb x (front ++ k ∷ back) d) in
    let parts = or_parts (list_any (eqb x) front) (eqb x k || list_any (eqb x) back) (sym (any-append x front (k ∷ back)) ∙ apart) in
    let later = or_parts (eqb x k) (list_any (eqb x) back) parts.1 in
    record {
      distinct = IsDistinct-cons eqb x (front ++ back) (any-apart x (front ++ back) (any-append x front back ∙ ap (λ b. b || list_any (eqb x) back) parts.0 ∙ later.1)) more.distinct;
      gone = ap (λ b. b || list_any (eqb k) (front ++ back)) (flip k x later.0) ∙ more.gone;
    }
  where
    flip : (a b : ℕ) → eqb b a ≡ false → eqb a b ≡ false
    flip a b e = ne_eqb a b (λ is. false≢true (sym e ∙ eq-eqb b a (sym is)))

total-join : (f : ℕ → ℕ) (xs ys : List ℕ) → total f (xs ++ ys) ≡ total f xs + total f ys
total-join f [] ys = omega arith
total-join f (x ∷ xs) ys = let more = total-join f xs ys in omega arith

total-last : (f : ℕ → ℕ) (n k : ℕ) → total f (count_up n (suc k)) ≡ total f (count_up n k) + f (n + k)
total-last f n zero = let e : n + zero ≡ n = omega arith in let same = ap f e in omega arith
total-last f n (suc k) = let more = total-last f (n + 1) k in let e : n + 1 + k ≡ n + suc k = omega arith in let same = ap f e in omega arith

pub once_from_places : (n : ℕ) (xs : List ℕ) → IsDistinct eqb xs → ((q : ℕ) → list_any (eqb q) xs ≡ nat_lt q n) → (f : ℕ → ℕ) → total f xs ≡ total f (count_up 0 n)
once_from_places zero [] d all f = refl
once_from_places zero (x ∷ xs) d all f = absurd (false≢true (sym (le-ltb x 0 (omega arith)) ∙ sym (all x) ∙ or_left (eqb x x) (list_any (eqb x) xs) (eq-eqb x x refl)))
once_from_places (suc n) xs d all f =
    let at = split_at n xs (all n ∙ lt-ltb n (suc n) (omega arith)) in
    let rest = rest_of n at.front at.back (subst (IsDistinct eqb) at.split d) in
    let fewer = once_from_places n (at.front ++ at.back) rest.distinct (λ q. fewer_places q at rest) f in
    let here = ap (total f) at.split ∙ total-join f at.front (n ∷ at.back) in
    let others = total-join f at.front at.back in
    let last = total-last f 0 n in
    let z : 0 + n ≡ n = omega arith in
    let same = ap f z in
    omega arith
  where
    same_test : (q : ℕ) → (q ≡ n → ⊥) → nat_lt q (suc n) ≡ nat_lt q n
    same_test q ne = elim (cases_lt q n) [ inl lt ↦ lt-ltb q (suc n) (omega arith) ∙ sym (lt-ltb q n lt) | inr ge ↦ le-ltb q (suc n) (omega (arith, ne)) ∙ sym (le-ltb q n ge) ]

    fewer_places : (q : ℕ) (at : IsSplit n xs) → IsRest n at.front at.back → list_any (eqb q) (at.front ++ at.back) ≡ nat_lt q n
    fewer_places q at rest =
        elim (cases_eq q n) [
          | inl is ↦ ap (λ k. list_any (eqb k) (at.front ++ at.back)) is ∙ rest.gone ∙ sym (le-ltb q n (omega (arith, is)))
          | inr ne ↦
              any-append q at.front at.back
              ∙ sym (ap (λ b. list_any (eqb q) at.front || (b || list_any (eqb q) at.back)) (ne_eqb q n ne))
              ∙ sym (any-append q at.front (n ∷ at.back)) ∙ sym (ap (list_any (eqb q)) at.split) ∙ all q ∙ same_test q ne
        ]
