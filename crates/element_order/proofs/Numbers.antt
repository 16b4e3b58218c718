-- Numbers that stand in a list, and how often.
use Rattle.std.proofs.Common.{◌≡◌, ℕ, zero, suc, ◌+◌, ◌<◌, ◌≤◌, ◌==◌, Bool, true, false, cond, List, [], ◌∷◌, ◌++◌, Some, None, length, refl, ap, sym, ◌∙◌, subst, inl, inr, arith, eqb}
use Rattle.std.specs.Prelude.{◌||◌, ◌&&◌, if◌then◌else◌}
use Rattle.std.specs.Ordering.{nat_cmp, match_ordering}
use Rattle.std.specs.declared.cmp.Ordering.TheVariants.{Less, Equal, Greater}
use Rattle.std.specs.BTreeSet.{insert_key}
use Rattle.std.proofs.lemmas.Bool.{false≢true, cases_eq, cases_Bool, cases_order, or_cases, eqb-true, eq-eqb, ne_eqb, lt-ltb, le-ltb}
use Rattle.std.proofs.lemmas.List.Elements.{All-head, All-tail}
use Rattle.element_order.specs.Orders.{AllBelow, among, all_among, first_from}
use Rattle.element_order.specs.Worklists.{times, waiting}

pub or_true : (b : Bool) → (b || true) ≡ true
or_true true = refl
or_true false = refl

pub or_false : (b : Bool) → (b || false) ≡ b
or_false true = refl
or_false false = refl

pub and_false : (b : Bool) → (b && false) ≡ false
and_false true = refl
and_false false = refl

-- a count of one test
pub present : (a b : Bool) → a ≡ b → ◌≡◌ {A = ℕ} (if a then 1 else 0) (if b then 1 else 0)
present a b e = ap (λ c. if c then 1 else 0) e

pub eqb_flip : (a b : ℕ) → eqb a b ≡ eqb b a
eqb_flip a b = elim (cases_eq a b) [ inl e ↦ eq-eqb a b e ∙ sym (eq-eqb b a (sym e)) | inr ne ↦ ne_eqb a b ne ∙ sym (ne_eqb b a (λ e. ne (sym e))) ]

pub among-push : (xs : List ℕ) (x k : ℕ) → among k (xs ++ x ∷ []) ≡ (among k xs || eqb k x)
among-push [] x k = last (eqb k x)
  where
    last : (b : Bool) → (b || false) ≡ (false || b)
    last true = refl
    last false = refl
among-push (y ∷ xs) x k = ap (λ b. eqb k y || b) (among-push xs x k) ∙ assoc (eqb k y) (among k xs) (eqb k x)
  where
    assoc : (a b c : Bool) → (a || (b || c)) ≡ ((a || b) || c)
    assoc true b c = refl
    assoc false b c = refl

pub below_among : (n k : ℕ) (ds : List ℕ) → AllBelow n ds → among k ds ≡ true → k < n
below_among n k [] h e = absurd (false≢true e)
below_among n k (d ∷ ds) h e =
    elim (or_cases (eqb k d) (among k ds) e) [
      | inl t ↦ subst (λ q. q < n) (sym (eqb-true k d t)) (All-head (λ q. q < n) d ds h)
      | inr t ↦ below_among n k ds (All-tail (λ q. q < n) d ds h) t
    ]

pub times-push : (k x : ℕ) (xs : List ℕ) → times k (xs ++ x ∷ []) ≡ times k xs + (if k == x then 1 else 0)
unfolding times
times-push k x [] = omega arith
times-push k x (y ∷ xs) = let e = times-push k x xs in omega arith

pub times-cons : (k x : ℕ) (xs : List ℕ) → times k (x ∷ xs) ≡ (if k == x then 1 else 0) + times k xs
unfolding times
times-cons k x xs = refl

pub times-nil : (k : ℕ) → times k [] ≡ 0
unfolding times
times-nil k = refl

pub times-from_among : (k : ℕ) (xs : List ℕ) → among k xs ≡ true → 0 < times k xs
unfolding times
times-from_among k [] e = absurd (false≢true e)
times-from_among k (x ∷ xs) e = by_test (eqb k x) (times-from_among k xs) e
  where
    by_test : (b : Bool) → (among k xs ≡ true → 0 < times k xs) → (b || among k xs) ≡ true → 0 < (if b then 1 else 0) + times k xs
    by_test true more h = omega arith
    by_test false more h = let there = more h in omega arith

pub among_from_times : (k : ℕ) (xs : List ℕ) → 0 < times k xs → among k xs ≡ true
unfolding times
among_from_times k [] h = absurd (omega arith)
among_from_times k (x ∷ xs) h = by_test (eqb k x) (among_from_times k xs) h
  where
    by_test : (b : Bool) → (0 < times k xs → among k xs ≡ true) → 0 < (if b then 1 else 0) + times k xs → (b || among k xs) ≡ true
    by_test true more h = refl
    by_test false more h = more (omega arith)

pub waiting-push : (placed ds : List ℕ) (x : ℕ) → among x placed ≡ false → waiting placed ds ≡ waiting (placed ++ x ∷ []) ds + times x ds
unfolding waiting times
waiting-push placed [] x new = refl
waiting-push placed (d ∷ ds) x new =
    let more = waiting-push placed ds x new in
    let first : (if among d placed then 0 else 1) ≡ (if among d placed || eqb d x then 0 else 1) + (if eqb d x then 1 else 0)
    = head (among d placed) (eqb d x) (λ t. subst (λ q. among q placed ≡ false) (sym (eqb-true d x t)) new) in
    let pushed = absent (among d (placed ++ x ∷ [])) (among d placed || eqb d x) (among-push placed x d) in
    let flipped = present (x == d) (eqb d x) (eqb_flip x d) in
    omega arith
  where
    absent : (a b : Bool) → a ≡ b → ◌≡◌ {A = ℕ} (if a then 0 else 1) (if b then 0 else 1)
    absent a b e = ap (λ c. if c then 0 else 1) e

    head : (b e : Bool) → (e ≡ true → b ≡ false) → (if b then 0 else 1) ≡ (if b || e then 0 else 1) + (if e then 1 else 0)
    head true true h = absurd (false≢true (sym (h refl)))
    head true false h = refl
    head false true h = refl
    head false false h = refl

pub waiting-zero : (placed ds : List ℕ) → (waiting placed ds == 0) ≡ all_among ds placed
unfolding waiting
waiting-zero placed [] = refl
waiting-zero placed (d ∷ ds) = by_test (among d placed) (waiting-zero placed ds)
  where
    by_test : (b : Bool) → (waiting placed ds == 0) ≡ all_among ds placed → ((if b then 0 else 1) + waiting placed ds == 0) ≡ (b && all_among ds placed)
    by_test true more = let e : 0 + waiting placed ds ≡ waiting placed ds = omega arith in ap (λ n. n == 0) e ∙ more
    by_test false more = ne_eqb (1 + waiting placed ds) 0 (λ e. absurd (omega arith))

pub waiting-nil : (ds : List ℕ) → waiting [] ds ≡ length ds
unfolding waiting
waiting-nil [] = refl
waiting-nil (d ∷ ds) = let more = waiting-nil ds in omega arith

pub among-insert : (ks : List ℕ) (f j : ℕ) → among j (insert_key nat_cmp ks f) ≡ (eqb j f || among j ks)
among-insert [] f j = refl
among-insert (x ∷ ks) f j =
    elim (cases_order f x) [
      | inl e ↦
          ap (λ b. among j (match_ordering (cond b Less (cond (f == x) Equal Greater)) (f ∷ x ∷ ks) (x ∷ ks) (x ∷ insert_key nat_cmp ks f))) (le-ltb f x (omega (arith, e)))
          ∙ ap (λ b. among j (match_ordering (cond b Equal Greater) (f ∷ x ∷ ks) (x ∷ ks) (x ∷ insert_key nat_cmp ks f))) (eq-eqb f x e)
          ∙ twice (eqb j x) (among j ks)
          ∙ ap (λ q. eqb j q || (eqb j x || among j ks)) (sym e)
      | inr (inl lt) ↦ ap (λ b. among j (match_ordering (cond b Less (cond (f == x) Equal Greater)) (f ∷ x ∷ ks) (x ∷ ks) (x ∷ insert_key nat_cmp ks f))) (lt-ltb f x lt)
      | inr (inr gt) ↦
          ap (λ b. among j (match_ordering (cond b Less (cond (f == x) Equal Greater)) (f ∷ x ∷ ks) (x ∷ ks) (x ∷ insert_key nat_cmp ks f))) (le-ltb f x (omega arith))
          ∙ ap (λ b. among j (match_ordering (cond b Equal Greater) (f ∷ x ∷ ks) (x ∷ ks) (x ∷ insert_key nat_cmp ks f))) (ne_eqb f x (λ e. absurd (omega arith)))
          ∙ ap (λ b. eqb j x || b) (among-insert ks f j)
          ∙ swapped (eqb j x) (eqb j f) (among j ks)
    ]
  where
    twice : (a b : Bool) → (a || b) ≡ (a || (a || b))
    twice true b = refl
    twice false b = refl

    swapped : (a b c : Bool) → (a || (b || c)) ≡ (b || (a || c))
    swapped true true c = refl
    swapped true false c = refl
    swapped false b c = refl

-- ---- the first number that passes
pub first_is : (test : ℕ → Bool) (i left k : ℕ) → i ≤ k → k < i + left → test k ≡ true → ((j : ℕ) → i ≤ j → j < k → test j ≡ false) → first_from test i left ≡ Some k
unfolding first_from
first_is test i zero k low high here before = absurd (omega arith)
first_is test i (suc left) k low high here before =
    elim (cases_eq i k) [
      | inl e ↦ ap (λ b. if b then Some i else first_from test (i + 1) left) (ap test e ∙ here) ∙ ap Some e
      | inr ne ↦
          ap (λ b. if b then Some i else first_from test (i + 1) left) (before i (omega arith) (omega (arith, ne)))
          ∙ first_is test (i + 1) left k (omega (arith, ne)) (omega arith) here (λ j a b. before j (omega arith) b)
    ]

pub first_none : (test : ℕ → Bool) (i left : ℕ) → ((j : ℕ) → i ≤ j → j < i + left → test j ≡ false) → first_from test i left ≡ None
unfolding first_from
first_none test i zero none = refl
first_none test i (suc left) none =
    ap (λ b. if b then Some i else first_from test (i + 1) left) (none i (omega arith) (omega arith)) ∙ first_none test (i + 1) left (λ j a b. none j (omega arith) (omega arith))

-- what it is that it is there
pub record IsFirst (test : ℕ → Bool) (i left k : ℕ) : Type 0 where
  pub low : i ≤ k
  pub high : k < i + left
  pub passes : test k ≡ true
  pub before : (j : ℕ) → i ≤ j → j < k → test j ≡ false

pub first_passes : (test : ℕ → Bool) (i left k : ℕ) → first_from test i left ≡ Some k → IsFirst test i left k
unfolding first_from
first_passes test i zero k e = absurd (cc)
first_passes test i (suc left) k e =
    elim (cases_Bool (test i)) [
      | inl t ↦
          let same : Some i ≡ Some k = ap (λ b. if b then Some i else first_from test (i + 1) left) (sym t) ∙ e in
          let is : i ≡ k = cc in
          record {
            low = omega (arith, is);
            high = omega (arith, is);
            passes = ap test (sym is) ∙ t;
            before = λ j a b. absurd (omega (arith, is));
          }
      | inr f ↦
          let later = first_passes test (i + 1) left k (ap (λ b. if b then Some i else first_from test (i + 1) left) (sym f) ∙ e) in
          record {
            low = let a = later.low in omega arith;
            high = let a = later.high in omega arith;
            passes = later.passes;
            before = λ j a b. elim (cases_eq j i) [ inl is ↦ ap test is ∙ f | inr ne ↦ later.before j (omega (arith, ne)) b ];
          }
    ]

pub none_passes : (test : ℕ → Bool) (i left : ℕ) → first_from test i left ≡ None → (j : ℕ) → i ≤ j → j < i + left → test j ≡ false
unfolding first_from
none_passes test i zero e j a b = absurd (omega arith)
none_passes test i (suc left) e j a b =
    elim (cases_Bool (test i)) [
      | inl t ↦
          let wrong : Some i ≡ None = ap (λ b. if b then Some i else first_from test (i + 1) left) (sym t) ∙ e in absurd (cc)
      | inr f ↦
          elim (cases_eq j i) [
            | inl is ↦ ap test is ∙ f
            | inr ne ↦ none_passes test (i + 1) left (ap (λ b. if b then Some i else first_from test (i + 1) left) (sym f) ∙ e) j (omega (arith, ne)) (omega arith)
          ]
    ]
