-- The lists of those that need each element, noted element by element.
use Rattle.std.proofs.Common.{◌≡◌, ℕ, ◌+◌, ◌<◌, ◌≤◌, Bool, true, false, List, [], ◌∷◌, ◌++◌, length, get_or, refl, ap, sym, ◌∙◌, subst, inl, inr, arith}
use Rattle.std.specs.Prelude.{◌&&◌, ◌==◌, if◌then◌else◌, nat_lt, replicate}
use Rattle.std.proofs.lemmas.Bool.{cases_eq, cases_lt, eq-eqb, ne_eqb, lt-ltb, le-ltb}
use Rattle.std.proofs.lemmas.List.{length-set, length-replicate, get_or-replicate, get_or-set_same, get_or-set_other, get_or_past}
use Rattle.std.proofs.lemmas.List.Elements.{All-head, All-tail, All-nil, All-push}
use Rattle.element_order.specs.Orders.{AllBelow, needs_of}
use Rattle.element_order.specs.Worklists.{times, IsFeeds, AreNoted, noted, all_noted}
use Rattle.element_order.proofs.Numbers.{present, times-push, times-cons, times-nil}

times-noted : (feeds : List (List ℕ)) (d i j k : ℕ) → d < length feeds → times j (get_or (noted feeds d i) k []) ≡ times j (get_or feeds k []) + (if (k == d) && (j == i) then 1 else 0)
times-noted feeds d i j k lt =
    elim (cases_eq k d) [
      | inl e ↦
          let there : get_or (noted feeds d i) k [] ≡ get_or feeds d [] ++ i ∷ [] = ap (λ q. get_or (noted feeds d i) q []) e ∙ get_or-set_same feeds d (get_or feeds d [] ++ i ∷ []) [] lt in
          let now : times j (get_or (noted feeds d i) k []) ≡ times j (get_or feeds d []) + (if j == i then 1 else 0) = ap (times j) there ∙ times-push j i (get_or feeds d []) in
          let same : times j (get_or feeds k []) ≡ times j (get_or feeds d []) = ap (λ q. times j (get_or feeds q [])) e in
          let test = present ((k == d) && (j == i)) (j == i) (ap (λ b. b && (j == i)) (eq-eqb k d e)) in
          omega arith
      | inr ne ↦
          let now : times j (get_or (noted feeds d i) k []) ≡ times j (get_or feeds k []) = ap (times j) (get_or-set_other feeds d k (get_or feeds d [] ++ i ∷ []) [] ne) in
          let test = present ((k == d) && (j == i)) false (ap (λ b. b && (j == i)) (ne_eqb k d ne)) in
          omega arith
    ]

length-all_noted : (feeds : List (List ℕ)) (ds : List ℕ) (i : ℕ) → length (all_noted feeds ds i) ≡ length feeds
length-all_noted feeds [] i = refl
length-all_noted feeds (d ∷ ds) i = length-all_noted (noted feeds d i) ds i ∙ length-set feeds d (get_or feeds d [] ++ i ∷ [])

times-all_noted : (feeds : List (List ℕ)) (ds : List ℕ) (i j k n : ℕ) → AllBelow n ds → length feeds ≡ n
    → times j (get_or (all_noted feeds ds i) k []) ≡ times j (get_or feeds k []) + (if j == i then times k ds else 0)
times-all_noted feeds [] i j k n h count = nothing (j == i)
  where
    nothing : (b : Bool) → times j (get_or feeds k []) ≡ times j (get_or feeds k []) + (if b then times k [] else 0)
    nothing true = let none = times-nil k in omega arith
    nothing false = omega arith
times-all_noted feeds (d ∷ ds) i j k n h count =
    let low : d < length feeds = subst (λ m. d < m) (sym count) (All-head (λ q. q < n) d ds h) in
    let more = times-all_noted (noted feeds d i) ds i j k n (All-tail (λ q. q < n) d ds h) (length-set feeds d (get_or feeds d [] ++ i ∷ []) ∙ count) in
    let one = times-noted feeds d i j k low in
    let cons = times-cons k d ds in
    joined (k == d) (j == i) (times j (get_or (all_noted (noted feeds d i) ds i) k [])) (times j (get_or (noted feeds d i) k [])) (times j (get_or feeds k [])) (times k ds) (times k (d ∷ ds)) more one cons
  where
    joined : (a b : Bool) (end middle start rest all : ℕ) → end ≡ middle + (if b then rest else 0) → middle ≡ start + (if a && b then 1 else 0) → all ≡ (if a then 1 else 0) + rest
        → end ≡ start + (if b then all else 0)
    joined true true end middle start rest all p q r = omega arith
    joined true false end middle start rest all p q r = omega arith
    joined false true end middle start rest all p q r = omega arith
    joined false false end middle start rest all p q r = omega arith

within-all_noted : (feeds : List (List ℕ)) (ds : List ℕ) (i k n : ℕ) → i < n → ((q : ℕ) → AllBelow n (get_or feeds q [])) → AllBelow n (get_or (all_noted feeds ds i) k [])
within-all_noted feeds [] i k n lt h = h k
within-all_noted feeds (d ∷ ds) i k n lt h = within-all_noted (noted feeds d i) ds i k n lt (λ q. one q)
  where
    one : (q : ℕ) → AllBelow n (get_or (noted feeds d i) q [])
    one q =
        elim (cases_eq q d) [
          | inl e ↦
              elim (cases_lt d (length feeds)) [
                | inl there ↦ subst (λ xs. AllBelow n xs) (sym (ap (λ p. get_or (noted feeds d i) p []) e ∙ get_or-set_same feeds d (get_or feeds d [] ++ i ∷ []) [] there)) (All-push (λ p. p < n) (get_or feeds d []) i (h d) lt)
                | inr past ↦ subst (λ xs. AllBelow n xs) (sym (get_or_past (noted feeds d i) q [] (subst (λ m. m ≤ q) (sym (length-set feeds d (get_or feeds d [] ++ i ∷ []))) (subst (λ m. length feeds ≤ m) (sym e) past)))) (All-nil (λ p. p < n))
              ]
          | inr ne ↦ subst (λ xs. AllBelow n xs) (sym (get_or-set_other feeds d q (get_or feeds d [] ++ i ∷ []) [] ne)) (h q)
        ]

pub noted_none : (needs feeds : List (List ℕ)) → feeds ≡ replicate (length needs) [] → AreNoted needs 0 feeds
noted_none needs feeds e = record {
  many = ap length e ∙ length-replicate (length needs) [];
  each = λ j k lt. ap (times j) (empty k) ∙ times-nil j ∙ sym (choice (nat_lt j 0) (times k (needs_of needs j)) (le-ltb j 0 (omega arith)));
  inside = λ k. subst (λ xs. AllBelow (length needs) xs) (sym (empty k)) (All-nil (λ p. p < length needs));
}
  where
    empty : (k : ℕ) → get_or feeds k [] ≡ []
    empty k =
        ap (λ ls. get_or ls k []) e
        ∙ elim (cases_lt k (length needs)) [
          | inl lt ↦ get_or-replicate (length needs) k [] [] lt
          | inr ge ↦ get_or_past (replicate (length needs) []) k [] (subst (λ m. m ≤ k) (sym (length-replicate (length needs) [])) ge)
        ]

    choice : (b : Bool) (m : ℕ) → b ≡ false → ◌≡◌ {A = ℕ} (if b then m else 0) 0
    choice b m e = ap (λ c. if c then m else 0) e

pub noted_more : (needs feeds after : List (List ℕ)) (n : ℕ) → n < length needs → AllBelow (length needs) (needs_of needs n) → after ≡ all_noted feeds (needs_of needs n) n → AreNoted needs n feeds → AreNoted needs (n + 1) after
noted_more needs feeds after n lt h made a = record {
  many = ap length made ∙ length-all_noted feeds (needs_of needs n) n ∙ a.many;
  each = λ j k low.
      let now : times j (get_or after k []) ≡ times j (get_or feeds k []) + (if j == n then times k (needs_of needs n) else 0)
      = ap (λ ls. times j (get_or ls k [])) made ∙ times-all_noted feeds (needs_of needs n) n j k (length needs) h a.many in
      let before = a.each j k low in
      elim (cases_eq j n) [
        | inl e ↦
            let was = choice (nat_lt j n) (times k (needs_of needs j)) false (le-ltb j n (omega (arith, e))) in
            let is = choice (nat_lt j (n + 1)) (times k (needs_of needs j)) true (lt-ltb j (n + 1) (omega (arith, e))) in
            let new = choice (j == n) (times k (needs_of needs n)) true (eq-eqb j n e) in
            let same = ap (λ q. times k (needs_of needs q)) e in
            omega arith
        | inr ne ↦
            let new = choice (j == n) (times k (needs_of needs n)) false (ne_eqb j n ne) in
            let test = choice (nat_lt j (n + 1)) (times k (needs_of needs j)) (nat_lt j n) (same_test j ne) in
            omega arith
      ];
  inside = λ k. subst (λ ls. AllBelow (length needs) (get_or ls k [])) (sym made) (within-all_noted feeds (needs_of needs n) n k (length needs) lt a.inside);
}
  where
    choice : (b : Bool) (m : ℕ) (c : Bool) → b ≡ c → ◌≡◌ {A = ℕ} (if b then m else 0) (if c then m else 0)
    choice b m c e = ap (λ d. if d then m else 0) e

    same_test : (j : ℕ) → (j ≡ n → ⊥) → nat_lt j (n + 1) ≡ nat_lt j n
    same_test j ne =
        elim (cases_lt j n) [
          | inl below ↦ lt-ltb j (n + 1) (omega arith) ∙ sym (lt-ltb j n below)
          | inr ge ↦ le-ltb j (n + 1) (omega (arith, ne)) ∙ sym (le-ltb j n ge)
        ]

pub noted_end : (needs feeds : List (List ℕ)) (n : ℕ) → length needs ≤ n → AreNoted needs n feeds → IsFeeds needs feeds
noted_end needs feeds n ge a = record {
  many = a.many;
  each = λ j k low high. a.each j k high ∙ choice (nat_lt j n) (times k (needs_of needs j)) (lt-ltb j n (omega arith));
  inside = a.inside;
}
  where
    choice : (b : Bool) (m : ℕ) → b ≡ true → ◌≡◌ {A = ℕ} (if b then m else 0) m
    choice b m e = ap (λ c. if c then m else 0) e
