-- A walk in element order, step by step.
use Rattle.std.proofs.Common.{◌≡◌, ℕ, zero, suc, ◌+◌, ◌-◌, ◌<◌, ◌≤◌, Bool, true, false, cond, not, List, [], ◌∷◌, ◌++◌, Some, None, length, get_or, map, refl, ap, sym, ◌∙◌, subst, inl, inr, arith, eqb}
use Rattle.std.specs.Prelude.{◌||◌, ◌&&◌, ◌==◌, if◌then◌else◌, All, nat_lt}
use Rattle.std.specs.List.{IsDistinct}
use Rattle.std.specs.Ordering.{nat_cmp}
use Rattle.std.specs.declared.cmp.Ordering.TheVariants.{Less, Equal, Greater}
use Rattle.std.specs.BTreeMap.Range.{IsLtBy}
use Rattle.std.specs.BTreeSet.{insert_key}
use Rattle.std.proofs.lemmas.Bool.{false≢true, cases_eq, cases_Bool, cases_lt, cases_order, or_cases, and_parts, not-true, eqb-true, eq-eqb, ne_eqb, lt-ltb, le-ltb, or_left}
use Rattle.std.proofs.lemmas.List.{length_push, length-set, get_or-set_same, get_or-set_other, get_or_past, get_or_default, get_or-map, length-map}
use Rattle.std.proofs.lemmas.List.Elements.{All-head, All-tail, All-nil, All-weaker}
use Rattle.std.proofs.lemmas.Map.Keys.{IsDistinct-push}
use Rattle.std.proofs.lemmas.Map.Steps.{length-le_from_distinct_below}
use Rattle.std.proofs.lemmas.Cmp.{nat_eq_equiv}
use Rattle.element_order.specs.Orders.{AllBelow, among, needs_of, is_ready, next_ready, with_next, ordered_from, ordered}
use Rattle.element_order.specs.Worklists.{times, waiting, IsFeeds, told_waits, told_keys, all_told_waits, all_told_keys, AreReady, Placing, Walk, AreFound, AreDue}
use Rattle.element_order.proofs.Numbers.{or_true, or_false, and_false, present, among-push, times-cons, times-nil, waiting-push, waiting-zero, waiting-nil, among-insert, first_is, first_none}

-- ---- what is ready
pub ready_below : (placed keys waits : List ℕ) (j : ℕ) → AreReady placed keys waits → among j keys ≡ true → (j < length waits) × (among j placed ≡ false) × (get_or waits j 1 ≡ 0)
ready_below placed keys waits j r e =
    let parts = and_parts (not (among j placed)) (get_or waits j 1 == 0) (sym (r.known j) ∙ e) in
    let zero_there : get_or waits j 1 ≡ 0 = eqb-true (get_or waits j 1) 0 parts.1 in (
      elim (cases_lt j (length waits)) [
        | inl lt ↦ lt
        | inr ge ↦ let past = get_or_past waits j 1 ge in absurd (omega arith)
      ],
      not-true (among j placed) parts.0,
      zero_there,
    )

-- ---- an element is placed
pub place_one : (needs feeds : List (List ℕ)) (placed keys rest waits : List ℕ) (k : ℕ) → IsFeeds needs feeds → Placing needs placed [] keys waits → keys ≡ k ∷ rest → among k rest ≡ false
    → Placing needs (placed ++ k ∷ []) (get_or feeds k []) rest waits
place_one needs feeds placed keys rest waits k f p e apart = record {
  sized = p.sized;
  counted = λ j lt.
      let before = p.counted j lt in
      let pushed = waiting-push placed (needs_of needs j) k fresh in
      let same = f.each j k lt low in
      let none = times-nil j in
      omega arith;
  ready = record { known = λ j. ready_one j };
  closed = λ j there.
      elim (or_cases (among j placed) (eqb j k) (sym (among-push placed k j) ∙ there)) [
        | inl t ↦ p.closed j t
        | inr t ↦ let is : j ≡ k = eqb-true j k t in subst (λ q. get_or waits q 1 ≡ 0) (sym is) here.2
      ];
  within = f.inside k;
}
  where
    in_keys : among k keys ≡ true
    in_keys = ap (among k) e ∙ or_left (eqb k k) (among k rest) (eq-eqb k k refl)

    here : (k < length waits) × (among k placed ≡ false) × (get_or waits k 1 ≡ 0)
    here = ready_below placed keys waits k p.ready in_keys

    fresh : among k placed ≡ false
    fresh = here.1

    low : k < length needs
    low = subst (λ n. k < n) p.sized here.0

    ready_one : (j : ℕ) → among j rest ≡ (not (among j (placed ++ k ∷ [])) && (get_or waits j 1 == 0))
    ready_one j =
        elim (cases_eq j k) [
          | inl is ↦
              ap (λ q. among q rest) is ∙ apart
              ∙ ap (λ b. not b && (get_or waits j 1 == 0)) (sym (among-push placed k j ∙ ap (λ b. among j placed || b) (eq-eqb j k is) ∙ or_true (among j placed)))
          | inr ne ↦
              ap (λ b. b || among j rest) (sym (ne_eqb j k ne)) ∙ sym (ap (among j) e) ∙ p.ready.known j
              ∙ ap (λ b. not b && (get_or waits j 1 == 0)) (sym (among-push placed k j ∙ ap (λ b. among j placed || b) (ne_eqb j k ne) ∙ or_false (among j placed)))
        ]

-- ---- an element is told
pub tell_more : (needs : List (List ℕ)) (placed more keys waits : List ℕ) (f : ℕ) → Placing needs placed (f ∷ more) keys waits
    → Placing needs placed more (told_keys keys waits f) (told_waits waits f)
tell_more needs placed more keys waits f p = record {
  sized = length-set waits f (get_or waits f 0 - 1) ∙ p.sized;
  counted = λ j lt.
      let before = p.counted j lt in
      elim (cases_eq j f) [
        | inl is ↦
            let now : get_or (told_waits waits f) j 1 ≡ get_or waits f 0 - 1 = ap (λ q. get_or (told_waits waits f) q 1) is ∙ told_there in
            let one = times-cons j f more in
            let hit = present (j == f) true (eq-eqb j f is) in
            let same = ap (λ q. get_or waits q 1) is in
            let plain = default_there in
            omega arith
        | inr ne ↦
            let now = told_other j ne in
            let one = times-cons j f more in
            let hit = present (j == f) false (ne_eqb j f ne) in
            omega arith
      ];
  ready = record { known = λ j. ready_one j };
  closed = λ j there.
      elim (cases_eq j f) [
        | inl is ↦ absurd (let zero_there = p.closed j there in let same = ap (λ q. get_or waits q 1) is in let some = positive in omega arith)
        | inr ne ↦ told_other j ne ∙ p.closed j there
      ];
  within = All-tail (λ d. d < length needs) f more p.within;
}
  where
    low : f < length needs
    low = All-head (λ d. d < length needs) f more p.within

    low_waits : f < length waits
    low_waits = subst (λ n. f < n) (sym p.sized) low

    default_there : get_or waits f 0 ≡ get_or waits f 1
    default_there = get_or_default waits f 0 1 low_waits

    positive : 0 < get_or waits f 1
    positive =
        let before = p.counted f low in
        let one = times-cons f f more in
        let hit = present (f == f) true (eq-eqb f f refl) in
        omega arith

    told_there : get_or (told_waits waits f) f 1 ≡ get_or waits f 0 - 1
    told_there = get_or-set_same waits f (get_or waits f 0 - 1) 1 low_waits

    told_other : (j : ℕ) → (j ≡ f → ⊥) → get_or (told_waits waits f) j 1 ≡ get_or waits j 1
    told_other j ne = get_or-set_other waits f j (get_or waits f 0 - 1) 1 ne

    fresh : among f placed ≡ false
    fresh = elim (cases_Bool (among f placed)) [ inl t ↦ absurd (let zero_there = p.closed f t in let some = positive in omega arith) | inr n ↦ n ]

    not_yet : among f keys ≡ false
    not_yet = p.ready.known f ∙ ap (λ b. not (among f placed) && b) (ne_eqb (get_or waits f 1) 0 (λ e. absurd (let some = positive in omega arith))) ∙ and_false (not (among f placed))

    told_among : (b : Bool) (j : ℕ) → among j (if b then insert_key nat_cmp keys f else keys) ≡ ((b && eqb j f) || among j keys)
    told_among true j = among-insert keys f j
    told_among false j = refl

    no_hit : (b c : Bool) → ((b && false) || c) ≡ c
    no_hit true c = refl
    no_hit false c = refl

    hit_here : (b : Bool) → ((b && true) || false) ≡ (not false && b)
    hit_here true = refl
    hit_here false = refl

    ready_one : (j : ℕ) → among j (told_keys keys waits f) ≡ (not (among j placed) && (get_or (told_waits waits f) j 1 == 0))
    ready_one j =
        told_among (get_or (told_waits waits f) f 1 == 0) j
        ∙ elim (cases_eq j f) [
          | inl is ↦
              ap (λ b. ((get_or (told_waits waits f) f 1 == 0) && b) || among j keys) (eq-eqb j f is)
              ∙ ap (λ q. ((get_or (told_waits waits f) f 1 == 0) && true) || among q keys) is
              ∙ ap (λ b. ((get_or (told_waits waits f) f 1 == 0) && true) || b) not_yet
              ∙ hit_here (get_or (told_waits waits f) f 1 == 0)
              ∙ ap (λ b. not b && (get_or (told_waits waits f) f 1 == 0)) (sym fresh)
              ∙ ap (λ q. not (among q placed) && (get_or (told_waits waits f) q 1 == 0)) (sym is)
          | inr ne ↦
              ap (λ b. ((get_or (told_waits waits f) f 1 == 0) && b) || among j keys) (ne_eqb j f ne)
              ∙ no_hit (get_or (told_waits waits f) f 1 == 0) (among j keys)
              ∙ p.ready.known j
              ∙ ap (λ n. not (among j placed) && (n == 0)) (sym (told_other j ne))
        ]

pub tell_all : (needs : List (List ℕ)) (placed more keys waits : List ℕ) → Placing needs placed more keys waits
    → Placing needs placed [] (all_told_keys keys waits more) (all_told_waits waits more)
tell_all needs placed [] keys waits p = p
tell_all needs placed (f ∷ more) keys waits p = tell_all needs placed more (told_keys keys waits f) (told_waits waits f) (tell_more needs placed more keys waits f p)

-- what is placed may be told to each that needs it
pub due_all : (needs : List (List ℕ)) (placed more keys waits : List ℕ) → Placing needs placed more keys waits → AreDue more waits
due_all needs placed more keys waits p = record {
  due = λ j.
      elim (cases_lt j (length needs)) [
        | inl lt ↦
            let before = p.counted j lt in
            let low : j < length waits = subst (λ n. j < n) (sym p.sized) lt in
            let same = get_or_default waits j 0 1 low in
            omega arith
        | inr ge ↦ let none = times_past j (length needs) more ge p.within in omega arith
      ];
}
  where
    times_past : (j n : ℕ) (xs : List ℕ) → n ≤ j → AllBelow n xs → times j xs ≡ 0
    times_past j n [] ge h = times-nil j
    times_past j n (x ∷ xs) ge h =
        let here = All-head (λ d. d < n) x xs h in
        let more = times_past j n xs ge (All-tail (λ d. d < n) x xs h) in
        let one = times-cons j x xs in
        let miss = present (j == x) false (ne_eqb j x (λ e. absurd (omega arith))) in
        omega arith

pub due_more : (f : ℕ) (more waits : List ℕ) → AreDue (f ∷ more) waits → (0 < get_or waits f 0) × AreDue more (told_waits waits f)
due_more f more waits d = (
  positive,
  record {
    due = λ j.
        let before = d.due j in
        let one = times-cons j f more in
        elim (cases_eq j f) [
          | inl is ↦
              let hit = present (j == f) true (eq-eqb j f is) in
              let now = ap (λ q. get_or (told_waits waits f) q 0) is ∙ get_or-set_same waits f (get_or waits f 0 - 1) 0 low in
              let same = ap (λ q. get_or waits q 0) is in
              omega arith
          | inr ne ↦
              let hit = present (j == f) false (ne_eqb j f ne) in
              let now = get_or-set_other waits f j (get_or waits f 0 - 1) 0 ne in
              omega arith
        ];
  },
)
  where
    positive : 0 < get_or waits f 0
    positive =
        let before = d.due f in
        let one = times-cons f f more in
        let hit = present (f == f) true (eq-eqb f f refl) in
        omega arith

    low : f < length waits
    low = elim (cases_lt f (length waits)) [ inl lt ↦ lt | inr ge ↦ let past = get_or_past waits f 0 ge in let some = positive in absurd (omega arith) ]

-- ---- which is the next
next_test : (needs : List (List ℕ)) (placed keys waits : List ℕ) (j : ℕ) → Placing needs placed [] keys waits → j < length needs → is_ready needs placed j ≡ among j keys
next_test needs placed keys waits j p lt =
    ap (λ b. not (among j placed) && b) (sym (waiting-zero placed (needs_of needs j)) ∙ ap (λ n. n == 0) (let before = p.counted j lt in let none = times-nil j in let same : waiting placed (needs_of needs j) ≡ get_or waits j 1 = omega arith in same))
    ∙ sym (p.ready.known j)

pub next_is : (needs : List (List ℕ)) (placed keys rest waits : List ℕ) (k : ℕ) → Placing needs placed [] keys waits → keys ≡ k ∷ rest → All (λ q. k < q) rest → next_ready needs placed ≡ Some k
next_is needs placed keys rest waits k p e above =
    first_is (is_ready needs placed) 0 (length needs) k (omega arith) (omega (arith, low)) (next_test needs placed keys waits k p low ∙ in_keys)
    (λ j a b. next_test needs placed keys waits j p (omega (arith, low)) ∙ ap (among j) e ∙ missed j b)
  where
    in_keys : among k keys ≡ true
    in_keys = ap (among k) e ∙ or_left (eqb k k) (among k rest) (eq-eqb k k refl)

    low : k < length needs
    low = subst (λ n. k < n) p.sized (ready_below placed keys waits k p.ready in_keys).0

    past : (j : ℕ) (xs : List ℕ) → j < k → All (λ q. k < q) xs → among j xs ≡ false
    past j [] lt h = refl
    past j (x ∷ xs) lt h =
        let here = All-head (λ q. k < q) x xs h in
        ap (λ b. b || among j xs) (ne_eqb j x (λ e. absurd (omega arith))) ∙ past j xs lt (All-tail (λ q. k < q) x xs h)

    missed : (j : ℕ) → j < k → among j (k ∷ rest) ≡ false
    missed j lt = ap (λ b. b || among j rest) (ne_eqb j k (λ e. absurd (omega arith))) ∙ past j rest lt above

pub next_none : (needs : List (List ℕ)) (placed keys waits : List ℕ) → Placing needs placed [] keys waits → keys ≡ [] → next_ready needs placed ≡ None
next_none needs placed keys waits p e = first_none (is_ready needs placed) 0 (length needs) (λ j a b. next_test needs placed keys waits j p (omega arith) ∙ ap (among j) e)

apart_above : (k : ℕ) (xs : List ℕ) → All (λ q. k < q) xs → among k xs ≡ false
apart_above k [] h = refl
apart_above k (x ∷ xs) h =
    let here = All-head (λ q. k < q) x xs h in
    ap (λ b. b || among k xs) (ne_eqb k x (λ e. absurd (omega arith))) ∙ apart_above k xs (All-tail (λ q. k < q) x xs h)

-- ---- the definition, turn by turn
pub turn_some : (needs : List (List ℕ)) (turns : ℕ) (placed : List ℕ) (k : ℕ) → next_ready needs placed ≡ Some k → ordered_from needs (suc turns) placed ≡ ordered_from needs turns (placed ++ k ∷ [])
unfolding ordered_from
turn_some needs turns placed k e = ap (with_next (λ i. ordered_from needs turns (placed ++ i ∷ [])) placed) e

pub turns_end : (needs : List (List ℕ)) (turns : ℕ) (placed : List ℕ) → next_ready needs placed ≡ None → ordered_from needs turns placed ≡ placed
unfolding ordered_from
turns_end needs zero placed e = refl
turns_end needs (suc turns) placed e = ap (with_next (λ i. ordered_from needs turns (placed ++ i ∷ [])) placed) e

-- ---- a whole step
pub walk_more : (needs feeds : List (List ℕ)) (placed keys rest waits : List ℕ) (k : ℕ) → Walk needs feeds placed keys waits → keys ≡ k ∷ rest → All (λ q. k < q) rest
    → Walk needs feeds (placed ++ k ∷ []) (all_told_keys rest waits (get_or feeds k [])) (all_told_waits waits (get_or feeds k []))
walk_more needs feeds placed keys rest waits k w e above = record {
  fed = w.fed;
  placing = tell_all needs (placed ++ k ∷ []) (get_or feeds k []) rest waits (place_one needs feeds placed keys rest waits k w.fed w.placing e (apart_above k rest above));
  distinct = distinct;
  below = below;
  same = one_turn (length needs - length placed) (length needs - length (placed ++ k ∷ [])) (let a = length_push placed k in let b = room in omega arith) ∙ w.same;
}
  where
    in_keys : among k keys ≡ true
    in_keys = ap (among k) e ∙ or_left (eqb k k) (among k rest) (eq-eqb k k refl)

    here : (k < length waits) × (among k placed ≡ false) × (get_or waits k 1 ≡ 0)
    here = ready_below placed keys waits k w.placing.ready in_keys

    distinct : IsDistinct eqb (placed ++ k ∷ [])
    distinct = IsDistinct-push nat_eq_equiv placed k w.distinct here.1

    below : (q : ℕ) → among q (placed ++ k ∷ []) ≡ true → q < length needs
    below q there =
        elim (or_cases (among q placed) (eqb q k) (sym (among-push placed k q) ∙ there)) [
          | inl t ↦ w.below q t
          | inr t ↦ let is : q ≡ k = eqb-true q k t in subst (λ r. r < length needs) (sym is) (subst (λ n. k < n) w.placing.sized here.0)
        ]

    room : length (placed ++ k ∷ []) ≤ length needs
    room = length-le_from_distinct_below (placed ++ k ∷ []) (length needs) distinct below

    turn : (left : ℕ) → ordered_from needs (suc left) placed ≡ ordered_from needs left (placed ++ k ∷ [])
    turn left = turn_some needs left placed k (next_is needs placed keys rest waits k w.placing e above)

    one_turn : (turns left : ℕ) → turns ≡ suc left → ordered_from needs left (placed ++ k ∷ []) ≡ ordered_from needs turns placed
    one_turn turns left is = sym (ap (λ t. ordered_from needs t placed) is ∙ turn left)

pub walk_room : (needs feeds : List (List ℕ)) (placed keys waits : List ℕ) → Walk needs feeds placed keys waits → length placed ≤ length needs
walk_room needs feeds placed keys waits w = length-le_from_distinct_below placed (length needs) w.distinct w.below

pub walk_ends : (needs feeds : List (List ℕ)) (placed keys waits : List ℕ) → Walk needs feeds placed keys waits → keys ≡ [] → placed ≡ ordered needs
walk_ends needs feeds placed keys waits w e = sym (turns_end needs (length needs - length placed) placed (next_none needs placed keys waits w.placing e)) ∙ w.same

-- ---- the start
pub walk_begins : (needs feeds : List (List ℕ)) (keys waits : List ℕ) → IsFeeds needs feeds → waits ≡ map length needs → AreFound (length waits) waits keys → Walk needs feeds [] keys waits
unfolding ordered IsDistinct
walk_begins needs feeds keys waits f e found = record {
  fed = f;
  placing = record {
    sized = sized;
    counted = λ j lt.
        let now : get_or waits j 1 ≡ length (needs_of needs j) = ap (λ ws. get_or ws j 1) e ∙ get_or-map length needs j [] 1 lt in
        let all = waiting-nil (needs_of needs j) in
        let none = times-nil j in
        omega arith;
    ready = record {
      known = λ j.
          found.known j
          ∙ elim (cases_lt j (length waits)) [
            | inl lt ↦ ap (λ b. b && (get_or waits j 1 == 0)) (lt-ltb j (length waits) lt)
            | inr ge ↦
                ap (λ b. b && (get_or waits j 1 == 0)) (le-ltb j (length waits) ge)
                ∙ sym (ne_eqb (get_or waits j 1) 0 (λ z. absurd (let past = get_or_past waits j 1 ge in omega arith)))
          ];
    };
    closed = λ j there. absurd (false≢true there);
    within = All-nil (λ d. d < length needs);
  };
  distinct = tt;
  below = λ q there. absurd (false≢true there);
  same = let n : length needs - 0 ≡ length needs = omega arith in ap (λ t. ordered_from needs t []) n;
}
  where
    sized : length waits ≡ length needs
    sized = ap length e ∙ length-map needs length

-- ---- for the functions
pub told_due : (needs feeds : List (List ℕ)) (placed keys rest waits : List ℕ) (k : ℕ) → Walk needs feeds placed keys waits → keys ≡ k ∷ rest → All (λ q. k < q) rest → AreDue (get_or feeds k []) waits
told_due needs feeds placed keys rest waits k w e above =
    due_all needs (placed ++ k ∷ []) (get_or feeds k []) rest waits (place_one needs feeds placed keys rest waits k w.fed w.placing e (apart_above k rest above))

pub first_within : (needs feeds : List (List ℕ)) (placed keys rest waits : List ℕ) (k : ℕ) → Walk needs feeds placed keys waits → keys ≡ k ∷ rest → k < length feeds
first_within needs feeds placed keys rest waits k w e =
    let here = (ready_below placed keys waits k w.placing.ready (ap (among k) e ∙ or_left (eqb k k) (among k rest) (eq-eqb k k refl))).0 in
    let many = w.fed.many in
    let sized = w.placing.sized in
    omega arith

pub all_above : (k : ℕ) (rest : List ℕ) → All (IsLtBy nat_cmp k) rest → All (λ q. k < q) rest
all_above k rest h = All-weaker (IsLtBy nat_cmp k) (λ q. k < q) (λ q lt. below q lt) rest h
  where
    equal : (q : ℕ) → k ≡ q → nat_cmp k q ≡ Equal
    equal q e = ap (λ b. cond b Less (cond (k == q) Equal Greater)) (le-ltb k q (omega (arith, e))) ∙ ap (λ b. cond b Equal Greater) (eq-eqb k q e)

    greater : (q : ℕ) → q < k → nat_cmp k q ≡ Greater
    greater q more = ap (λ b. cond b Less (cond (k == q) Equal Greater)) (le-ltb k q (omega arith)) ∙ ap (λ b. cond b Equal Greater) (ne_eqb k q (λ e. absurd (omega (arith, e))))

    below : (q : ℕ) → IsLtBy nat_cmp k q → k < q
    below q lt =
        elim (cases_order k q) [
          | inl e ↦ let is = equal q e in absurd (cc)
          | inr (inl less) ↦ less
          | inr (inr more) ↦ let is = greater q more in absurd (cc)
        ]

-- what waits for nothing at the start
pub found_none : (waits keys : List ℕ) → keys ≡ [] → AreFound 0 waits keys
found_none waits keys e = record { known = λ j. ap (among j) e ∙ ap (λ b. b && (get_or waits j 1 == 0)) (sym (le-ltb j 0 (omega arith))) }

below_more : (n j : ℕ) → (j ≡ n → ⊥) → nat_lt j (n + 1) ≡ nat_lt j n
below_more n j ne =
    elim (cases_lt j n) [
      | inl below ↦ lt-ltb j (n + 1) (omega arith) ∙ sym (lt-ltb j n below)
      | inr ge ↦ le-ltb j (n + 1) (omega (arith, ne)) ∙ sym (le-ltb j n ge)
    ]

pub found_here : (n : ℕ) (waits keys after : List ℕ) → get_or waits n 1 ≡ 0 → after ≡ insert_key nat_cmp keys n → AreFound n waits keys → AreFound (n + 1) waits after
found_here n waits keys after none e f = record {
  known = λ j.
      ap (among j) e ∙ among-insert keys n j
      ∙ elim (cases_eq j n) [
        | inl is ↦
            ap (λ b. b || among j keys) (eq-eqb j n is)
            ∙ sym (ap (λ b. b && (get_or waits j 1 == 0)) (lt-ltb j (n + 1) (omega (arith, is))) ∙ ap (λ q. true && (get_or waits q 1 == 0)) is ∙ eq-eqb (get_or waits n 1) 0 none)
        | inr ne ↦ ap (λ b. b || among j keys) (ne_eqb j n ne) ∙ f.known j ∙ ap (λ b. b && (get_or waits j 1 == 0)) (sym (below_more n j ne))
      ];
}

pub found_other : (n : ℕ) (waits keys after : List ℕ) → (get_or waits n 1 ≡ 0 → ⊥) → after ≡ keys → AreFound n waits keys → AreFound (n + 1) waits after
found_other n waits keys after some e f = record {
  known = λ j.
      ap (among j) e ∙ f.known j
      ∙ elim (cases_eq j n) [
        | inl is ↦
            ap (λ b. b && (get_or waits j 1 == 0)) (le-ltb j n (omega (arith, is)))
            ∙ sym (ap (λ b. nat_lt j (n + 1) && b) (ne_eqb (get_or waits j 1) 0 (λ z. some (ap (λ q. get_or waits q 1) (sym is) ∙ z))) ∙ and_false (nat_lt j (n + 1)))
        | inr ne ↦ ap (λ b. b && (get_or waits j 1 == 0)) (sym (below_more n j ne))
      ];
}
