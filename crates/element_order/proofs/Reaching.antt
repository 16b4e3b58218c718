-- A walk through what an element depends on, step by step.
use Rattle.std.proofs.Common.{◌≡◌, ℕ, zero, suc, ◌+◌, ◌<◌, ◌≤◌, Bool, true, false, List, [], ◌∷◌, ◌++◌, Option, Some, None, length, get_or, set, refl, ap, sym, ◌∙◌, subst, inl, inr, arith, eqb}
use Rattle.std.specs.Prelude.{◌||◌, ◌⊎◌, ◌↔◌, if◌then◌else◌, All, IsTrue, IsSomeAnd, replicate}
use Rattle.std.proofs.lemmas.Bool.{false≢true, cases_eq, cases_Bool, cases_lt, or_cases, or_parts, eqb-true, eq-eqb, ne_eqb, or_left, or_right}
use Rattle.std.proofs.lemmas.List.{length_push, length-set, get_or-set_same, get_or-set_other, get_or_past, length-replicate, get_or-replicate}
use Rattle.std.proofs.lemmas.List.Elements.{All-head, All-tail, All-get_or, All-from_get_or}
use Rattle.element_order.specs.Orders.{AllBelow, among, needs_of, ordered}
use Rattle.element_order.specs.Laws.{Depends, TellsFirst, IsFirstOnCycle}
use Rattle.element_order.specs.Laws.Depends.{direct, through}
use Rattle.element_order.specs.Worklists.{IsFeeds}
use Rattle.element_order.specs.Reached.{unseen, is_marked, with_marks, AreClear, seen_with, waiting_with, all_seen, all_waiting, IsTurn, is_reached, Reach}
use Rattle.element_order.proofs.Numbers.{among-push, below_among, times-from_among, among_from_times, or_false}
use Rattle.element_order.proofs.OrderLaws.{follows, placed_is_clear, order_holds, among_at}

-- ---- marks
marked_below : (marks : List Bool) (x : ℕ) → is_marked marks x ≡ true → x < length marks
marked_below marks x e = elim (cases_lt x (length marks)) [ inl lt ↦ lt | inr ge ↦ absurd (false≢true (sym (get_or_past marks x false ge) ∙ e)) ]

set_marked : (marks : List Bool) (d x : ℕ) → d < length marks → is_marked (set marks d true) x ≡ (eqb x d || is_marked marks x)
set_marked marks d x lt =
    elim (cases_eq x d) [
      | inl e ↦ ap (is_marked (set marks d true)) e ∙ get_or-set_same marks d true false lt ∙ ap (λ b. b || is_marked marks x) (sym (eq-eqb x d e))
      | inr ne ↦ get_or-set_other marks d x true false ne ∙ ap (λ b. b || is_marked marks x) (sym (ne_eqb x d ne))
    ]

pub length-seen_with : (seen : List Bool) (d : ℕ) → length (seen_with seen d) ≡ length seen
length-seen_with seen d = by_test (is_marked seen d)
  where
    by_test : (b : Bool) → length (if b then seen else set seen d true) ≡ length seen
    by_test true = refl
    by_test false = length-set seen d true

-- ---- an element is marked
reach_one : (needs : List (List ℕ)) (cleared : List Bool) (start d : ℕ) (more : List ℕ) (seen : List Bool) (waiting : List ℕ) (b : Bool) → is_marked seen d ≡ b → Reach needs cleared start (d ∷ more) seen waiting
    → Reach needs cleared start more (if b then seen else set seen d true) (if b then waiting else waiting ++ d ∷ [])
reach_one needs cleared start d more seen waiting true e r = record {
  sized = r.sized;
  sound = r.sound;
  marked = r.marked;
  waits = r.waits;
  closed = λ x k there uncleared idle need. by_case k (r.closed x k there uncleared idle need);
  due = λ k there. r.due k (or_right (eqb k d) (among k more) there);
  within = All-tail (λ k. k < length needs) d more r.within;
}
  where
    by_case : (k : ℕ) → ((eqb k d || among k more) || is_marked seen k) ≡ true → (among k more || is_marked seen k) ≡ true
    by_case k h =
        elim (or_cases (eqb k d || among k more) (is_marked seen k) h) [
          | inl t ↦
              elim (or_cases (eqb k d) (among k more) t) [
                | inl is ↦ or_right (among k more) (is_marked seen k) (ap (is_marked seen) (eqb-true k d is) ∙ e)
                | inr u ↦ or_left (among k more) (is_marked seen k) u
              ]
          | inr t ↦ or_right (among k more) (is_marked seen k) t
        ]
reach_one needs cleared start d more seen waiting false e r = record {
  sized = length-set seen d true ∙ r.sized;
  sound = λ k there.
      elim (or_cases (eqb k d) (is_marked seen k) (sym (set_marked seen d k low) ∙ there)) [
        | inl is ↦ inl (subst (λ q. Depends needs start q) (sym (eqb-true k d is)) here)
        | inr t ↦ r.sound k t
      ];
  marked = λ x there.
      set_marked seen d x low
      ∙ elim (or_cases (among x waiting) (eqb x d) (sym (among-push waiting d x) ∙ there)) [
        | inl t ↦ or_right (eqb x d) (is_marked seen x) (r.marked x t)
        | inr t ↦ or_left (eqb x d) (is_marked seen x) t
      ];
  waits = λ x there.
      elim (or_cases (among x waiting) (eqb x d) (sym (among-push waiting d x) ∙ there)) [
        | inl t ↦ r.waits x t
        | inr t ↦ subst (λ q. Depends needs start q) (sym (eqb-true x d t)) here
      ];
  closed = λ x k there uncleared idle need.
      let apart = or_parts (among x waiting) (eqb x d) (sym (among-push waiting d x) ∙ idle) in
      let was : is_reached start seen x ≡ true = sym (ap (λ b. eqb x start || b) (set_marked seen d x low ∙ ap (λ b. b || is_marked seen x) apart.1)) ∙ there in
      by_case k (r.closed x k was uncleared apart.0 need);
  due = λ k there. r.due k (or_right (eqb k d) (among k more) there);
  within = All-tail (λ k. k < length needs) d more r.within;
}
  where
    low : d < length seen
    low = let is = r.sized in let lt = All-head (λ k. k < length needs) d more r.within in omega arith

    here : Depends needs start d
    here = r.due d (or_left (eqb d d) (among d more) (eq-eqb d d refl))

    by_case : (k : ℕ) → ((eqb k d || among k more) || is_marked seen k) ≡ true → (among k more || is_marked (set seen d true) k) ≡ true
    by_case k h =
        elim (or_cases (eqb k d || among k more) (is_marked seen k) h) [
          | inl t ↦
              elim (or_cases (eqb k d) (among k more) t) [
                | inl is ↦ or_right (among k more) (is_marked (set seen d true) k) (set_marked seen d k low ∙ or_left (eqb k d) (is_marked seen k) is)
                | inr u ↦ or_left (among k more) (is_marked (set seen d true) k) u
              ]
          | inr t ↦ or_right (among k more) (is_marked (set seen d true) k) (set_marked seen d k low ∙ or_right (eqb k d) (is_marked seen k) t)
        ]

pub reach_all : (needs : List (List ℕ)) (cleared : List Bool) (start : ℕ) (more : List ℕ) (seen : List Bool) (waiting : List ℕ) → Reach needs cleared start more seen waiting
    → Reach needs cleared start [] (all_seen seen more) (all_waiting waiting seen more)
reach_all needs cleared start [] seen waiting r = r
reach_all needs cleared start (d ∷ more) seen waiting r =
    reach_all needs cleared start more (seen_with seen d) (waiting_with waiting seen d) (reach_one needs cleared start d more seen waiting (is_marked seen d) refl r)

-- ---- the start
pub reach_start : (needs : List (List ℕ)) (cleared : List Bool) (start : ℕ) → All (AllBelow (length needs)) needs → length cleared ≡ length needs → start < length needs
    → Reach needs cleared start [] (all_seen cleared (needs_of needs start)) (all_waiting [] cleared (needs_of needs start))
reach_start needs cleared start all count lt =
    reach_all needs cleared start (needs_of needs start) cleared []
    (record {
      sized = count;
      sound = λ d e. inr e;
      marked = λ x e. absurd (false≢true e);
      waits = λ x e. absurd (false≢true e);
      closed = λ x d there uncleared idle need.
          elim (or_cases (eqb x start) (is_marked cleared x) there) [
            | inl t ↦ or_left (among d (needs_of needs start)) (is_marked cleared d) (subst (λ q. among d (needs_of needs q) ≡ true) (eqb-true x start t) need)
            | inr t ↦ absurd (false≢true (sym uncleared ∙ t))
          ];
      due = λ d e. direct start d e;
      within = All-get_or (AllBelow (length needs)) needs start [] lt all;
    })

-- ---- a turn
pub reach_turn : (needs : List (List ℕ)) (cleared : List Bool) (start : ℕ) (seen : List Bool) (waiting : List ℕ) (seen' : List Bool) (waiting' : List ℕ) → All (AllBelow (length needs)) needs
    → Reach needs cleared start [] seen waiting → IsTurn needs seen waiting seen' waiting' → Reach needs cleared start [] seen' waiting'
reach_turn needs cleared start seen waiting seen' waiting' all r t =
    subst (λ s. Reach needs cleared start [] s waiting') (sym t.marks)
    (subst (λ w. Reach needs cleared start [] (all_seen seen (needs_of needs t.element)) w) (sym t.waits)
    (reach_all needs cleared start (needs_of needs t.element) seen t.rest taken))
  where
    split_among : (x : ℕ) → among x waiting ≡ (among x t.rest || eqb x t.element)
    split_among x = ap (among x) t.split ∙ among-push t.rest t.element x

    here : among t.element waiting ≡ true
    here = split_among t.element ∙ or_right (among t.element t.rest) (eqb t.element t.element) (eq-eqb t.element t.element refl)

    low : t.element < length needs
    low = let lt = marked_below seen t.element (r.marked t.element here) in let is = r.sized in omega arith

    rest_among : (x : ℕ) → among x t.rest ≡ true → among x waiting ≡ true
    rest_among x e = split_among x ∙ or_left (among x t.rest) (eqb x t.element) e

    taken : Reach needs cleared start (needs_of needs t.element) seen t.rest
    taken = record {
      sized = r.sized;
      sound = r.sound;
      marked = λ x e. r.marked x (rest_among x e);
      waits = λ x e. r.waits x (rest_among x e);
      closed = λ x d there uncleared idle need.
          elim (cases_eq x t.element) [
            | inl is ↦ or_left (among d (needs_of needs t.element)) (is_marked seen d) (subst (λ q. among d (needs_of needs q) ≡ true) is need)
            | inr ne ↦
                or_right (among d (needs_of needs t.element)) (is_marked seen d)
                (r.closed x d there uncleared (split_among x ∙ ap (λ b. among x t.rest || b) (ne_eqb x t.element ne) ∙ or_false (among x t.rest) ∙ idle) need)
          ];
      due = λ d e. follows needs start t.element d (r.waits t.element here) e;
      within = All-get_or (AllBelow (length needs)) needs t.element [] low all;
    }

-- the measure of a turn
unseen-set : (seen : List Bool) (d : ℕ) → d < length seen → is_marked seen d ≡ false → unseen seen ≡ unseen (set seen d true) + 1
unfolding unseen
unseen-set [] d lt e = absurd (omega arith)
unseen-set (b ∷ bs) zero lt e = by_test b e
  where
    by_test : (b : Bool) → b ≡ false → (if b then 0 else 1) + unseen bs ≡ ((if true then 0 else 1) + unseen bs) + 1
    by_test true e = absurd (false≢true (sym e))
    by_test false e = omega arith
unseen-set (b ∷ bs) (suc d) lt e = let more = unseen-set bs d (omega arith) e in omega arith

measure_one : (seen : List Bool) (waiting : List ℕ) (d : ℕ) → d < length seen → unseen (seen_with seen d) + length (waiting_with waiting seen d) ≡ unseen seen + length waiting
measure_one seen waiting d lt = by_test (is_marked seen d) refl
  where
    by_test : (b : Bool) → is_marked seen d ≡ b → unseen (if b then seen else set seen d true) + length (if b then waiting else waiting ++ d ∷ []) ≡ unseen seen + length waiting
    by_test true e = refl
    by_test false e = let less = unseen-set seen d lt e in let more = length_push waiting d in omega arith

pub measure_all : (seen : List Bool) (waiting ds : List ℕ) → AllBelow (length seen) ds → unseen (all_seen seen ds) + length (all_waiting waiting seen ds) ≡ unseen seen + length waiting
measure_all seen waiting [] h = refl
measure_all seen waiting (d ∷ ds) h =
    measure_all (seen_with seen d) (waiting_with waiting seen d) ds (subst (λ n. AllBelow n ds) (sym (length-seen_with seen d)) (All-tail (λ k. k < length seen) d ds h))
    ∙ measure_one seen waiting d (All-head (λ k. k < length seen) d ds h)

pub turn_smaller : (needs : List (List ℕ)) (seen : List Bool) (waiting : List ℕ) (seen' : List Bool) (waiting' : List ℕ) → AllBelow (length seen) waiting → length seen ≡ length needs → All (AllBelow (length needs)) needs
    → IsTurn needs seen waiting seen' waiting' → unseen seen' + length waiting' < unseen seen + length waiting
turn_smaller needs seen waiting seen' waiting' low count all t =
    let within = subst (λ n. AllBelow n (needs_of needs t.element)) (sym count) (All-get_or (AllBelow (length needs)) needs t.element [] element_low all) in
    let same = measure_all seen t.rest (needs_of needs t.element) within in
    let marks = ap unseen t.marks in
    let waits = ap length t.waits in
    let split = ap length t.split ∙ length_push t.rest t.element in
    omega arith
  where
    element_low : t.element < length needs
    element_low =
        let there : among t.element waiting ≡ true = ap (among t.element) t.split ∙ among-push t.rest t.element t.element ∙ or_right (among t.element t.rest) (eqb t.element t.element) (eq-eqb t.element t.element refl) in
        let lt = below_among (length seen) t.element waiting low there in
        omega arith

-- what waits are elements
pub waiting_below : (needs : List (List ℕ)) (cleared : List Bool) (start : ℕ) (seen : List Bool) (waiting : List ℕ) → Reach needs cleared start [] seen waiting → AllBelow (length needs) waiting
waiting_below needs cleared start seen waiting r =
    All-from_get_or (λ k. k < length needs) waiting 0 (λ i lt. let low = marked_below seen (get_or waiting i 0) (r.marked (get_or waiting i 0) (among_at waiting i lt)) in let is = r.sized in omega arith)

-- ---- the end
joins : (needs : List (List ℕ)) (i j k : ℕ) → Depends needs i j → Depends needs j k → Depends needs i k
joins needs _ _ k (direct i j h) d = through i j k h d
joins needs _ _ k (through i m j h e) d = through i m k h (joins needs m j k e d)

-- how an element comes from the start
abbrev ComesFrom : List (List ℕ) → ℕ → ℕ → Type 0
ComesFrom needs start i = (i ≡ start) ⊎ Depends needs start i

from_one : (needs : List (List ℕ)) (start i j : ℕ) → ComesFrom needs start i → among j (needs_of needs i) ≡ true → Depends needs start j
from_one needs start i j c h = elim c [ inl e ↦ direct start j (subst (λ q. among j (needs_of needs q) ≡ true) e h) | inr d ↦ follows needs start i j d h ]

walked : (needs : List (List ℕ)) (cleared : List Bool) (start : ℕ) (seen : List Bool) (i k : ℕ) → AreClear needs cleared → Reach needs cleared start [] seen [] → Depends needs i k → k ≡ start
    → is_reached start seen i ≡ true → is_marked cleared i ≡ false → ComesFrom needs start i → is_marked seen k ≡ true
walked needs cleared start seen _ _ clear r (direct i k h) is there uncleared comes = r.closed i k there uncleared refl h
walked needs cleared start seen _ _ clear r (through i j k h d) is there uncleared comes =
    let next = r.closed i j there uncleared refl h in
    walked needs cleared start seen j k clear r d is (or_right (eqb j start) (is_marked seen j) next)
    (elim (cases_Bool (is_marked cleared j)) [
      | inl t ↦ absurd (clear.each j t (joins needs j start j (subst (λ q. Depends needs j q) is d) (from_one needs start i j comes h)))
      | inr f ↦ f
    ])
    (inr (from_one needs start i j comes h))

pub reach_end : (needs : List (List ℕ)) (cleared : List Bool) (start : ℕ) (seen : List Bool) → AreClear needs cleared → is_marked cleared start ≡ false → Reach needs cleared start [] seen []
    → IsTrue (is_marked seen start) ↔ Depends needs start start
reach_end needs cleared start seen clear uncleared r = (
  λ e. elim (r.sound start e) [ inl d ↦ d | inr c ↦ absurd (false≢true (sym uncleared ∙ c)) ],
  λ d. walked needs cleared start seen start start clear r d refl (or_left (eqb start start) (is_marked seen start) (eq-eqb start start refl)) uncleared (inl refl),
)

-- ---- what is cleared at the start
pub with_marks_is : (marks : List Bool) (xs : List ℕ) (k : ℕ) → is_marked (with_marks marks xs) k ≡ true → (is_marked marks k ≡ true) ⊎ (among k xs ≡ true)
with_marks_is marks [] k e = inl e
with_marks_is marks (x ∷ xs) k e =
    elim (with_marks_is (set marks x true) xs k e) [
      | inl t ↦
          elim (cases_lt x (length marks)) [
            | inl lt ↦
                elim (or_cases (eqb k x) (is_marked marks k) (sym (set_marked marks x k lt) ∙ t)) [
                  | inl is ↦ inr (or_left (eqb k x) (among k xs) is)
                  | inr u ↦ inl u
                ]
            | inr ge ↦ elim (cases_eq k x) [ inl is ↦ inr (or_left (eqb k x) (among k xs) (eq-eqb k x is)) | inr ne ↦ inl (sym (get_or-set_other marks x k true false ne) ∙ t) ]
          ]
      | inr t ↦ inr (or_right (eqb k x) (among k xs) t)
    ]

-- what depends on itself also does where needs are read the other way round
back_one : (needs feeds : List (List ℕ)) (i k : ℕ) → IsFeeds needs feeds → All (AllBelow (length needs)) needs → among k (needs_of needs i) ≡ true → among i (needs_of feeds k) ≡ true
back_one needs feeds i k f all h =
    elim (cases_lt i (length needs)) [
      | inl low ↦
          let high = below_among (length needs) k (needs_of needs i) (All-get_or (AllBelow (length needs)) needs i [] low all) h in
          among_from_times i (needs_of feeds k) (subst (λ n. 0 < n) (sym (f.each i k low high)) (times-from_among k (needs_of needs i) h))
      | inr ge ↦ absurd (false≢true (ap (among k) (sym (get_or_past needs i [] ge)) ∙ h))
    ]

back : (needs feeds : List (List ℕ)) (i k : ℕ) → IsFeeds needs feeds → All (AllBelow (length needs)) needs → Depends needs i k → Depends feeds k i
back needs feeds _ _ f all (direct i k h) = direct k i (back_one needs feeds i k f all h)
back needs feeds _ _ f all (through i j k h d) = follows feeds k j i (back needs feeds j k f all d) (back_one needs feeds i j f all h)

pub feeds_below : (needs feeds : List (List ℕ)) → IsFeeds needs feeds → All (AllBelow (length feeds)) feeds
feeds_below needs feeds f = All-from_get_or (AllBelow (length feeds)) feeds [] (λ i lt. subst (λ n. AllBelow n (get_or feeds i [])) (sym f.many) (f.inside i))

pub placed_below : (needs : List (List ℕ)) (placed : List ℕ) → All (AllBelow (length needs)) needs → placed ≡ ordered needs → AllBelow (length needs) placed
placed_below needs placed all e =
    All-from_get_or (λ k. k < length needs) placed 0 (λ i lt. (order_holds needs all).sorted.below (get_or placed i 0) (subst (λ xs. among (get_or placed i 0) xs ≡ true) e (among_at placed i lt)))

pub clear_by_order : (needs feeds : List (List ℕ)) (none marks cleared : List Bool) (placed back_placed : List ℕ) → All (AllBelow (length needs)) needs → IsFeeds needs feeds → none ≡ replicate (length needs) false
    → placed ≡ ordered needs → back_placed ≡ ordered feeds → marks ≡ with_marks none placed → cleared ≡ with_marks marks back_placed → length cleared ≡ length needs → AreClear needs cleared
clear_by_order needs feeds none marks cleared placed back_placed all f empty ordered_is back_is one two count = record {
  sized = count;
  each = λ x e.
      elim (with_marks_is marks back_placed x (sym (ap (λ m. is_marked m x) two) ∙ e)) [
        | inl t ↦
            elim (with_marks_is none placed x (sym (ap (λ m. is_marked m x) one) ∙ t)) [
              | inl u ↦ absurd (false≢true (sym (unmarked x) ∙ u))
              | inr u ↦ placed_is_clear needs (ordered needs) x (order_holds needs all).sorted (sym (ap (among x) ordered_is) ∙ u)
            ]
        | inr t ↦ λ d. placed_is_clear feeds (ordered feeds) x (order_holds feeds (feeds_below needs feeds f)).sorted (sym (ap (among x) back_is) ∙ t) (back needs feeds x x f all d)
      ];
}
  where
    unmarked : (x : ℕ) → is_marked none x ≡ false
    unmarked x =
        ap (λ m. is_marked m x) empty
        ∙ elim (cases_lt x (length needs)) [
          | inl lt ↦ get_or-replicate (length needs) x false false lt
          | inr ge ↦ get_or_past (replicate (length needs) false) x false (subst (λ n. n ≤ x) (sym (length-replicate (length needs) false)) ge)
        ]

-- ---- the first one
pub clear_more : (needs : List (List ℕ)) (cleared : List Bool) (x : ℕ) → x < length needs → AreClear needs cleared → (Depends needs x x → ⊥) → AreClear needs (set cleared x true)
clear_more needs cleared x lt c not_itself = record {
  sized = length-set cleared x true ∙ c.sized;
  each = λ k e.
      elim (or_cases (eqb k x) (is_marked cleared k) (sym (set_marked cleared x k (let is = c.sized in omega arith)) ∙ e)) [
        | inl is ↦ subst (λ q. Depends needs q q → ⊥) (sym (eqb-true k x is)) not_itself
        | inr t ↦ c.each k t
      ];
}

-- one element more that does not depend on itself, or stands no earlier
pub tells_other : (needs : List (List ℕ)) (places : List ℕ) (n : ℕ) (first : Option ℕ) → (Depends needs n n → IsSomeAnd first (λ at. at ≤ get_or places n 0)) → TellsFirst needs places n first → TellsFirst needs places (n + 1) first
tells_other needs places n None later t = λ other lt d. elim (cases_eq other n) [ inl is ↦ later (subst (λ q. Depends needs q q) is d) | inr ne ↦ t other (omega (arith, ne)) d ]
tells_other needs places n (Some at) later t = record {
  element = t.element;
  low = (let lt = t.low in omega arith);
  itself = t.itself;
  stands = t.stands;
  first = λ other lt d.
      elim (cases_eq other n) [
        | inl is ↦ subst (λ q. at ≤ get_or places q 0) (sym is) (later (subst (λ q. Depends needs q q) is d))
        | inr ne ↦ t.first other (omega (arith, ne)) d
      ];
}

-- one that does, and stands before
pub tells_here : (needs : List (List ℕ)) (places : List ℕ) (n : ℕ) (first : Option ℕ) → Depends needs n n → (IsSomeAnd first (λ at. at ≤ get_or places n 0) → ⊥) → TellsFirst needs places n first → IsFirstOnCycle needs places (n + 1) (get_or places n 0)
tells_here needs places n None itself before t = record {
  element = n;
  low = omega arith;
  itself = itself;
  stands = refl;
  first = λ other lt d. elim (cases_eq other n) [ inl is ↦ (let e : get_or places other 0 ≡ get_or places n 0 = ap (λ q. get_or places q 0) is in omega arith) | inr ne ↦ absurd (t other (omega (arith, ne)) d) ];
}
tells_here needs places n (Some at) itself before t = record {
  element = n;
  low = omega arith;
  itself = itself;
  stands = refl;
  first = λ other lt d.
      elim (cases_eq other n) [
        | inl is ↦ (let e : get_or places other 0 ≡ get_or places n 0 = ap (λ q. get_or places q 0) is in omega arith)
        | inr ne ↦
            let more = t.first other (omega (arith, ne)) d in
            elim (cases_lt (get_or places n 0) at) [ inl low ↦ omega arith | inr ge ↦ absurd (before ge) ]
      ];
}
