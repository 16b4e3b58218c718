-- Where no element depends on itself, the element order has each element once, and its sources before it.
use Rattle.std.proofs.Common.{◌≡◌, ℕ, zero, suc, ◌+◌, ◌<◌, ◌≤◌, Bool, true, false, List, [], ◌∷◌, ◌++◌, Option, Some, map, length, take, get_or, refl, ap, sym, ◌∙◌, subst, inl, inr, arith}
use Rattle.std.specs.Prelude.{All, flat_map, slice_get, nat_lt, eqb, if◌then◌else◌}
use Rattle.std.specs.List.{IsDistinct, list_any, AllByRecursion}
use Rattle.std.proofs.lemmas.Bool.{cases_Bool, cases_lt, or_cases, or_parts, eqb-true, lt-ltb, le-ltb}
use Rattle.std.proofs.lemmas.List.{append_assoc, length-append, length-map}
use Rattle.std.proofs.lemmas.List.Elements.{All-nil, All-cons, All-append}
use Rattle.std.proofs.lemmas.Map.Keys.{IsDistinct-cons}
use Rattle.std.proofs.lemmas.Map.Steps.{length-le_from_distinct_below}
use Rattle.design_tree.specs.declared.leaves.Reference.{Reference}
use Rattle.design_tree.specs.declared.statements.Statement.{Statement}
use Rattle.design_tree.specs.declared.statements.Statement.TheVariants as S
use Rattle.element_order.specs.Orders.{AllBelow, all_among, needs_of, ordered}
use Rattle.element_order.specs.Laws.{Depends, OrderLaw, AllOrders}
use Rattle.check_rules.specs.References.{sources_of}
use Rattle.check_rules.specs.Dependencies.{is_element, elements_of, makes, makers, needs}
use Rattle.body_order.specs.Makers.{first_needs}
use Rattle.body_order.specs.Cycles.{AreOnce, EachNeeds}
use Rattle.flat_design.specs.Laying.{count_up}
use Rattle.flat_design.specs.FlatLaws.{total}
use Rattle.flat_design.specs.OnceLemmas.{once_from_places}
use Rattle.body_plans.specs.declared.ordered.OrderedElement.{OrderedElement}
use Rattle.plan_laws.specs.Once.{sum_of}
use Rattle.once_laws.specs.Accepted.{number_of}
use Rattle.once_laws.proofs.Sums.{sum_of-flat_map}

-- Each element stands once in the order, and its sources before it.
pub record IsComplete (elements : List Statement) (order : List OrderedElement) : Type 0 where
  pub distinct : IsDistinct eqb (map number_of order)
  pub all : (q : ℕ) → list_any (eqb q) (map number_of order) ≡ nat_lt q (length elements)
  pub sources : (k : ℕ) → k < length (map number_of order) → all_among (needs_of (needs elements) (get_or (map number_of order) k 0)) (take k (map number_of order)) ≡ true

-- ---- what elements need are elements
makers_low : (r : Reference) (i n : ℕ) (es : List Statement) → i + length es ≤ n → AllBelow n (makers r i es)
makers_low r i n [] low = All-nil (λ d. d < n)
makers_low r i n (e ∷ es) low = All-append (λ d. d < n) (if makes r e then i ∷ [] else []) (makers r (i + 1) es) (here (makes r e)) (makers_low r (i + 1) n es (omega arith))
  where
    here : (b : Bool) → AllBelow n (if b then i ∷ [] else [])
    here true = All-cons (λ d. d < n) i [] (omega arith) (All-nil (λ d. d < n))
    here false = All-nil (λ d. d < n)

sources_low : (es : List Statement) (rs : List Reference) → AllBelow (length es) (flat_map (λ r. makers r 0 es) rs)
sources_low es [] = All-nil (λ d. d < length es)
sources_low es (r ∷ rs) = All-append (λ d. d < length es) (makers r 0 es) (flat_map (λ r. makers r 0 es) rs) (makers_low r 0 (length es) es (omega arith)) (sources_low es rs)

each_low : (all es : List Statement) → All (AllBelow (length all)) (map (λ element. flat_map (λ r. makers r 0 all) (sources_of element)) es)
each_low all [] = All-nil (AllBelow (length all))
each_low all (e ∷ es) = All-cons (AllBelow (length all)) (flat_map (λ r. makers r 0 all) (sources_of e)) (map (λ element. flat_map (λ r. makers r 0 all) (sources_of element)) es) (sources_low all (sources_of e)) (each_low all es)

needs_count : (es : List Statement) → length (needs es) ≡ length es
needs_count es = length-map es (λ element. flat_map (λ r. makers r 0 es) (sources_of element))

needs_low : (es : List Statement) → All (AllBelow (length (needs es))) (needs es)
needs_low es = subst (λ n. All (AllBelow n) (needs es)) (sym (needs_count es)) (each_low es es)

-- ---- each element is there
any_apart : (q : ℕ) (xs : List ℕ) → list_any (eqb q) xs ≡ false → AllByRecursion (λ y. eqb q y ≡ false) xs
any_apart q [] e = tt
any_apart q (x ∷ xs) e = let parts = or_parts (eqb q x) (list_any (eqb q) xs) e in (parts.0, any_apart q xs parts.1)

there : (n : ℕ) (placed : List ℕ) (q : ℕ) → IsDistinct eqb placed → ((k : ℕ) → list_any (eqb k) placed ≡ true → k < n) → length placed ≡ n → q < n → list_any (eqb q) placed ≡ true
there n placed q distinct below many lt =
    elim (cases_Bool (list_any (eqb q) placed)) [
      | inl t ↦ t
      | inr f ↦ absurd (let most = length-le_from_distinct_below (q ∷ placed) n (IsDistinct-cons eqb q placed (any_apart q placed f) distinct) more in let longer : length (q ∷ placed) ≡ suc (length placed) = refl in omega arith)
    ]
  where
    more : (k : ℕ) → list_any (eqb k) (q ∷ placed) ≡ true → k < n
    more k e = elim (or_cases (eqb k q) (list_any (eqb k) placed) e) [ inl t ↦ let is = eqb-true k q t in omega arith | inr t ↦ below k t ]

pub some_at : {A : Type 0} (xs : List A) (k : ℕ) → k < length xs → (x : A) × (slice_get xs k ≡ Some x)
some_at [] k low = absurd (omega arith)
some_at (x ∷ xs) zero low = (x, refl)
some_at (x ∷ xs) (suc k) low = some_at xs k (omega arith)

-- an order of all elements
complete_from : (elements : List Statement) (placed : List ℕ) (order : List OrderedElement) → OrderLaw (needs elements) → placed ≡ ordered (needs elements) → length placed ≡ length elements → map number_of order ≡ placed
    → IsComplete elements order
complete_from elements placed order law is many numbers = record {
  distinct = subst (IsDistinct eqb) (sym (numbers ∙ is)) law.sorted.distinct;
  all = λ q. ap (list_any (eqb q)) numbers ∙ each q;
  sources = λ k low.
      subst (λ xs. all_among (needs_of (needs elements) (get_or xs k 0)) (take k xs) ≡ true) (sym (numbers ∙ is)) (law.sorted.sources k (subst (λ xs. k < length xs) (numbers ∙ is) low));
}
  where
    low_one : (q : ℕ) → list_any (eqb q) placed ≡ true → q < length elements
    low_one q e = let low = law.sorted.below q (ap (list_any (eqb q)) (sym is) ∙ e) in let n = needs_count elements in omega arith

    each : (q : ℕ) → list_any (eqb q) placed ≡ nat_lt q (length elements)
    each q =
        elim (cases_lt q (length elements)) [
          | inl lt ↦ there (length elements) placed q (subst (IsDistinct eqb) (sym is) law.sorted.distinct) low_one many lt ∙ sym (lt-ltb q (length elements) lt)
          | inr ge ↦ elim (cases_Bool (list_any (eqb q) placed)) [ inl t ↦ absurd (let low = low_one q t in omega arith) | inr f ↦ f ∙ sym (le-ltb q (length elements) ge) ]
        ]

pub complete_order : AllOrders → EachNeeds → (elements : List Statement) → AreOnce elements → ((number : ℕ) (e : Statement) → slice_get elements number ≡ Some e → Depends (needs elements) number number → ⊥)
    → (order : List OrderedElement) → map number_of order ≡ ordered (first_needs elements) → IsComplete elements order
complete_order orders same elements once free order numbers =
    complete_from elements (ordered (needs elements)) order law refl many (numbers ∙ ap ordered (sym (same elements once)))
  where
    law : OrderLaw (needs elements)
    law = orders (needs elements) (needs_low elements)

    many : length (ordered (needs elements)) ≡ length elements
    many =
        let n = needs_count elements in
        let most = length-le_from_distinct_below (ordered (needs elements)) (length (needs elements)) law.sorted.distinct law.sorted.below in
        elim (cases_lt (length (ordered (needs elements))) (length (needs elements))) [
          | inl lt ↦
              let cycle = law.cycle lt in
              let low = cycle.low in
              let found = some_at elements cycle.element (omega arith) in
              absurd (free cycle.element found.0 found.1 cycle.itself)
          | inr ge ↦ omega arith
        ]

-- ---- sums along the order
total_numbers : (h : ℕ → ℕ) (order : List OrderedElement) → total h (map number_of order) ≡ sum_of (λ (o : OrderedElement). h o.number) order
total_numbers h [] = refl
total_numbers h (o ∷ order) = ap (λ n. h o.number + n) (total_numbers h order)

get_mid : {A : Type 0} (xs : List A) (x : A) (ys : List A) → slice_get (xs ++ x ∷ ys) (length xs) ≡ Some x
get_mid [] x ys = refl
get_mid (y ∷ xs) x ys = get_mid xs x ys

total_elements : {A : Type 0} (g : Option A → ℕ) (front es : List A) → total (λ i. g (slice_get (front ++ es) i)) (count_up (length front) (length es)) ≡ sum_of (λ e. g (Some e)) es
total_elements g front [] = refl
total_elements {A} g front (e ∷ es) =
    let whole : (front ++ e ∷ []) ++ es ≡ front ++ e ∷ es = append_assoc front (e ∷ []) es in
    let longer : length (front ++ e ∷ []) ≡ length front + 1 = length-append front (e ∷ []) in
    let here : g (slice_get (front ++ e ∷ es) (length front)) ≡ g (Some e) = ap g (get_mid front e es) in
    let more = total_elements g (front ++ e ∷ []) es in
    let moved : total (λ i. g (slice_get (front ++ e ∷ es) i)) (count_up (length front + 1) (length es)) ≡ sum_of (λ e. g (Some e)) es
    = ap (λ n. total (λ i. g (slice_get (front ++ e ∷ es) i)) (count_up n (length es))) (sym longer) ∙ ap (λ l. total (λ i. g (slice_get l i)) (count_up (length (front ++ e ∷ [])) (length es))) (sym whole) ∙ more in
    omega arith

pub order_sum : (g : Option Statement → ℕ) (elements : List Statement) (order : List OrderedElement) → IsComplete elements order
    → sum_of (λ (o : OrderedElement). g (slice_get elements o.number)) order ≡ sum_of (λ e. g (Some e)) elements
order_sum g elements order c =
    sym (total_numbers (λ i. g (slice_get elements i)) order) ∙ once_from_places (length elements) (map number_of order) c.distinct c.all (λ i. g (slice_get elements i)) ∙ total_elements g [] elements

-- over the elements of a body, and over all its statements
pub elements_sum : (g : Statement → ℕ) → ((s : Statement) → is_element s ≡ false → g s ≡ 0) → (ss : List Statement) → sum_of g (elements_of ss) ≡ sum_of g ss
elements_sum g none [] = refl
elements_sum g none (S.Request at service port id ∷ ss) = let more = elements_sum g none ss in let zero_here = none (S.Request at service port id) refl in omega arith
elements_sum g none (S.Instance at id body bindings ∷ ss) = ap (λ n. g (S.Instance at id body bindings) + n) (elements_sum g none ss)
elements_sum g none (S.Channels at names operation ∷ ss) = ap (λ n. g (S.Channels at names operation) + n) (elements_sum g none ss)
elements_sum g none (S.Drive at sink source ∷ ss) = let more = elements_sum g none ss in let zero_here = none (S.Drive at sink source) refl in omega arith

-- of lists along the order
pub parts_sum : {A : Type 0} (f : A → ℕ) (part : Option Statement → List A) → ((s : Statement) → is_element s ≡ false → sum_of f (part (Some s)) ≡ 0) → (statements : List Statement) (order : List OrderedElement)
    → IsComplete (elements_of statements) order → sum_of f (flat_map (λ (o : OrderedElement). part (slice_get (elements_of statements) o.number)) order) ≡ sum_of f (flat_map (λ s. part (Some s)) statements)
parts_sum f part none statements order c =
    sum_of-flat_map f (λ (o : OrderedElement). part (slice_get (elements_of statements) o.number)) order
    ∙ order_sum (λ o. sum_of f (part o)) (elements_of statements) order c
    ∙ elements_sum (λ s. sum_of f (part (Some s))) none statements
    ∙ sym (sum_of-flat_map f (λ s. part (Some s)) statements)
