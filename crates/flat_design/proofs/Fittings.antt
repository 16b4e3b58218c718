-- Parts that fit their channels in the plans fit them in the flat list.
use Rattle.std.proofs.Common.{◌≡◌, ℕ, zero, suc, ◌+◌, ◌<◌, ◌≤◌, true, List, [], ◌∷◌, ◌++◌, length, map, get_or, refl, ap, sym, ◌∙◌, subst, arith}
use Rattle.std.proofs.lemmas.List.{append_assoc, append-nil, length-append, length-map, map-append, get_or_append_left, get_or-append-add, get_or-map}
use Rattle.std.proofs.lemmas.List.Elements.{All-head, All-tail, All-weaker}
use Rattle.flat_design.specs.declared.plan.Plan.{Plan}
use Rattle.flat_design.specs.declared.plan.Step.{Step}
use Rattle.flat_design.specs.declared.plan.Step.TheVariants as S
use Rattle.flat_design.specs.declared.element.Element.{Element}
use Rattle.flat_design.specs.declared.element.Flat.{Flat}
use Rattle.flat_design.specs.Laying.{chosen, count_up, count_from, Lays, outs_of, stepped, steps_laid, laid}
use Rattle.flat_design.specs.FlatLaws.{makes, Below, AreSteps, IsPlan, ArePlans, AreNumbered}
use Rattle.flat_design.specs.FlatLaws.AreSteps.{none, more}
use Rattle.flat_design.specs.Fitting.{Known, width_of, nothing, at_places, Test, AreFitting, IsFittingPlan, AreFittingPlans, AllFit, EachFits}
use Rattle.flat_design.specs.Fitting.AreFitting.{done, element, «instance»}
use Rattle.flat_design.proofs.Laid.{laid_some}
use Rattle.flat_design.proofs.Totals.{below-chosen, length-chosen, length-count_up, below-count_up, numbered-count}
use Rattle.flat_design.proofs.Balances.{InnerLaw, one_step, number_step, steps_done, fewer, level_law}

-- ---- what is known at places
at-front : (known later : List Known) (places : List ℕ) → Below (length known) places → at_places (known ++ later) places ≡ at_places known places
at-front known later [] h = refl
at-front known later (p ∷ ps) h =
    ap (λ q. q ∷ at_places (known ++ later) ps) (get_or_append_left known later nothing p (All-head (λ q. q < length known) p ps h))
    ∙ ap (λ r. get_or known p nothing ∷ r) (at-front known later ps (All-tail (λ q. q < length known) p ps h))

at-chosen : (known : List Known) (made places : List ℕ) → Below (length made) places → at_places known (chosen made places) ≡ at_places (at_places known made) places
at-chosen known made [] h = refl
at-chosen known made (p ∷ ps) h =
    ap (λ q. q ∷ at_places known (chosen made ps)) (sym (get_or-map (λ place. get_or known place nothing) made p 0 nothing (All-head (λ q. q < length made) p ps h)))
    ∙ ap (λ r. get_or (at_places known made) p nothing ∷ r) (at-chosen known made ps (All-tail (λ q. q < length made) p ps h))

at-append : (known : List Known) (xs ys : List ℕ) → at_places known (xs ++ ys) ≡ at_places known xs ++ at_places known ys
at-append known [] ys = refl
at-append known (x ∷ xs) ys = ap (λ r. get_or known x nothing ∷ r) (at-append known xs ys)

at-last : (known made : List Known) → at_places (known ++ made) (count_up (length known) (length made)) ≡ made
at-last known [] = refl
at-last known (x ∷ made) =
    let z : length known ≡ length known + 0 = omega arith in
    let here : get_or (known ++ x ∷ made) (length known) nothing ≡ x = ap (λ n. get_or (known ++ x ∷ made) n nothing) z ∙ get_or-append-add known (x ∷ made) 0 nothing in
    let one : length known + 1 ≡ length (known ++ x ∷ []) = sym (length-append known (x ∷ [])) in
    ap (λ q. q ∷ at_places (known ++ x ∷ made) (count_up (length known + 1) (length made))) here
    ∙ ap (λ r. x ∷ r)
    (
    ap (λ n. at_places (known ++ x ∷ made) (count_up n (length made))) one
    ∙ ap (λ k. at_places k (count_up (length (known ++ x ∷ [])) (length made))) (sym (append_assoc known (x ∷ []) made))
    ∙ at-last (known ++ x ∷ []) made
    )

-- ---- elements fit also where more channels follow
fit-more : (test : Test) (known later : List Known) (n m : ℕ) (es : List Element) → AreNumbered n es m → length known ≡ m → AllFit test known es → AllFit test (known ++ later) es
fit-more test known later n m [] numbered k f = tt
fit-more test known later n m (e ∷ es) numbered k f =
    let count = numbered-count (n + length e.sinks) m es numbered.2 in
    let sources : Below (length known) e.sources = All-weaker (λ q. q < n) (λ q. q < length known) (λ q lt. (let a = count in omega (arith, k))) e.sources numbered.1 in
    let sinks : Below (length known) e.sinks = subst (λ s. Below (length known) s) (sym numbered.0) (below-count_up n (length e.sinks) (length known) (omega (arith, k))) in (
      ap (λ s. test e.part s (at_places (known ++ later) e.sinks)) (at-front known later e.sources sources) ∙ ap (test e.part (at_places known e.sources)) (at-front known later e.sinks sinks) ∙ f.0,
      fit-more test known later (n + length e.sinks) m es numbered.2 k f.1,
    )

fit-append : (test : Test) (known : List Known) (es fs : List Element) → AllFit test known es → AllFit test known fs → AllFit test known (es ++ fs)
fit-append test known [] fs a b = b
fit-append test known (e ∷ es) fs a b = (a.0, fit-append test known es fs a.1 b)

-- ---- what is known of a flat list so far
pub record IsKnown (test : Test) (servers : ℕ) (known : List Known) (flat : Flat) : Type 0 where
  pub widths : map width_of known ≡ flat.widths
  pub numbered : AreNumbered servers flat.elements (length flat.widths)
  pub fit : AllFit test known flat.elements

known_count : (test : Test) (servers : ℕ) (known : List Known) (flat : Flat) → IsKnown test servers known flat → length known ≡ length flat.widths
known_count test servers known flat k = sym (length-map known width_of) ∙ ap length k.widths

-- what is known after more is laid out
pub record GrowsKnown (test : Test) (servers : ℕ) (known : List Known) (outs : List ℕ) (handed : List Known) (after : Flat) : Type 0 where
  pub new : List Known
  pub all : IsKnown test servers (known ++ new) after
  pub at_outs : at_places (known ++ new) outs ≡ handed

-- What is known of bodies before number k.
pub record InnerFits (test : Test) (given outs : ℕ → List Known) (takes : ℕ → ℕ) (inner : Lays) (k : ℕ) : Type 0 where
  pub fits : (servers body : ℕ) (places : List ℕ) (known : List Known) (flat : Flat) → body < k → length places ≡ takes body → Below (length flat.widths) places → IsKnown test servers known flat → at_places known places ≡ given body
      → GrowsKnown test servers known (inner body places flat).0 (outs body) (inner body places flat).1

-- first some channels more, then others
two_grow : (test : Test) (servers : ℕ) (known new : List Known) (outs : List ℕ) (handed : List Known) (after : Flat) → GrowsKnown test servers (known ++ new) outs handed after → GrowsKnown test servers known outs handed after
two_grow test servers known new outs handed after g = record {
  new = new ++ g.new;
  all = subst (λ xs. IsKnown test servers xs after) (append_assoc known new g.new) g.all;
  at_outs = ap (λ xs. at_places xs outs) (sym (append_assoc known new g.new)) ∙ g.at_outs;
}

-- ---- a step: what is known of the body's channels, and of the flat list's
-- after a step the body's channels and the flat list are known
record StepKnown (test : Test) (servers : ℕ) (known : List Known) (made : List ℕ) (local : List Known) (after : Flat) : Type 0 where
  pub new : List Known
  pub all : IsKnown test servers (known ++ new) after
  pub at_made : at_places (known ++ new) made ≡ local

element_fits : (test : Test) (servers part : ℕ) (sources widths made : List ℕ) (local new known : List Known) (flat : Flat) (inner : Lays) → map width_of new ≡ widths → test part (at_places local sources) new ≡ true
    → Below (length made) sources → Below (length flat.widths) made → IsKnown test servers known flat → at_places known made ≡ local
    → AreNumbered servers (stepped inner (S.Element part sources widths) made flat).1.elements (length (stepped inner (S.Element part sources widths) made flat).1.widths)
    → StepKnown test servers known (stepped inner (S.Element part sources widths) made flat).0 (local ++ new) (stepped inner (S.Element part sources widths) made flat).1
element_fits test servers part sources widths made local new known flat inner same t within low is at numbered =
    let count = known_count test servers known flat is in
    let many : length new ≡ length widths = sym (length-map new width_of) ∙ ap length same in
    let sinks = count_from (length flat.widths) widths in
    let low_known : Below (length known) made = subst (λ n. Below n made) (sym count) low in
    let taken : at_places (known ++ new) (chosen made sources) ≡ at_places local sources
    = at-front known new (chosen made sources) (below-chosen (length known) made sources low_known within) ∙ at-chosen known made sources within ∙ ap (λ k. at_places k sources) at in
    let given : at_places (known ++ new) sinks ≡ new = ap (λ n. at_places (known ++ new) (count_up n (length widths))) (sym count) ∙ ap (λ n. at_places (known ++ new) (count_up (length known) n)) (sym many) ∙ at-last known new in
    record {
      new = new;
      all = record {
        widths = map-append width_of known new ∙ ap (λ xs. xs ++ map width_of new) is.widths ∙ ap (λ xs. flat.widths ++ xs) same;
        numbered = numbered;
        fit = fit-append test (known ++ new) flat.elements (record { part = part; sources = chosen made sources; sinks = sinks } ∷ []) (fit-more test known new servers (length flat.widths) flat.elements is.numbered count is.fit)
            (ap (λ x. test part x (at_places (known ++ new) sinks)) taken ∙ ap (test part (at_places local sources)) given ∙ t, tt);
      };
      at_made = at-append (known ++ new) made sinks ∙ ap (λ xs. xs ++ at_places (known ++ new) sinks) (at-front known new made low_known ∙ at) ∙ ap (λ xs. local ++ xs) given;
    }

instance_fits : (test : Test) (given outs : ℕ → List Known) (takes : ℕ → ℕ) (inner : Lays) (k servers body : ℕ) (sources made : List ℕ) (local known : List Known) (flat : Flat) → InnerFits test given outs takes inner k
    → (body < k) × (length sources ≡ takes body) → at_places local sources ≡ given body → Below (length made) sources → Below (length flat.widths) made → IsKnown test servers known flat → at_places known made ≡ local
    → StepKnown test servers known (stepped inner (S.Instance body sources) made flat).0 (local ++ outs body) (stepped inner (S.Instance body sources) made flat).1
instance_fits test given outs takes inner k servers body sources made local known flat fit fits gives within low is at =
    let count = known_count test servers known flat is in
    let low_known : Below (length known) made = subst (λ n. Below n made) (sym count) low in
    let inside = fit.fits servers body (chosen made sources) known flat fits.0 (length-chosen made sources ∙ fits.1) (below-chosen (length flat.widths) made sources low within) is
    (at-chosen known made sources within ∙ ap (λ k. at_places k sources) at ∙ gives) in
    record {
      new = inside.new;
      all = inside.all;
      at_made = at-append (known ++ inside.new) made (inner body (chosen made sources) flat).0
          ∙ ap (λ xs. xs ++ at_places (known ++ inside.new) (inner body (chosen made sources) flat).0) (at-front known inside.new made low_known ∙ at) ∙ ap (λ xs. local ++ xs) inside.at_outs;
    }

-- ---- steps
steps_fit : (test : Test) (given outs : ℕ → List Known) (plans : List Plan) (takes : ℕ → ℕ) (inner : Lays) (k servers n m : ℕ) (steps : List Step) (local all : List Known) (made : List ℕ) (known : List Known) (flat : Flat)
    → InnerLaw plans takes inner k → InnerFits test given outs takes inner k → AreSteps plans takes k n steps m → AreFitting test given outs local steps all → length made ≡ n → Below (length flat.widths) made
    → IsKnown test servers known flat → at_places known made ≡ local → GrowsKnown test servers known (steps_laid inner steps made flat).0 all (steps_laid inner steps made flat).1
steps_fit test given outs plans takes inner k servers _ _ _ _ _ made known flat law fit (none n) (done local) count low is at =
    record { new = []; all = subst (λ xs. IsKnown test servers xs flat) (sym (append-nil known)) is; at_outs = ap (λ xs. at_places xs made) (append-nil known) ∙ at }
steps_fit test given outs plans takes inner k servers _ _ _ _ _ made known flat law fit (more n m _ _ below fits rest) (element local new all part sources widths steps same t later) count low is at =
    let step = S.Element part sources widths in
    let within : Below (length made) sources = subst (λ q. Below q sources) (sym count) below in
    let after = stepped inner step made flat in
    let one = one_step plans takes inner k step made flat law fits in
    let longer : length after.0 ≡ n + makes plans step = ap length one.split ∙ length-append made one.new ∙ (let c = one.count in omega arith) in
    let numbers = number_step plans takes inner k servers step made flat law fits within low is.numbered in
    let first = element_fits test servers part sources widths made local new known flat inner same t within low is at numbers.numbered in
    two_grow test servers known first.new (steps_laid inner steps after.0 after.1).0 all (steps_laid inner steps after.0 after.1).1
    (steps_fit test given outs plans takes inner k servers (n + makes plans step) m steps (local ++ new) all after.0 (known ++ first.new) after.1 law fit rest later longer numbers.handed first.all first.at_made)
steps_fit test given outs plans takes inner k servers _ _ _ _ _ made known flat law fit (more n m _ _ below fits rest) («instance» local all body sources steps gives later) count low is at =
    let step = S.Instance body sources in
    let within : Below (length made) sources = subst (λ q. Below q sources) (sym count) below in
    let after = stepped inner step made flat in
    let one = one_step plans takes inner k step made flat law fits in
    let longer : length after.0 ≡ n + makes plans step = ap length one.split ∙ length-append made one.new ∙ (let c = one.count in omega arith) in
    let numbers = number_step plans takes inner k servers step made flat law fits within low is.numbered in
    let first = instance_fits test given outs takes inner k servers body sources made local known flat fit fits gives within low is at in
    two_grow test servers known first.new (steps_laid inner steps after.0 after.1).0 all (steps_laid inner steps after.0 after.1).1
    (steps_fit test given outs plans takes inner k servers (n + makes plans step) m steps (local ++ outs body) all after.0 (known ++ first.new) after.1 law fit rest later longer numbers.handed first.all first.at_made)

-- ---- a plan, and levels
plan_fits : (test : Test) (given outs : ℕ → List Known) (plans : List Plan) (takes : ℕ → ℕ) (inner : Lays) (k servers : ℕ) (plan : Plan) (places : List ℕ) (known : List Known) (flat : Flat)
    → InnerLaw plans takes inner k → InnerFits test given outs takes inner k → IsPlan plans takes k plan → IsFittingPlan test given outs k plan → length places ≡ takes k → Below (length flat.widths) places
    → IsKnown test servers known flat → at_places known places ≡ given k
    → GrowsKnown test servers known (outs_of plan.outs (steps_laid inner plan.steps places flat)).0 (outs k) (outs_of plan.outs (steps_laid inner plan.steps places flat)).1
plan_fits test given outs plans takes inner k servers plan places known flat law fit p f count low is at =
    let steps = steps_fit test given outs plans takes inner k servers (takes k) p.channels plan.steps (given k) f.known places known flat law fit p.steps f.steps count low is at in
    let last = steps_laid inner plan.steps places flat in
    let many = (steps_done plans takes inner k (takes k) p.channels plan.steps places flat law p.steps count).count in
    record {
      new = steps.new;
      all = steps.all;
      at_outs = at-chosen (known ++ steps.new) last.0 plan.outs (subst (λ n. Below n plan.outs) (sym many) p.outs) ∙ ap (λ k. at_places k plan.outs) steps.at_outs ∙ f.handed;
    }

fewer_fit : (test : Test) (given outs : ℕ → List Known) (takes : ℕ → ℕ) (inner : Lays) (k body : ℕ) → body ≤ k → InnerFits test given outs takes inner k → InnerFits test given outs takes inner body
fewer_fit test given outs takes inner k body le fit = record { fits = λ servers b places known flat lt count low is at. fit.fits servers b places known flat (omega arith) count low is at }

level_fits : (test : Test) (given outs : ℕ → List Known) (plans : List Plan) (takes : ℕ → ℕ) → ArePlans plans takes → AreFittingPlans test given outs plans → (levels : ℕ) → levels ≤ length plans → InnerFits test given outs takes (laid plans levels) levels
level_fits test given outs plans takes good fitting zero le = record { fits = λ servers body places known flat lt count low is at. absurd (omega arith) }
level_fits test given outs plans takes good fitting (suc levels) le = record {
  fits = λ servers body places known flat lt count low is at.
      let there = good.each body (omega arith) in
      let laid_is = laid_some plans (suc levels) levels body places flat there.0 refl there.1 in
      let law = fewer plans takes (laid plans levels) levels body (omega arith) (level_law plans takes good levels (omega arith)) in
      let fit = fewer_fit test given outs takes (laid plans levels) levels body (omega arith) (level_fits test given outs plans takes good fitting levels (omega arith)) in
      subst (λ r. GrowsKnown test servers known r.0 (outs body) r.1) (sym laid_is)
      (plan_fits test given outs plans takes (laid plans levels) body servers there.0 places known flat law fit there.2 (fitting body there.0 there.1) count low is at);
}

pub each_fits : EachFits
each_fits test given outs plans takes good fitting counts top lt =
    let widths = map width_of (given top) in
    let many : length widths ≡ length (given top) = length-map (given top) width_of in
    let places = count_from 0 widths in
    let empty : Flat = record { elements = []; widths = widths } in
    let begin : IsKnown test (length widths) (given top) empty = record { widths = refl; numbered = refl; fit = tt } in
    let at : at_places (given top) places ≡ given top = ap (λ n. at_places (given top) (count_up 0 n)) many ∙ at-last [] (given top) in
    let all = (level_fits test given outs plans takes good fitting (length plans) (omega arith)).fits (length widths) top places (given top) empty lt (length-count_up 0 (length widths) ∙ many ∙ counts top)
    (below-count_up 0 (length widths) (length widths) (omega arith)) begin at in
    record { known = given top ++ all.new; made = all.new; begins = refl; widths = all.all.widths; fit = all.all.fit; handed = all.at_outs }
