-- What a body is given and makes is what it uses and hands out, and the list stays numbered.
use Rattle.std.proofs.Common.{◌≡◌, ℕ, zero, suc, ◌+◌, ◌<◌, ◌≤◌, List, [], ◌∷◌, ◌++◌, length, get_or, refl, ap, sym, ◌∙◌, subst, arith}
use Rattle.std.specs.Prelude.{flat_map, slice_get}
use Rattle.std.proofs.lemmas.List.{length-append, append_assoc, append-nil}
use Rattle.std.proofs.lemmas.List.Elements.{All-append, All-weaker}
use Rattle.flat_design.specs.declared.plan.Plan.{Plan}
use Rattle.flat_design.specs.declared.plan.Step.{Step}
use Rattle.flat_design.specs.declared.plan.Step.TheVariants as S
use Rattle.flat_design.specs.declared.element.Element.{Element}
use Rattle.flat_design.specs.declared.element.Flat.{Flat}
use Rattle.flat_design.specs.Laying.{chosen, count_up, count_from, Lays, outs_of, stepped, steps_laid, laid}
use Rattle.flat_design.specs.FlatLaws.{total, sources_of, outs_count, makes, Below, IsFitting, AreSteps, IsPlan, ArePlans, sources_in, sinks_in, made_in, used_in, AreNumbered, EachLaidOut, IsBalanced, StaysNumbered}
use Rattle.flat_design.specs.FlatLaws.AreSteps.{none, more}
use Rattle.flat_design.proofs.Laid.{laid_some}
use Rattle.flat_design.proofs.Totals.{total-append, flat_map-append, total-chosen, chosen-append, chosen-front, below-chosen, length-chosen, length-count_up, below-count_up, total-whole, numbered-append, numbered-made}

-- What is known of bodies before number k, laid out after any list.
pub record InnerLaw (plans : List Plan) (takes : ℕ → ℕ) (inner : Lays) (k : ℕ) : Type 0 where
  pub balanced : (body : ℕ) (given : List ℕ) (flat : Flat) → body < k → length given ≡ takes body → IsBalanced given flat (inner body given flat).0 (inner body given flat).1
  pub count : (body : ℕ) (given : List ℕ) (flat : Flat) → body < k → length given ≡ takes body → length (inner body given flat).0 ≡ outs_count (slice_get plans body)
  pub numbered : (servers body : ℕ) (given : List ℕ) (flat : Flat) → body < k → length given ≡ takes body → Below (length flat.widths) given → AreNumbered servers flat.elements (length flat.widths)
      → StaysNumbered servers flat (inner body given flat).0 (inner body given flat).1

-- ---- a step
-- what a step leaves: more channels, and what is used and made
pub record IsStep (n : ℕ) (sources made : List ℕ) (flat : Flat) (made' : List ℕ) (flat' : Flat) : Type 0 where
  pub new : List ℕ
  pub split : made' ≡ made ++ new
  pub count : length new ≡ n
  pub same : (f : ℕ → ℕ) → total f new + total f (used_in flat') + total f (made_in flat) ≡ total f (made_in flat') + total f (used_in flat) + total f (chosen made sources)

pub one_step : (plans : List Plan) (takes : ℕ → ℕ) (inner : Lays) (k : ℕ) (step : Step) (made : List ℕ) (flat : Flat) → InnerLaw plans takes inner k → IsFitting takes k step
    → IsStep (makes plans step) (sources_of step) made flat (stepped inner step made flat).0 (stepped inner step made flat).1
one_step plans takes inner k (S.Element part sources widths) made flat law fits = record {
  new = count_from (length flat.widths) widths;
  split = refl;
  count = length-count_up (length flat.widths) (length widths);
  same = λ f.
      let one : Element = record { part = part; sources = chosen made sources; sinks = count_from (length flat.widths) widths } in
      let used = ap (total f) (flat_map-append sources_in flat.elements (one ∷ [])) ∙ total-append f (used_in flat) (one.sources ++ []) ∙ ap (λ xs. total f (used_in flat) + total f xs) (append-nil one.sources) in
      let making = ap (total f) (flat_map-append sinks_in flat.elements (one ∷ [])) ∙ total-append f (made_in flat) (one.sinks ++ []) ∙ ap (λ xs. total f (made_in flat) + total f xs) (append-nil one.sinks) in
      omega arith;
}
one_step plans takes inner k (S.Instance body sources) made flat law fits = record {
  new = (inner body (chosen made sources) flat).0;
  split = refl;
  count = law.count body (chosen made sources) flat fits.0 (length-chosen made sources ∙ fits.1);
  same = λ f. let inside = (law.balanced body (chosen made sources) flat fits.0 (length-chosen made sources ∙ fits.1)).same f in omega arith;
}

pub number_step : (plans : List Plan) (takes : ℕ → ℕ) (inner : Lays) (k servers : ℕ) (step : Step) (made : List ℕ) (flat : Flat) → InnerLaw plans takes inner k → IsFitting takes k step → Below (length made) (sources_of step)
    → Below (length flat.widths) made → AreNumbered servers flat.elements (length flat.widths) → StaysNumbered servers flat (stepped inner step made flat).0 (stepped inner step made flat).1
number_step plans takes inner k servers (S.Element part sources widths) made flat law fits low given numbered = record {
  numbered = subst (λ n. AreNumbered servers (flat.elements ++ record { part = part; sources = chosen made sources; sinks = count_from (length flat.widths) widths } ∷ []) n) (sym longer)
      (numbered-append servers (length flat.widths) (length flat.widths + length widths) flat.elements (record { part = part; sources = chosen made sources; sinks = count_from (length flat.widths) widths } ∷ []) numbered (
        ap (count_up (length flat.widths)) (sym (length-count_up (length flat.widths) (length widths))),
        below-chosen (length flat.widths) made sources given low,
        ap (λ n. length flat.widths + n) (length-count_up (length flat.widths) (length widths)),
      ));
  handed = All-append (λ q. q < length (flat.widths ++ widths)) made (count_from (length flat.widths) widths)
      (All-weaker (λ q. q < length flat.widths) (λ q. q < length (flat.widths ++ widths)) (λ q lt. (let is = longer in omega arith)) made given)
      (below-count_up (length flat.widths) (length widths) (length (flat.widths ++ widths)) (let is = longer in omega arith));
  grows = (let is = longer in omega arith);
}
  where
    longer : length (flat.widths ++ widths) ≡ length flat.widths + length widths
    longer = length-append flat.widths widths
number_step plans takes inner k servers (S.Instance body sources) made flat law fits low given numbered =
    let inside = law.numbered servers body (chosen made sources) flat fits.0 (length-chosen made sources ∙ fits.1) (below-chosen (length flat.widths) made sources given low) numbered in
    record {
      numbered = inside.numbered;
      handed = All-append (λ q. q < length (inner body (chosen made sources) flat).1.widths) made (inner body (chosen made sources) flat).0
          (All-weaker (λ q. q < length flat.widths) (λ q. q < length (inner body (chosen made sources) flat).1.widths) (λ q lt. (let more = inside.grows in omega arith)) made given) inside.handed;
      grows = inside.grows;
    }

-- ---- steps
pub record AreStepsDone (m : ℕ) (sources made : List ℕ) (flat : Flat) (made' : List ℕ) (flat' : Flat) : Type 0 where
  pub new : List ℕ
  pub split : made' ≡ made ++ new
  pub count : length made' ≡ m
  pub same : (f : ℕ → ℕ) → total f new + total f (used_in flat') + total f (made_in flat) ≡ total f (made_in flat') + total f (used_in flat) + total f (chosen made' sources)

pub steps_done : (plans : List Plan) (takes : ℕ → ℕ) (inner : Lays) (k n m : ℕ) (steps : List Step) (made : List ℕ) (flat : Flat) → InnerLaw plans takes inner k → AreSteps plans takes k n steps m → length made ≡ n
    → AreStepsDone m (flat_map sources_of steps) made flat (steps_laid inner steps made flat).0 (steps_laid inner steps made flat).1
steps_done plans takes inner k _ _ _ made flat law (none n) count = record { new = []; split = sym (append-nil made); count = count; same = λ f. omega arith }
steps_done plans takes inner k _ _ _ made flat law (more n m step steps low fits rest) count =
    let one = one_step plans takes inner k step made flat law fits in
    let after = stepped inner step made flat in
    let longer : length after.0 ≡ n + makes plans step = ap length one.split ∙ length-append made one.new ∙ (let c = one.count in omega arith) in
    let all = steps_done plans takes inner k (n + makes plans step) m steps after.0 after.1 law rest longer in
    let last = steps_laid inner steps after.0 after.1 in
    let whole : last.0 ≡ made ++ (one.new ++ all.new) = all.split ∙ ap (λ xs. xs ++ all.new) one.split ∙ append_assoc made one.new all.new in
    let within : Below (length made) (sources_of step) = subst (λ q. Below q (sources_of step)) (sym count) low in
    record {
      new = one.new ++ all.new;
      split = whole;
      count = all.count;
      same = λ f.
          let first = one.same f in
          let later = all.same f in
          let news = total-append f one.new all.new in
          let same_sources : total f (chosen last.0 (sources_of step)) ≡ total f (chosen made (sources_of step)) = ap (λ xs. total f (chosen xs (sources_of step))) whole ∙ ap (total f) (chosen-front made (one.new ++ all.new) (sources_of step) within) in
          let both = ap (total f) (chosen-append last.0 (sources_of step) (flat_map sources_of steps)) ∙ total-append f (chosen last.0 (sources_of step)) (chosen last.0 (flat_map sources_of steps)) in
          omega arith;
    }

steps_number : (plans : List Plan) (takes : ℕ → ℕ) (inner : Lays) (k servers n m : ℕ) (steps : List Step) (made : List ℕ) (flat : Flat) → InnerLaw plans takes inner k → AreSteps plans takes k n steps m → length made ≡ n
    → Below (length flat.widths) made → AreNumbered servers flat.elements (length flat.widths) → StaysNumbered servers flat (steps_laid inner steps made flat).0 (steps_laid inner steps made flat).1
steps_number plans takes inner k servers _ _ _ made flat law (none n) count given numbered = record { numbered = numbered; handed = given; grows = omega arith }
steps_number plans takes inner k servers _ _ _ made flat law (more n m step steps low fits rest) count given numbered =
    let one = one_step plans takes inner k step made flat law fits in
    let after = stepped inner step made flat in
    let longer : length after.0 ≡ n + makes plans step = ap length one.split ∙ length-append made one.new ∙ (let c = one.count in omega arith) in
    let within : Below (length made) (sources_of step) = subst (λ q. Below q (sources_of step)) (sym count) low in
    let first = number_step plans takes inner k servers step made flat law fits within given numbered in
    let all = steps_number plans takes inner k servers (n + makes plans step) m steps after.0 after.1 law rest longer first.handed first.numbered in
    record { numbered = all.numbered; handed = all.handed; grows = (let a = first.grows in let b = all.grows in omega arith) }

-- ---- a plan
plan_balanced : (plans : List Plan) (takes : ℕ → ℕ) (inner : Lays) (k : ℕ) (plan : Plan) (given : List ℕ) (flat : Flat) → InnerLaw plans takes inner k → IsPlan plans takes k plan → length given ≡ takes k
    → IsBalanced given flat (outs_of plan.outs (steps_laid inner plan.steps given flat)).0 (outs_of plan.outs (steps_laid inner plan.steps given flat)).1
plan_balanced plans takes inner k plan given flat law p count =
    let done = steps_done plans takes inner k (takes k) p.channels plan.steps given flat law p.steps count in
    let last = steps_laid inner plan.steps given flat in
    record {
      same = λ f.
          let steps = done.same f in
          let all = ap (total f) done.split ∙ total-append f given done.new in
          let once = p.once (λ place. f (get_or last.0 place 0)) in
          let uses = total-chosen f last.0 (flat_map sources_of plan.steps ++ plan.outs) in
          let both = ap (total f) (chosen-append last.0 (flat_map sources_of plan.steps) plan.outs) ∙ total-append f (chosen last.0 (flat_map sources_of plan.steps)) (chosen last.0 plan.outs) in
          let whole = ap (λ n. total (λ place. f (get_or last.0 place 0)) (count_up 0 n)) (sym done.count) ∙ total-whole f [] last.0 in
          omega arith;
    }

plan_numbered : (plans : List Plan) (takes : ℕ → ℕ) (inner : Lays) (k servers : ℕ) (plan : Plan) (given : List ℕ) (flat : Flat) → InnerLaw plans takes inner k → IsPlan plans takes k plan → length given ≡ takes k
    → Below (length flat.widths) given → AreNumbered servers flat.elements (length flat.widths)
    → StaysNumbered servers flat (outs_of plan.outs (steps_laid inner plan.steps given flat)).0 (outs_of plan.outs (steps_laid inner plan.steps given flat)).1
plan_numbered plans takes inner k servers plan given flat law p count low numbered =
    let done = steps_done plans takes inner k (takes k) p.channels plan.steps given flat law p.steps count in
    let all = steps_number plans takes inner k servers (takes k) p.channels plan.steps given flat law p.steps count low numbered in
    let last = steps_laid inner plan.steps given flat in
    record { numbered = all.numbered; handed = below-chosen (length last.1.widths) last.0 plan.outs all.handed (subst (λ q. Below q plan.outs) (sym done.count) p.outs); grows = all.grows }

-- ---- levels
pub fewer : (plans : List Plan) (takes : ℕ → ℕ) (inner : Lays) (k body : ℕ) → body ≤ k → InnerLaw plans takes inner k → InnerLaw plans takes inner body
fewer plans takes inner k body le law = record {
  balanced = λ b given flat low count. law.balanced b given flat (omega arith) count;
  count = λ b given flat low count. law.count b given flat (omega arith) count;
  numbered = λ servers b given flat low count given_low numbered. law.numbered servers b given flat (omega arith) count given_low numbered;
}

pub level_law : (plans : List Plan) (takes : ℕ → ℕ) → ArePlans plans takes → (levels : ℕ) → levels ≤ length plans → InnerLaw plans takes (laid plans levels) levels
level_law plans takes good zero le = record {
  balanced = λ body given flat lt count. absurd (omega arith);
  count = λ body given flat lt count. absurd (omega arith);
  numbered = λ servers body given flat lt count low numbered. absurd (omega arith);
}
level_law plans takes good (suc levels) le = record {
  balanced = λ body given flat lt count.
      let there = good.each body (omega arith) in
      let is = laid_some plans (suc levels) levels body given flat there.0 refl there.1 in
      subst (λ r. IsBalanced given flat r.0 r.1) (sym is) (plan_balanced plans takes (laid plans levels) body there.0 given flat (fewer plans takes (laid plans levels) levels body (omega arith) (level_law plans takes good levels (omega arith))) there.2 count);
  count = λ body given flat lt count.
      let there = good.each body (omega arith) in
      let is = laid_some plans (suc levels) levels body given flat there.0 refl there.1 in
      ap (λ r. length r.0) is ∙ length-chosen (steps_laid (laid plans levels) there.0.steps given flat).0 there.0.outs ∙ ap outs_count (sym there.1);
  numbered = λ servers body given flat lt count low numbered.
      let there = good.each body (omega arith) in
      let is = laid_some plans (suc levels) levels body given flat there.0 refl there.1 in
      subst (λ r. StaysNumbered servers flat r.0 r.1) (sym is) (plan_numbered plans takes (laid plans levels) body servers there.0 given flat (fewer plans takes (laid plans levels) levels body (omega arith) (level_law plans takes good levels (omega arith))) there.2 count low numbered);
}

pub each_laid_out : EachLaidOut
each_laid_out plans takes good top widths lt count =
    let law = level_law plans takes good (length plans) (omega arith) in
    let empty : Flat = record { elements = []; widths = widths } in
    let given = count_from 0 widths in
    let many : length given ≡ takes top = length-count_up 0 (length widths) ∙ count in
    let after = laid plans (length plans) top given empty in
    let numbers = law.numbered (length widths) top given empty lt many (below-count_up 0 (length widths) (length widths) (omega arith)) refl in
    record {
      design = record {
        numbered = numbers.numbered;
        handed = numbers.handed;
        once = λ f.
            let balance = (law.balanced top given empty lt many).same f in
            let made = numbered-made f (length widths) (length after.1.widths) after.1.elements numbers.numbered in
            omega arith;
      };
      count = law.count top given empty lt many;
    }
