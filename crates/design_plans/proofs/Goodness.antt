-- Each plan of a design is the one of its body, and good.
use Rattle.std.proofs.Common.{◌≡◌, ℕ, zero, suc, ◌+◌, ◌<◌, List, [], ◌∷◌, ◌++◌, length, take, refl, ap, sym, ◌∙◌, subst, inl, inr, arith}
use Rattle.std.specs.Prelude.{Some, slice_get, if◌then◌else◌}
use Rattle.std.proofs.lemmas.Bool.{cases_Bool}
use Rattle.std.proofs.lemmas.List.{append_assoc, append-nil, length-append}
use Rattle.std.proofs.lemmas.List.Elements.{All-nil}
use Rattle.name_tables.specs.Labels.{Label}
use Rattle.check_rules.specs.Scopes.{Scope}
use Rattle.check_rules.specs.Dependencies.{elements_of}
use Rattle.flat_design.specs.declared.plan.Plan.{Plan}
use Rattle.flat_design.specs.FlatLaws.{AreSteps, IsPlan}
use Rattle.flat_design.specs.FlatLaws.AreSteps.{none}
use Rattle.body_plans.specs.declared.endpoints.Endpoints.{Endpoints}
use Rattle.body_plans.specs.declared.ordered.OrderedElement.{OrderedElement}
use Rattle.body_plans.specs.declared.body_plan.BodyPlan.{BodyPlan}
use Rattle.body_plans.specs.Views.{before_of}
use Rattle.body_plans.specs.Plans.{plan_of}
use Rattle.plan_laws.specs.Once.{EachPlan}
use Rattle.design_plans.specs.declared.design_plans.DesignPlans.{DesignPlans}
use Rattle.design_plans.specs.Planning.{is_within, capped, kept_plan, no_plans, elements_in, with_body, planned_along}
use Rattle.design_plans.specs.DesignLaws.{planned, before_body, own_plan, IsGoodBody, EachDesign}

get_mid : {A : Type 0} (xs : List A) (x : A) (ys : List A) → slice_get (xs ++ x ∷ ys) (length xs) ≡ Some x
get_mid [] x ys = refl
get_mid (y ∷ xs) x ys = get_mid xs x ys

take_front : {A : Type 0} (xs ys : List A) → take (length xs) (xs ++ ys) ≡ xs
take_front [] ys = refl
take_front (x ∷ xs) ys = ap (λ l. x ∷ l) (take_front xs ys)

some_at : {A : Type 0} (xs : List A) (k : ℕ) → k < length xs → (x : A) × (slice_get xs k ≡ Some x)
some_at [] k low = absurd (omega arith)
some_at (x ∷ xs) zero low = (x, refl)
some_at (x ∷ xs) (suc k) low = some_at xs k (omega arith)

-- the plans of some bodies stand behind those before them, each in its place
record IsAlong (names : List Label) (ordered : List (List OrderedElement)) (before after : DesignPlans) (scopes : List Scope) : Type 0 where
  pub more : List Plan
  pub plans : after.plans ≡ before.plans ++ more
  pub later : List Endpoints
  pub endpoints : after.endpoints ≡ before.endpoints ++ later
  pub count : length after.plans ≡ length before.plans + length scopes
  pub at : (i : ℕ) (scope : Scope) → slice_get scopes i ≡ Some scope → slice_get after.plans (length before.plans + i) ≡ Some (kept_plan (own_plan names ordered after (length before.plans + i) scope))

along : (names : List Label) (ordered : List (List OrderedElement)) (before : DesignPlans) (scopes : List Scope) → length before.endpoints ≡ length before.plans
    → IsAlong names ordered before (planned_along names ordered before scopes) scopes
along names ordered before [] even = record {
  more = [];
  plans = sym (append-nil before.plans);
  later = [];
  endpoints = sym (append-nil before.endpoints);
  count = omega arith;
  at = λ i scope e. absurd (cc);
}
along names ordered before (scope ∷ rest) even =
    let p : BodyPlan = plan_of scope (before_of names before.endpoints) (elements_of scope.statements) (elements_in ordered (length before.plans)) in
    let next : DesignPlans = with_body names ordered before scope in
    let after : DesignPlans = planned_along names ordered next rest in
    let longer : length next.plans ≡ length before.plans + 1 = length-append before.plans (kept_plan p ∷ []) in
    let longer' : length next.endpoints ≡ length before.endpoints + 1 = length-append before.endpoints (capped p.endpoints ∷ []) in
    let inner = along names ordered next rest (omega arith) in
    let plans : after.plans ≡ before.plans ++ kept_plan p ∷ inner.more = inner.plans ∙ append_assoc before.plans (kept_plan p ∷ []) inner.more in
    let endpoints : after.endpoints ≡ before.endpoints ++ capped p.endpoints ∷ inner.later = inner.endpoints ∙ append_assoc before.endpoints (capped p.endpoints ∷ []) inner.later in
    record {
      more = kept_plan p ∷ inner.more;
      plans = plans;
      later = capped p.endpoints ∷ inner.later;
      endpoints = endpoints;
      count = (let c = inner.count in omega arith);
      at = each p after inner.more inner.later refl plans endpoints inner.at longer;
    }
  where
    each : (p : BodyPlan) (after : DesignPlans) (more : List Plan) (later : List Endpoints) → p ≡ plan_of scope (before_of names before.endpoints) (elements_of scope.statements) (elements_in ordered (length before.plans)) → after.plans ≡ before.plans ++ kept_plan p ∷ more → after.endpoints ≡ before.endpoints ++ capped p.endpoints ∷ later
        → ((i : ℕ) (s : Scope) → slice_get rest i ≡ Some s → slice_get after.plans (length (with_body names ordered before scope).plans + i) ≡ Some (kept_plan (own_plan names ordered after (length (with_body names ordered before scope).plans + i) s)))
        → length (with_body names ordered before scope).plans ≡ length before.plans + 1
        → (i : ℕ) (s : Scope) → slice_get (scope ∷ rest) i ≡ Some s → slice_get after.plans (length before.plans + i) ≡ Some (kept_plan (own_plan names ordered after (length before.plans + i) s))
    each p after more later is plans endpoints inner longer zero s e =
        let same : scope ≡ s = cc in
        let z : length before.plans ≡ length before.plans + zero = omega arith in
        let found : slice_get after.plans (length before.plans) ≡ Some (kept_plan p) = ap (λ ps. slice_get ps (length before.plans)) plans ∙ get_mid before.plans (kept_plan p) more in
        let taken : take (length before.plans) after.endpoints ≡ before.endpoints
        = ap (λ n. take n after.endpoints) (sym even) ∙ ap (take (length before.endpoints)) endpoints ∙ take_front before.endpoints (capped p.endpoints ∷ later) in
        let own : kept_plan p ≡ kept_plan (own_plan names ordered after (length before.plans) scope)
        = ap kept_plan is ∙ ap (λ es. kept_plan (plan_of scope (before_of names es) (elements_of scope.statements) (elements_in ordered (length before.plans)))) (sym taken) in
        subst (λ s. slice_get after.plans (length before.plans + zero) ≡ Some (kept_plan (own_plan names ordered after (length before.plans + zero) s))) same
        (subst (λ n. slice_get after.plans n ≡ Some (kept_plan (own_plan names ordered after n scope))) z (found ∙ ap Some own))
    each p after more later is plans endpoints inner longer (suc i) s e =
        let k : length (with_body names ordered before scope).plans + i ≡ length before.plans + suc i = omega arith in
        subst (λ n. slice_get after.plans n ≡ Some (kept_plan (own_plan names ordered after n s))) k (inner i s e)

-- ---- good plans
nothing_done : (plans : List Plan) (takes : ℕ → ℕ) (k : ℕ) → takes k ≡ 0 → IsPlan plans takes k (record { steps = []; outs = [] })
nothing_done plans takes k none_taken = record {
  channels = 0;
  steps = subst (λ n. AreSteps plans takes k n [] 0) (sym none_taken) (none 0);
  outs = All-nil (λ q. q < 0);
  once = λ f. refl;
}

kept_good : EachPlan → (names : List Label) (ordered : List (List OrderedElement)) (p : DesignPlans) (takes : ℕ → ℕ) (k : ℕ) (scope : Scope) → IsGoodBody names ordered p takes k scope
    → IsPlan p.plans takes k (kept_plan (own_plan names ordered p k scope))
kept_good law names ordered p takes k scope good =
    let own : BodyPlan = own_plan names ordered p k scope in
    elim (cases_Bool (is_within own.endpoints)) [
      | inl t ↦ subst (IsPlan p.plans takes k) (sym (ap (λ b. if b then own.plan else (record { steps = []; outs = [] })) t))
          (law p.plans takes k scope (before_body names p k) (elements_of scope.statements) (elements_in ordered k) (good.kept t))
      | inr f ↦ subst (IsPlan p.plans takes k) (sym (ap (λ b. if b then own.plan else (record { steps = []; outs = [] })) f)) (nothing_done p.plans takes k (good.dropped f))
    ]

pub each_design : EachPlan → EachDesign
each_design law names ordered scopes takes good = record { each = one }
  where
    one : (k : ℕ) → k < length (planned names ordered scopes).plans → (plan : Plan) × (slice_get (planned names ordered scopes).plans k ≡ Some plan) × IsPlan (planned names ordered scopes).plans takes k plan
    one k low =
        let p : DesignPlans = planned names ordered scopes in
        let a = along names ordered no_plans scopes refl in
        let count = a.count in
        let found = some_at scopes k (omega arith) in
        let z : 0 + k ≡ k = omega arith in
        let is : slice_get p.plans k ≡ Some (kept_plan (own_plan names ordered p k found.0))
        = subst (λ n. slice_get p.plans n ≡ Some (kept_plan (own_plan names ordered p n found.0))) z (a.at k found.0 found.1) in
        (kept_plan (own_plan names ordered p k found.0), is, kept_good law names ordered p takes k found.0 (good k found.0 found.1))
