-- The plans of bodies, one body further.
use Rattle.std.proofs.Common.{◌≡◌, ℕ, suc, ◌+◌, ◌<◌, List, ◌∷◌, map, drop, get_or, length, ap, sym, ◌∙◌, arith, drop-cons}
use Rattle.name_tables.specs.Labels.{Label}
use Rattle.design_scopes.specs.declared.body.Body.{Body}
use Rattle.design_scopes.specs.declared.declared.Declared.{Declared}
use Rattle.design_scopes.specs.Resolving.{scope_in}
use Rattle.body_plans.specs.declared.ordered.OrderedElement.{OrderedElement}
use Rattle.design_plans.specs.declared.design_plans.DesignPlans.{DesignPlans}
use Rattle.design_plans.specs.Planning.{with_body, planned_along}

cut : (xs : List Body) (i : ℕ) (x : Body) → i < length xs → x ≡ get_or xs i x → drop i xs ≡ x ∷ drop (i + 1) xs
cut xs i x low is = let one : suc i ≡ i + 1 = omega arith in drop-cons xs i x low ∙ ap (λ y. y ∷ drop (suc i) xs) (sym is) ∙ ap (λ k. x ∷ drop k xs) one

pub planned_more : (names : List Label) (ordered : List (List OrderedElement)) (before after : DesignPlans) (d : Declared) (bodies : List Body) (i : ℕ) (b : Body) → i < length bodies → b ≡ get_or bodies i b
    → after ≡ with_body names ordered before (scope_in d b) → planned_along names ordered after (map (scope_in d) (drop (i + 1) bodies)) ≡ planned_along names ordered before (map (scope_in d) (drop i bodies))
planned_more names ordered before after d bodies i b low is e =
    ap (λ p. planned_along names ordered p (map (scope_in d) (drop (i + 1) bodies))) e ∙ ap (λ bs. planned_along names ordered before (map (scope_in d) bs)) (sym (cut bodies i b low is))
