-- The plans of a design that breaks no rule are good.
use Rattle.std.proofs.Common.{◌≡◌, ℕ, ◌+◌, true, List, Some, length, take, refl, ap, sym, ◌∙◌, arith}
use Rattle.std.specs.Prelude.{slice_get, if◌then◌else◌}
use Rattle.design_tree.specs.declared.statements.Statement.TheVariants as S
use Rattle.design_tree.specs.declared.declarations.Declaration.{Declaration}
use Rattle.design_tree.specs.declared.top.Top.{Top}
use Rattle.name_tables.specs.Labels.{Label}
use Rattle.element_order.specs.Laws.{AllOrders}
use Rattle.check_rules.specs.Scopes.{Scope, bundles_of, services_of, modules_of, find_module, module_scope, scopes}
use Rattle.check_rules.specs.Dependencies.{elements_of}
use Rattle.body_order.specs.Cycles.{EachNeeds}
use Rattle.body_order.specs.BodyLaws.{EachOnce}
use Rattle.body_plans.specs.declared.ordered.OrderedElement.{OrderedElement}
use Rattle.body_plans.specs.Channels.{given}
use Rattle.plan_laws.specs.Blocks.{EachServed, EachClient}
use Rattle.design_plans.specs.declared.design_plans.DesignPlans.{DesignPlans}
use Rattle.design_plans.specs.Planning.{is_within, elements_in}
use Rattle.design_plans.specs.DesignLaws.{planned, before_body, own_plan, IsGoodBody, EachDesign}
use Rattle.once_laws.specs.Accepted.{module_names, AreInOrder, given_to, given_count, EachAccepted}
use Rattle.once_laws.proofs.Lists.{get_contains}
use Rattle.once_laws.proofs.Orders.{IsComplete, complete_order}
use Rattle.once_laws.proofs.Kept.{IsKept, instance_module}
use Rattle.once_laws.proofs.Placed.{ArePlanned, handed_one, once_body}
use Rattle.once_laws.proofs.Modules.{module_at, own_taken, planned_module}
use Rattle.once_laws.proofs.Rules.{IsAccepted, body_of, module_body, none_itself, body_kept}

body_complete : AllOrders → EachNeeds → EachOnce → (misfits : List Scope → List ℕ) (declarations : List Declaration) (top : Top) (rows : List (List OrderedElement)) → IsAccepted misfits declarations top → AreInOrder (scopes declarations top) rows
    → (k : ℕ) (scope : Scope) → slice_get (scopes declarations top) k ≡ Some scope → IsComplete (elements_of scope.statements) (elements_in rows k)
body_complete orders same once misfits declarations top rows h in_order k scope e =
    let one = get_contains (scopes declarations top) k scope e in
    complete_order orders same (elements_of scope.statements) (once declarations (scopes declarations top) h.0 scope one) (none_itself misfits declarations top h scope one) (elements_in rows k) (in_order.each k scope e)

module_planned : EachClient → (misfits : List Scope → List ℕ) (declarations : List Declaration) (top : Top) (rows : List (List OrderedElement)) → IsAccepted misfits declarations top
    → (k : ℕ) (scope : Scope) → slice_get (scopes declarations top) k ≡ Some scope → IsComplete (elements_of scope.statements) (elements_in rows k)
    → is_within (own_plan (module_names declarations) rows (planned (module_names declarations) rows (scopes declarations top)) k scope).endpoints ≡ true
    → ArePlanned (planned (module_names declarations) rows (scopes declarations top)).plans (given_count (module_names declarations) rows (scopes declarations top)) k scope (before_body (module_names declarations) (planned (module_names declarations) rows (scopes declarations top)) k)
module_planned client misfits declarations top rows h k scope e c t at id body bindings there =
    let names : List Label = module_names declarations in
    let bodies : List Scope = scopes declarations top in
    let kept : IsKept scope = body_kept misfits declarations top h k scope e in
    let is = body_of declarations top k scope e in
    let m = instance_module scope kept at id body bindings there in
    let spot = module_at body (modules_of declarations) k 0 m.part (ap (find_module body) (sym is.modules) ∙ m.found) in
    let inner : Scope = module_scope (bundles_of declarations) (services_of declarations) (take spot.number (modules_of declarations)) m.part in
    let z : 0 + spot.number ≡ spot.number = omega arith in
    let block = handed_one client scope kept (before_body names (planned names rows bodies) k) (elements_in rows k) c (S.Instance at id body bindings) there in
    planned_module names rows bodies k scope at id body bindings m.part spot.number inner t there block m.found spot.earlier (spot.found ∙ ap Some z) (module_body declarations top spot.number m.part spot.there) refl

pub each_accepted : AllOrders → EachNeeds → EachOnce → EachServed → EachClient → EachDesign → EachAccepted
each_accepted orders same once served client design misfits declarations top rows h in_order =
    design (module_names declarations) rows (scopes declarations top) (given_count (module_names declarations) rows (scopes declarations top)) (λ k scope e. good k scope e)
  where
    good : (k : ℕ) (scope : Scope) → slice_get (scopes declarations top) k ≡ Some scope
        → IsGoodBody (module_names declarations) rows (planned (module_names declarations) rows (scopes declarations top)) (given_count (module_names declarations) rows (scopes declarations top)) k scope
    good k scope e =
        let names : List Label = module_names declarations in
        let bodies : List Scope = scopes declarations top in
        let p : DesignPlans = planned names rows bodies in
        let c = body_complete orders same once misfits declarations top rows h in_order k scope e in
        record {
          kept = λ t. once_body served client p.plans (given_count names rows bodies) k scope (body_kept misfits declarations top h k scope e) (before_body names p k) (elements_in rows k) c
              (sym (ap (given_to names rows bodies k) e ∙ own_taken names rows bodies k scope t)) (module_planned client misfits declarations top rows h k scope e c t);
          dropped = λ f. ap (given_to names rows bodies k) e ∙ ap (λ b. if b then length (given scope (before_body names p k)) else 0) f;
        }
