use Rattle.std.proofs.Common.{◌≡◌, ◌∙◌, ap, subst, length, List}
use Rattle.std.specs.Prelude.{OnOk}
use Rattle.check_rules.specs.Scopes.{Scope}
use Rattle.check_rules.specs.Dependencies.{elements_of}
use Rattle.body_plans.specs.declared.endpoints.Endpoints.{Endpoints}
use Rattle.body_plans.specs.declared.ordered.OrderedElement.{OrderedElement}
use Rattle.body_plans.specs.declared.body_plan.BodyPlan.{BodyPlan}
use Rattle.body_plans.specs.Plans.{plan_of}
use Rattle.body_plans.specs.Views.{before_of}
use Rattle.design_scopes.specs.Resolving.{scope_in}
use Rattle.design_plans.specs.Planning.{elements_in, with_plan}
use Rattle.design_plans.proofs.body.add_body.Goals as goal

pub returns : goal.returns
returns c =
    let scope : Scope = scope_in c.args.declared.now c.args.body.now in
    let planned : c.in_ok-planned.planned ≡ plan_of scope (before_of c.args.modules.now c.as_slice.result.now) (elements_of scope.statements) c.elements_at-order.result.now = c.in_ok-planned.ensures in
    let order : c.elements_at-order.result.now ≡ elements_in c.args.ordered.now (length c.args.plans.now.plans) = c.elements_at-order.ensures ∙ ap (elements_in c.args.ordered.now) c.len.ensures in
    let endpoints : c.as_slice.result.now ≡ c.args.plans.now.endpoints = c.as_slice.ensures in
    let whole : c.in_ok-planned.planned ≡ plan_of scope (before_of c.args.modules.now c.args.plans.now.endpoints) (elements_of scope.statements) (elements_in c.args.ordered.now (length c.args.plans.now.plans))
    = planned ∙ ap (λ (es : List Endpoints). plan_of scope (before_of c.args.modules.now es) (elements_of scope.statements) c.elements_at-order.result.now) endpoints
    ∙ ap (λ (os : List OrderedElement). plan_of scope (before_of c.args.modules.now c.args.plans.now.endpoints) (elements_of scope.statements) os) order in
    subst (λ (p : BodyPlan). OnOk c.add_plan.result (c.add_plan.new.plans ≡ with_plan c.args.plans.now p)) whole c.add_plan.ensures
