use Rattle.std.proofs.Common.{◌≡◌, List, ap, subst, ◌∙◌}
use Rattle.name_tables.specs.FirstPlaces.{Reports}
use Rattle.element_order.specs.Orders.{ordered}
use Rattle.design_tree.specs.declared.statements.Statement.{Statement}
use Rattle.check_rules.specs.Dependencies.{elements_of}
use Rattle.design_scopes.specs.Bodies.{referred}
use Rattle.design_scopes.specs.Resolving.{scope_in}
use Rattle.body_order.specs.Cycles.{BreaksCycle}
use Rattle.body_order.specs.Makers.{first_needs}
use Rattle.body_order.specs.Signals.{first_of, wrong_signals}
use Rattle.channel_typing.specs.Misfits.{body_misfits}
use Rattle.design_checks.proofs.bodies.breaks_of_body.Goals as goal

pub returns : goal.returns
returns c =
    let scope = scope_in c.args.declared.now c.args.body.now in
    let elements : c.in_ok-elements.elements ≡ elements_of scope.statements = c.in_ok-elements.ensures ∙ ap (λ s. elements_of (referred s)) c.as_slice.ensures in
    let order : c.in_ok-order.order ≡ ordered (first_needs (elements_of scope.statements)) = c.in_ok-order.ensures ∙ ap (λ (es : List Statement). ordered (first_needs es)) elements in
    let second : c.as_slice-2.result.now ≡ ordered (first_needs (elements_of scope.statements)) = c.as_slice-2.ensures ∙ order in
    let fourth : c.as_slice-4.result.now ≡ ordered (first_needs (elements_of scope.statements)) = c.as_slice-4.ensures ∙ order in
    record {
      cycle = subst (λ (es : List Statement). Reports (BreaksCycle es) c.in_ok-cycle.cycle) elements c.in_ok-cycle.ensures;
      signal = c.first_wrong_signal-signal.ensures ∙ (λ i. first_of (wrong_signals (elements i) (second i) (referred (c.as_slice-3.ensures i))));
      misfit = c.in_ok-misfit.ensures ∙ (λ i. first_of (body_misfits scope (elements i) (fourth i)));
    }
