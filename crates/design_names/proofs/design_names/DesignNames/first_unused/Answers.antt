use Rattle.std.proofs.Common.{subst, ap, ◌∙◌}
use Rattle.std.specs.Prelude.{IfOk}
use Rattle.std.specs.List.{flat_map}
use Rattle.statement_checks.specs.Walks.{if_ok_then}
use Rattle.name_tables.specs.FirstPlaces.{Reports, least}
use Rattle.check_rules.specs.Uses.{BreaksUnused}
use Rattle.design_names.specs.UnusedPlaces.{body_unused}
use Rattle.design_scopes.specs.Bodies.{bodies_in}
use Rattle.design_names.proofs.UnusedSteps.{reports_unused}
use Rattle.design_names.proofs.design_names.DesignNames.first_unused.Goals as goal

pub returns : goal.returns
returns c = subst (λ d. IfOk c.first_unused.result (Reports (BreaksUnused (bodies_in d)))) c.self.view_is
    (if_ok_then c.first_unused.result c.first_unused.ensures (λ first e. reports_unused c.self.inside.declarations.now c.self.inside.top.now c.self.inside.declared c.self.inside.bodies first
    c.self.invariant.declared_are c.self.invariant.bodies_are (e ∙ ap (λ bs. least (flat_map (body_unused c.self.inside.declared) bs)) c.as_slice.ensures)))
