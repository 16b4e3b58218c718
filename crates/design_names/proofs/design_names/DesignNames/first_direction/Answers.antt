use Rattle.std.proofs.Common.{subst, ap, ◌∙◌}
use Rattle.std.specs.Prelude.{IfOk}
use Rattle.std.specs.List.{flat_map}
use Rattle.statement_checks.specs.Walks.{if_ok_then}
use Rattle.name_tables.specs.FirstPlaces.{Reports, least}
use Rattle.check_rules.specs.Directions.{BreaksDirections}
use Rattle.design_names.specs.ReferencePlaces.{body_wrong}
use Rattle.design_scopes.specs.Bodies.{bodies_in}
use Rattle.design_names.proofs.RuleLaws.{reports_directions}
use Rattle.design_names.proofs.design_names.DesignNames.first_direction.Goals as goal

pub returns : goal.returns
returns c = subst (λ d. IfOk c.first_direction.result (Reports (BreaksDirections (bodies_in d)))) c.self.view_is
    (if_ok_then c.first_direction.result c.first_direction.ensures (λ first e. reports_directions c.self.inside.declarations.now c.self.inside.top.now c.self.inside.declared c.self.inside.bodies first
    c.self.invariant.declared_are c.self.invariant.bodies_are (e ∙ ap (λ bs. least (flat_map (body_wrong c.self.inside.declared) bs)) c.as_slice.ensures)))
