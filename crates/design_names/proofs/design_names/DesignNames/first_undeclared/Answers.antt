use Rattle.std.proofs.Common.{◌++◌, subst, ap, ◌∙◌}
use Rattle.std.specs.Prelude.{IfOk}
use Rattle.std.specs.List.{flat_map}
use Rattle.statement_checks.specs.Walks.{if_ok_then}
use Rattle.name_tables.specs.FirstPlaces.{Reports, least}
use Rattle.check_rules.specs.Scopes.{bundles_of, services_of}
use Rattle.check_rules.specs.Undeclared.{service_undeclared, BreaksUndeclared}
use Rattle.design_names.specs.ReferencePlaces.{body_undeclared}
use Rattle.design_scopes.specs.Bodies.{bodies_in}
use Rattle.design_names.proofs.RuleLaws.{reports_undeclared}
use Rattle.design_names.proofs.design_names.DesignNames.first_undeclared.Goals as goal

pub returns : goal.returns
returns c = subst (λ d. IfOk c.first_undeclared.result (Reports (BreaksUndeclared (bundles_of d.declarations) (services_of d.declarations) (bodies_in d)))) c.self.view_is
    (if_ok_then c.first_undeclared.result c.first_undeclared.ensures (λ first e. reports_undeclared c.self.inside.declarations.now c.self.inside.top.now c.self.inside.declared c.self.inside.bodies first
    c.self.invariant.declared_are c.self.invariant.bodies_are
    (e ∙ ap (λ bs. least (flat_map (service_undeclared c.self.inside.declared.bundles) c.self.inside.declared.services ++ flat_map (body_undeclared c.self.inside.declared) bs)) c.as_slice.ensures)))
