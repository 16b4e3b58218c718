use Rattle.std.proofs.Common.{subst, ap, ◌∙◌}
use Rattle.std.specs.Prelude.{IfOk}
use Rattle.std.specs.List.{flat_map}
use Rattle.statement_checks.specs.Walks.{if_ok_then}
use Rattle.name_tables.specs.FirstPlaces.{Reports, least}
use Rattle.check_rules.specs.Uses.{BreaksUsedTwice}
use Rattle.design_names.specs.Places.{body_uses}
use Rattle.design_scopes.specs.Bodies.{bodies_in}
use Rattle.design_names.proofs.RuleLaws.{reports_used_twice}
use Rattle.design_names.proofs.design_names.DesignNames.first_used_twice.Goals as goal

pub returns : goal.returns
returns c = subst (λ d. IfOk c.first_used_twice.result (Reports (BreaksUsedTwice (bodies_in d)))) c.self.view_is
    (if_ok_then c.first_used_twice.result c.first_used_twice.ensures (λ first e. reports_used_twice c.self.inside.declarations.now c.self.inside.top.now c.self.inside.bodies first c.self.invariant.bodies_are (e ∙ ap (λ bs. least (flat_map body_uses bs)) c.as_slice.ensures)))
