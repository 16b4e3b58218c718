use Rattle.std.proofs.Common.{subst, ap, ◌∙◌}
use Rattle.std.specs.List.{flat_map}
use Rattle.name_tables.specs.FirstPlaces.{Reports, least}
use Rattle.check_rules.specs.Counts.{BreaksCounts}
use Rattle.statement_checks.specs.Counted.{body_counts}
use Rattle.design_scopes.specs.Bodies.{bodies_in}
use Rattle.design_names.proofs.RuleLaws.{reports_counts}
use Rattle.design_names.proofs.design_names.DesignNames.first_count.Goals as goal

pub returns : goal.returns
returns c = subst (λ d. Reports (BreaksCounts (bodies_in d)) c.first_count.result) c.self.view_is
    ((reports_counts c.self.inside.declarations.now c.self.inside.top.now c.self.inside.bodies c.first_count.result c.self.invariant.bodies_are (c.first_count.ensures ∙ ap (λ bs. least (flat_map body_counts bs)) c.as_slice.ensures)))
