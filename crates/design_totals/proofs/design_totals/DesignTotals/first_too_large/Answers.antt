use Rattle.std.proofs.Common.{subst, ap}
use Rattle.name_tables.specs.FirstPlaces.{Reports}
use Rattle.check_rules.specs.declared.limits.TheConstants.{LARGEST_DESIGN}
use Rattle.check_rules.specs.Totals.{top_total, Exceeds}
use Rattle.design_totals.proofs.DesignLaws.{reports_capped}
use Rattle.design_totals.proofs.design_totals.DesignTotals.first_too_large.Goals as goal

pub returns : goal.returns
returns c =
    subst (λ d. Reports (Exceeds LARGEST_DESIGN (top_total d.declarations d.top).size d.top) c.exceeding.result) c.self.view_is
    (reports_capped LARGEST_DESIGN (top_total c.self.inside.declarations.now c.self.inside.top.now).size c.self.inside.totals.size c.self.inside.top.now c.exceeding.result
    (ap (λ t. t.size) c.self.invariant) c.exceeding.ensures)
