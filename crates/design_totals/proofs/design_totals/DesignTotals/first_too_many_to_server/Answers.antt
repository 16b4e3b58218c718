use Rattle.std.proofs.Common.{subst, ap}
use Rattle.name_tables.specs.FirstPlaces.{Reports}
use Rattle.check_rules.specs.declared.limits.TheConstants.{MAX_ENDPOINTS}
use Rattle.check_rules.specs.Totals.{top_total, Exceeds}
use Rattle.design_totals.proofs.DesignLaws.{reports_capped}
use Rattle.design_totals.proofs.design_totals.DesignTotals.first_too_many_to_server.Goals as goal

pub returns : goal.returns
returns c =
    subst (λ d. Reports (Exceeds MAX_ENDPOINTS (top_total d.declarations d.top).to_server d.top) c.exceeding.result) c.self.view_is
    (reports_capped MAX_ENDPOINTS (top_total c.self.inside.declarations.now c.self.inside.top.now).to_server c.self.inside.totals.to_server c.self.inside.top.now c.exceeding.result
    (ap (λ t. t.to_server) c.self.invariant) c.exceeding.ensures)
