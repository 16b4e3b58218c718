use Rattle.design_checks.proofs.ReportLaws.{each_reports_one}
use Rattle.design_checks.proofs.laws.checks_law.Goals as goal

pub returns : goal.returns
returns c = each_reports_one
