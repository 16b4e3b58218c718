use Rattle.std.proofs.Common.{List, subst, sym}
use Rattle.std.specs.Prelude.{IfOk}
use Rattle.channel_typing.specs.Misfits.{misfits}
use Rattle.check_rules.specs.Checks.{checks, checks_over}
use Rattle.check_rules.specs.Scopes.{scopes}
use Rattle.design_tree.specs.declared.declarations.Declaration.{Declaration}
use Rattle.design_tree.specs.declared.design.DesignTree.{DesignTree}
use Rattle.design_checks.specs.Breaks.{ReportsBreak}
use Rattle.design_checks.proofs.checking.first_break.Goals as goal

pub returns-in-Modules : goal.returns-in-Modules
returns-in-Modules c =
    subst (λ (tree : DesignTree). IfOk c.modules_break.result (ReportsBreak (checks misfits tree))) (sym c.in-Modules.is)
    (subst (λ (declarations : List Declaration). IfOk c.modules_break.result (ReportsBreak (checks_over misfits declarations c.in-Modules.top (scopes declarations c.in-Modules.top))))
    c.as_slice.ensures c.modules_break.ensures)
