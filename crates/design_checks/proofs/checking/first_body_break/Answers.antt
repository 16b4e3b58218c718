use Rattle.std.proofs.Common.{List, subst, sym}
use Rattle.check_rules.specs.Scopes.{Scope}
use Rattle.channel_typing.specs.Misfits.{misfits}
use Rattle.design_scopes.specs.Bodies.{bodies_in}
use Rattle.design_checks.specs.BodyBreaks.{AreBreaksOf}
use Rattle.design_checks.specs.Breaks.{body_checks, ReportsBreak}
use Rattle.design_checks.proofs.BreakLaws.{bodies_reported, same_scopes}
use Rattle.design_checks.proofs.checking.first_body_break.Goals as goal

pub returns : goal.returns
returns c =
    let bodies = bodies_in c.args.names.now in
    let same = same_scopes c.args.names.now.declarations c.args.names.now.top c.declared.result.now c.bodies.result.now c.declared.ensures c.bodies.ensures in
    subst (ReportsBreak (body_checks misfits bodies)) (sym c.order_break.ensures)
    (bodies_reported misfits bodies c.in_ok-breaks.breaks c.bodies_law.ensures.cycles c.bodies_law.ensures.signals
    (c.bodies_law.ensures.once c.args.names.now.declarations bodies c.requires)
    (subst (λ (scopes : List Scope). AreBreaksOf misfits scopes c.in_ok-breaks.breaks) same c.in_ok-breaks.ensures))
