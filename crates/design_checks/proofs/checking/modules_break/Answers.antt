use Rattle.std.proofs.Common.{◌++◌, subst}
use Rattle.channel_typing.specs.Misfits.{misfits}
use Rattle.check_rules.specs.Scopes.{scopes}
use Rattle.design_scopes.specs.Bodies.{DesignText, bodies_in}
use Rattle.design_checks.specs.Breaks.{name_checks, body_checks, total_checks, ReportsBreak}
use Rattle.design_checks.proofs.BreakLaws.{broken_before, kept_then_ok}
use Rattle.design_checks.proofs.checking.modules_break.Goals as goal

pub returns-in-Some : goal.returns-in-Some
returns-in-Some c =
    let bodies = scopes c.args.declarations.now c.args.top.now in
    broken_before (name_checks c.args.declarations.now bodies) (body_checks misfits bodies ++ total_checks c.args.declarations.now c.args.top.now) c.in-Some.found.rule c.in-Some.found.at
    (subst (ReportsBreak (name_checks c.args.declarations.now bodies)) c.in-Some.is
    (subst (λ (d : DesignText). ReportsBreak (name_checks d.declarations (bodies_in d)) c.in_ok-found.field-0) c.in_ok-names.ensures c.in_ok-found.ensures))

pub later_break-requires-clause-kept : goal.later_break-requires-clause-kept
later_break-requires-clause-kept c =
    subst (ReportsBreak (name_checks c.args.declarations.now (scopes c.args.declarations.now c.args.top.now))) c.in-None.is
    (subst (λ (d : DesignText). ReportsBreak (name_checks d.declarations (bodies_in d)) c.in_ok-found.field-0) c.in_ok-names.ensures c.in_ok-found.ensures)

pub returns : goal.returns
returns c =
    let bodies = scopes c.args.declarations.now c.args.top.now in
    kept_then_ok (name_checks c.args.declarations.now bodies) (body_checks misfits bodies ++ total_checks c.args.declarations.now c.args.top.now) c.later_break.result
    (subst (ReportsBreak (name_checks c.args.declarations.now bodies)) c.in-None.is
    (subst (λ (d : DesignText). ReportsBreak (name_checks d.declarations (bodies_in d)) c.in_ok-found.field-0) c.in_ok-names.ensures c.in_ok-found.ensures))
    c.later_break.ensures
