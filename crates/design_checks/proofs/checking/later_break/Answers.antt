use Rattle.std.proofs.Common.{subst, sym}
use Rattle.name_tables.specs.FirstPlaces.{Nowhere}
use Rattle.channel_typing.specs.Misfits.{misfits}
use Rattle.check_rules.specs.DeclaredTwice.{BreaksDeclaredTwice}
use Rattle.check_rules.specs.Scopes.{scopes}
use Rattle.design_scopes.specs.Bodies.{DesignText, bodies_in}
use Rattle.design_checks.specs.Breaks.{body_checks, total_checks, ReportsBreak}
use Rattle.design_checks.proofs.BreakLaws.{broken_before, kept_then}
use Rattle.design_checks.proofs.checking.later_break.Goals as goal

pub first_body_break-requires : goal.first_body_break-requires
first_body_break-requires c = subst (λ (d : DesignText). Nowhere (BreaksDeclaredTwice d.declarations (bodies_in d))) (sym c.requires.names) c.requires.kept.0

pub returns-in-Some : goal.returns-in-Some
returns-in-Some c =
    let bodies = scopes c.args.declarations.now c.args.top.now in
    broken_before (body_checks misfits bodies) (total_checks c.args.declarations.now c.args.top.now) c.in-Some.found.rule c.in-Some.found.at
    (subst (ReportsBreak (body_checks misfits bodies)) c.in-Some.is
    (subst (λ (d : DesignText). ReportsBreak (body_checks misfits (bodies_in d)) c.in_ok-found.field-0) c.requires.names c.in_ok-found.ensures))

pub returns-in_ok-totals-in-None : goal.returns-in_ok-totals-in-None
returns-in_ok-totals-in-None c =
    let bodies = scopes c.args.declarations.now c.args.top.now in
    kept_then (body_checks misfits bodies) (total_checks c.args.declarations.now c.args.top.now) c.total_break.result
    (subst (ReportsBreak (body_checks misfits bodies)) c.in-None.is
    (subst (λ (d : DesignText). ReportsBreak (body_checks misfits (bodies_in d)) c.in_ok-found.field-0) c.requires.names c.in_ok-found.ensures))
    (subst (λ (d : DesignText). ReportsBreak (total_checks d.declarations d.top) c.total_break.result) c.in_ok-totals-in-None.ensures c.total_break.ensures)
