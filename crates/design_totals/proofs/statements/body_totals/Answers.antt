use Rattle.std.proofs.Common.{◌+◌, ap, sym, ◌∙◌, map, take}
use Rattle.design_scopes.specs.Resolving.{scope_in}
use Rattle.design_totals.specs.Capped.{no_totals, joined_from, statement_capped}
use Rattle.design_totals.proofs.CappedLaws.{joined_next}
use Rattle.design_totals.proofs.statements.body_totals.Goals as goal

pub loop-statement-preserved : goal.loop-statement-preserved
loop-statement-preserved c =
    let d = c.args.declared.now in
    let b = c.args.body.now in
    let i = c.loop-statement.statement-index in
    let same = c.as_slice-statement-items.ensures in
    joined_next (λ s. statement_capped (scope_in d b) c.args.modules.now c.args.known.now s.now) c.as_slice-statement-items.result.now i c.statement-item.result c.loop-statement.totals
    c.statement_totals-more.result c.together-totals.result c.loop-statement-test.true c.statement-item.is
    (c.loop-statement.invariant ∙ ap (λ l. joined_from no_totals (map (λ s. statement_capped (scope_in d b) c.args.modules.now c.args.known.now s.now) (take i l))) (sym same))
    c.statement_totals-more.ensures c.together-totals.ensures
    ∙ ap (λ l. joined_from no_totals (map (λ s. statement_capped (scope_in d b) c.args.modules.now c.args.known.now s.now) (take (i + 1) l))) same
