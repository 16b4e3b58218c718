use Rattle.std.proofs.Common.{Ok, Err, sym, ap, ◌∙◌}
use Rattle.std.proofs.lemmas.Result.{err_from_is_err_and}
use Rattle.ll1_grammar.specs.Loops.{reads_err}
use Rattle.design_grammar.specs.TokenSteps.{any_refused, fails_with}
use Rattle.design_expressions.specs.ExpressionSteps.{binary_made, binary_fails}
use Rattle.design_expressions.proofs.words.binary_word.Goals as goal

pub returns-then-not-is_binary-clause-reads : goal.returns-then-not-is_binary-clause-reads
returns-then-not-is_binary-clause-reads c = fails_with _ _ _ (any_refused _ _ _ c.args.cursor.now (cc)) c.refuse.ensures

pub returns-in_err-word-clause-reads : goal.returns-in_err-word-clause-reads
returns-in_err-word-clause-reads c =
    let p = err_from_is_err_and c.from_residual.result c.from_residual.ensures.1 in
    reads_err _ c.from_residual.result c.in_err-word.field-0.0 c.operator.new.cursor (p.1 ∙ ap Err p.2) (binary_fails c.kind_of-kind.result c.args.cursor.now _ (cc) c.in_err-word.ensures.reads)

pub returns-clause-reads : goal.returns-clause-reads
returns-clause-reads c =
    binary_made c.kind_of-kind.result c.args.cursor.now c.operator.new.cursor c.in_ok-word.word (cc) (cc) c.in_ok-word.ensures.reads
    ∙ ap (λ z. Ok ((z, c.in_ok-word.word), c.operator.new.cursor)) (sym c.binary_of.ensures)
