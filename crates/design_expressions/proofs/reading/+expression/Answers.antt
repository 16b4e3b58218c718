use Rattle.std.proofs.Common.{[], ◌∷◌, ◌-◌, Ok, Err, refl, sym, ap, ◌∙◌, subst}
use Rattle.std.proofs.lemmas.Result.{err_from_is_err_and}
use Rattle.ll1_grammar.specs.Loops.{turning_ended, turning_fails, turning_more, reads_err}
use Rattle.design_grammar.specs.Grammar.{AnswersAt}
use Rattle.design_grammar.specs.declared.kind.Kind.TheVariants.{Comma}
use Rattle.design_grammar.specs.Kinds.{code}
use Rattle.design_grammar.specs.Lists.{one_more, after_comma}
use Rattle.design_grammar.specs.Rules.{designs}
use Rattle.design_grammar.specs.NextToken.{one_comes, none_comes}
use Rattle.design_expressions.specs.ExpressionReading as spec
use Rattle.design_expressions.specs.ExpressionSteps.{one_more_part_shorter, above_zero, level_read, base_of_bits, of_bits_binary, of_bits_mux, application_variable}
use Rattle.design_expressions.proofs.reading.+expression.Goals as goal

pub base-returns-else-is_same-4-clause-reads : goal.base-returns-else-is_same-4-clause-reads
base-returns-else-is_same-4-clause-reads t c =
    subst (λ z. AnswersAt z c.of_bits.result c.of_bits.new.cursor) (sym (base_of_bits (spec.expression_at c.args.levels) c.args.cursor.now (cc) (cc) (cc) (cc))) c.of_bits.ensures.reads

pub of_bits-returns-else-is_binary-clause-reads : goal.of_bits-returns-else-is_binary-clause-reads
of_bits-returns-else-is_binary-clause-reads t c =
    subst (λ z. AnswersAt z c.operation-else-is_binary.result c.operation-else-is_binary.new.cursor) (sym (of_bits_mux (spec.expression_at c.args.levels) c.args.cursor.now (cc) (cc) (cc) (cc))) c.operation-else-is_binary.ensures.reads

pub of_bits-returns-then-is_binary-clause-reads : goal.of_bits-returns-then-is_binary-clause-reads
of_bits-returns-then-is_binary-clause-reads t c =
    subst (λ z. AnswersAt z c.binary.result c.binary.new.cursor) (sym (of_bits_binary (spec.expression_at c.args.levels) c.args.cursor.now (cc) (cc) (cc) (cc))) c.binary.ensures.reads

pub parts-loop-alloc-smaller : goal.parts-loop-alloc-smaller
parts-loop-alloc-smaller t c = one_more_part_shorter c.args.levels c.loop-alloc.parts c.loop-alloc.cursor c.one_more.new.parts c.one_more.new.cursor c.in_ok-one_more.ensures.reads

pub parts-loop-alloc-preserved : goal.parts-loop-alloc-preserved
parts-loop-alloc-preserved t c =
    turning_more designs (code Comma ∷ []) (one_more (after_comma (spec.expression_at c.args.levels))) refl _ _ _ _ _ _ c.loop-alloc.invariant (one_comes (code Comma) c.loop-alloc.cursor (cc)) c.in_ok-one_more.ensures.reads
    (one_more_part_shorter c.args.levels c.loop-alloc.parts c.loop-alloc.cursor c.one_more.new.parts c.one_more.new.cursor c.in_ok-one_more.ensures.reads)

pub parts-returns-in_err-one_more-clause-reads : goal.parts-returns-in_err-one_more-clause-reads
parts-returns-in_err-one_more-clause-reads t c =
    let p = err_from_is_err_and c.from_residual.result c.from_residual.ensures.1 in
    reads_err _ c.from_residual.result c.in_err-one_more.field-0.0 c.one_more.new.cursor (p.1 ∙ ap Err p.2)
    (turning_fails designs (code Comma ∷ []) (one_more (after_comma (spec.expression_at c.args.levels))) refl _ _ _ _ _ c.loop-alloc.invariant (one_comes (code Comma) c.loop-alloc.cursor (cc)) c.in_err-one_more.ensures.reads)

pub parts-returns-clause-reads : goal.parts-returns-clause-reads
parts-returns-clause-reads t c = turning_ended designs (code Comma ∷ []) (one_more (after_comma (spec.expression_at c.args.levels))) _ _ _ _ c.loop-alloc.invariant (none_comes (code Comma) c.loop-alloc.cursor (cc))

pub application-returns-in_ok-variable-clause-reads : goal.application-returns-in_ok-variable-clause-reads
application-returns-in_ok-variable-clause-reads t c =
    application_variable (spec.expression_at c.args.levels) c.args.shape c.args.word c.args.cursor.now (cc) ∙ ap (λ z. Ok (z, c.args.cursor.now)) (sym c.in_ok-variable.ensures)

pub expression_at-returns-clause-reads : goal.expression_at-returns-clause-reads
expression_at-returns-clause-reads t c =
    level_read c.args.levels (c.args.levels - 1) c.args.cursor.now c.level.result c.level.new.cursor (above_zero c.args.levels c.if-levels-eq0.false) c.level.ensures.reads
