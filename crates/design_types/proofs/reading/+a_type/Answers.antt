use Rattle.std.proofs.Common.{[], ◌∷◌, Err, refl, sym, ap, ◌∙◌, subst}
use Rattle.std.proofs.lemmas.Result.{err_from_is_err_and}
use Rattle.ll1_grammar.specs.Loops.{turning_ended, turning_fails, turning_more, reads_err}
use Rattle.design_grammar.specs.declared.kind.Kind.TheVariants.{Comma}
use Rattle.design_grammar.specs.Kinds.{code}
use Rattle.design_grammar.specs.Grammar.{AnswersAt}
use Rattle.design_grammar.specs.Rules.{designs}
use Rattle.design_grammar.specs.Lists.{one_more, after_comma}
use Rattle.design_grammar.specs.NextToken.{one_comes, none_comes}
use Rattle.channel_types.specs.TypeGrammar.{Found}
use Rattle.design_types.specs.TypeReading as spec
use Rattle.design_types.specs.TypeSteps.{one_more_field_shorter, level_array, too_deep_stands, type_broken}
use Rattle.design_types.proofs.reading.+a_type.Goals as goal

pub level-returns-else-is_same-3-clause-reads : goal.level-returns-else-is_same-3-clause-reads
level-returns-else-is_same-3-clause-reads t c =
    subst (λ z. AnswersAt z c.array_type.result c.array_type.new.cursor) (sym (level_array (spec.type_at c.args.levels) c.args.cursor.now (cc) (cc) (cc))) c.array_type.ensures.reads

pub more_fields-loop-alloc-smaller : goal.more_fields-loop-alloc-smaller
more_fields-loop-alloc-smaller t c = one_more_field_shorter c.args.levels c.loop-alloc.fields c.loop-alloc.cursor c.one_more.new.fields c.one_more.new.cursor c.in_ok-one_more.ensures.reads

pub more_fields-loop-alloc-preserved : goal.more_fields-loop-alloc-preserved
more_fields-loop-alloc-preserved t c =
    turning_more designs (code Comma ∷ []) (one_more (after_comma (spec.field (spec.type_at c.args.levels)))) refl _ _ _ _ _ _ c.loop-alloc.invariant (one_comes (code Comma) c.loop-alloc.cursor (cc)) c.in_ok-one_more.ensures.reads
    (one_more_field_shorter c.args.levels c.loop-alloc.fields c.loop-alloc.cursor c.one_more.new.fields c.one_more.new.cursor c.in_ok-one_more.ensures.reads)

pub more_fields-returns-in_err-one_more-clause-reads : goal.more_fields-returns-in_err-one_more-clause-reads
more_fields-returns-in_err-one_more-clause-reads t c =
    let p = err_from_is_err_and c.from_residual-in_err-one_more.result c.from_residual-in_err-one_more.ensures.1 in
    reads_err _ c.from_residual-in_err-one_more.result c.in_err-one_more.field-0.0 c.one_more.new.cursor (p.1 ∙ ap Err p.2)
    (turning_fails designs (code Comma ∷ []) (one_more (after_comma (spec.field (spec.type_at c.args.levels)))) refl _ _ _ _ _ c.loop-alloc.invariant (one_comes (code Comma) c.loop-alloc.cursor (cc)) c.in_err-one_more.ensures.reads)

pub more_fields-returns-clause-reads : goal.more_fields-returns-clause-reads
more_fields-returns-clause-reads t c = turning_ended designs (code Comma ∷ []) (one_more (after_comma (spec.field (spec.type_at c.args.levels)))) _ _ _ _ c.loop-alloc.invariant (none_comes (code Comma) c.loop-alloc.cursor (cc))

pub type_at-returns-then-levels-eq0-clause-stands : goal.type_at-returns-then-levels-eq0-clause-stands
type_at-returns-then-levels-eq0-clause-stands t c = too_deep_stands Found c.args.cursor.now c.too_deep.result c.too_deep.ensures

pub type_at-returns-in-Some-clause-reads : goal.type_at-returns-in-Some-clause-reads
type_at-returns-in-Some-clause-reads t c =
    type_broken c.args.levels c.args.cursor.now c.in_ok-found.found c.level.new.cursor c.in-Some.rule c.number.result c.token_begin-begin.result c.if-levels-eq0.false c.in_ok-found.ensures.reads
    (sym c.in_ok-broken_rule.ensures ∙ c.in-Some.is) c.number.ensures c.token_begin-begin.ensures
