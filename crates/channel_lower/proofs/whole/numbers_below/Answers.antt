use Rattle.std.proofs.Common.{◌++◌, ◌∷◌, [], sym, ◌∙◌, ap}
use Rattle.channel_lower.specs.Whole.{one_more}
use Rattle.channel_lower.proofs.whole.numbers_below.Goals as goal

pub loop-number-preserved : goal.loop-number-preserved
loop-number-preserved c = c.in_ok-add.ensures.added ∙ ap (λ xs. xs ++ c.loop-number.number ∷ []) c.loop-number.invariant ∙ sym (one_more c.loop-number.number)
