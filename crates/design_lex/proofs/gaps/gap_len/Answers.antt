use Rattle.std.proofs.Common.{false, ◌+◌, arith, refl, sym, ◌∙◌, length}
use Rattle.design_lex.specs.Steps.{skip_within, skip_outside, none_left}
use Rattle.design_lex.proofs.gaps.gap_len.Goals as goal
use Rattle.design_lex.proofs.gaps.gap_len.Goals.{then-within_comment, else-within_comment+then-begins_gap}

pub loop-i-preserved : goal.loop-i-preserved
loop-i-preserved c = λ at.
    elim c.if-within_comment.branch [
      | then-within_comment w ↦ c.loop-i.invariant at ∙ skip_within _ _ at _ _ (omega arith) w.if-within_comment.true w.within_comment-is
      | else-within_comment+then-begins_gap w ↦ c.loop-i.invariant at ∙ skip_outside _ _ _ at _ _ (omega arith) refl w.if-within_comment.false (sym w.if-begins_gap.ensures) w.within_comment-is
    ]

pub returns : goal.returns
returns c = record {
  within = omega arith;
  same = λ at. c.loop-i.invariant at ∙ (none_left c.loop-i.within_comment (at + c.loop-i.i) c.args.text.now c.loop-i.i (omega arith) ∙ sym (none_left false (at + length c.args.text.now) c.args.text.now (length c.args.text.now) (omega arith)));
  stops = λ h. absurd (omega arith);
}
