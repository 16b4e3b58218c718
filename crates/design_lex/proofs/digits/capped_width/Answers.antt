use Rattle.std.proofs.Common.{◌≡◌, ◌+◌, ◌*◌, min, drop, arith, sym, ap, ◌∙◌, get_or}
use Rattle.design_lex.specs.declared.limits.TheConstants.{TOO_WIDE}
use Rattle.design_lex.specs.Digits.{digit_of}
use Rattle.design_lex.specs.DigitSums.{capped, value_more}
use Rattle.design_lex.proofs.digits.capped_width.Goals as goal

pub loop-digit-preserved : goal.loop-digit-preserved
loop-digit-preserved c = record {
  small = omega arith;
  same =
      let e : c.min-front.result ≡ min (c.loop-digit.front * 10 + digit_of (get_or c.args.digits.now c.loop-digit.digit-index 0)) TOO_WIDE = cc in
      rw e (capped (c.loop-digit.front * 10 + digit_of (get_or c.args.digits.now c.loop-digit.digit-index 0)) (drop (c.loop-digit.digit-index + 1) c.args.digits.now) ∙ (ap (min TOO_WIDE) (sym (value_more 10 c.loop-digit.front c.loop-digit.digit-index c.args.digits.now (omega arith))) ∙ c.loop-digit.invariant.same));
}
