use Rattle.std.proofs.Common.{◌≡◌, ◌≤◌, ◌+◌, ◌*◌, ◌^◌, ℕ, drop, arith, sym, ap, ◌∙◌, subst, get_or, Some}
use Rattle.design_lex.specs.Digits.{value_from, digit_of, value_below}
use Rattle.design_lex.specs.DigitSums.{too_great, value_more, value_ended, small_value, below_some, below_none}
use Rattle.design_lex.proofs.digits.number_value.Goals as goal

pub loop-digit-preserved : goal.loop-digit-preserved
loop-digit-preserved c =
    let b = below_some _ _ _ c.in_ok-front.ensures in
    record {
      small = b.1;
      same = rw b.0 (sym (value_more c.args.base c.loop-digit.front c.loop-digit.digit-index c.args.digits.now (omega arith)) ∙ c.loop-digit.invariant.same);
    }

pub returns-in_err-front : goal.returns-in_err-front
returns-in_err-front c =
    let great : 2 ^ 128 ≤ c.loop-digit.front * c.args.base + digit_of (get_or c.args.digits.now c.loop-digit.digit-index 0) = below_none _ _ c.in_err-front.ensures in
    let all = sym (value_more c.args.base c.loop-digit.front c.loop-digit.digit-index c.args.digits.now (omega arith)) ∙ c.loop-digit.invariant.same in
    c.from_residual.ensures ∙ (too_great c.args.base _ (2 ^ 128) (drop (c.loop-digit.digit-index + 1) c.args.digits.now) c.requires great ∙ ap (value_below (2 ^ 128)) all)

pub returns : goal.returns
returns c =
    let e : value_from c.args.base c.loop-digit.front (drop c.loop-digit.digit-index c.args.digits.now) ≡ c.loop-digit.front = value_ended c.args.base c.loop-digit.front c.loop-digit.digit-index c.args.digits.now (omega arith) in
    let f = sym e ∙ c.loop-digit.invariant.same in
    subst (λ (n : ℕ). Some c.loop-digit.front ≡ value_below (2 ^ 128) n) f (small_value _ _ c.loop-digit.invariant.small)
