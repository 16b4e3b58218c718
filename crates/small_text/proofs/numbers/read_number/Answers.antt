use Rattle.std.proofs.Common.{◌∙◌}
use Rattle.small_text.proofs.Digits.{too_large}
use Rattle.small_text.proofs.numbers.read_number.Goals as goal

pub returns-in_err-number : goal.returns-in_err-number
returns-in_err-number c =
    c.from_residual.ensures ∙ too_large c.args.part.now c.args.bound c.loop-digit.number c.loop-digit.digit-index c.loop-digit-test.true c.loop-digit.invariant c.ranges.bound.fits c.in_err-number.ensures
