use Rattle.std.proofs.Common.{sym, ◌∙◌}
use Rattle.std.proofs.lemmas.Bool.{le-leb}
use Rattle.expression_types.proofs.Widths.{wide_fits}
use Rattle.expression_types.proofs.literals.fits_width.Goals as goal

pub returns-then-width-ge128 : goal.returns-then-width-ge128
returns-then-width-ge128 c = le-leb 128 c.args.width c.if-width-ge128.true ∙ sym (wide_fits c.args.width c.args.value c.ranges.value.fits c.if-width-ge128.true)
