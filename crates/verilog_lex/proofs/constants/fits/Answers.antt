use Rattle.verilog_lex.specs.NumberSteps.{number_fits}
use Rattle.verilog_lex.proofs.constants.fits.Goals as goal

pub returns : goal.returns
returns c = rw (c.first_digit-first.ensures, c.first_limit-limit.ensures) (number_fits c.args.width c.args.digits.now c.requires.low c.requires.digits c.requires.count)
