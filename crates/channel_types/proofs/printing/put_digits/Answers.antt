use Rattle.channel_types.proofs.Decimals.{digit_put}
use Rattle.channel_types.proofs.printing.put_digits.Goals as goal

pub loop-rest-preserved : goal.loop-rest-preserved
loop-rest-preserved c =
    digit_put c.args.number c.loop-rest.rest c.loop-rest.at c.loop-rest.digits c.loop-rest.auto.rest-fits.fits c.loop-rest-test.true c.loop-rest.invariant
