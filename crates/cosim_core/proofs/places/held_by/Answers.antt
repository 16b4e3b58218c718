use Rattle.cosim_core.proofs.Registers.{place_at}
use Rattle.cosim_core.proofs.places.held_by.Goals as goal

pub register-requires : goal.register-requires
register-requires c = place_at c.args.sim.now.plan.nets c.args.registers.now c.loop-register.register-index c.requires c.loop-register-test.true
