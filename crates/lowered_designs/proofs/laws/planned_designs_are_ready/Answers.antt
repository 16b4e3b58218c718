use Rattle.lowered_designs.specs.Planned.{planned_are_ready}
use Rattle.lowered_designs.proofs.laws.planned_designs_are_ready.Goals as goal

pub returns : goal.returns
returns c = planned_are_ready c.flat_law.ensures.laid_out c.flat_law.ensures.fits
