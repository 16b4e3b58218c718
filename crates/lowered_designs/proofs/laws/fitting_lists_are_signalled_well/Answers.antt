use Rattle.lowered_designs.specs.Signals.{fitting_lists_signal}
use Rattle.lowered_designs.proofs.laws.fitting_lists_are_signalled_well.Goals as goal

pub returns : goal.returns
returns c = fitting_lists_signal
