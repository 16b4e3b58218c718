use Rattle.lowered_modules.specs.Whole.{interfaces_are_lowered, lowered_modules_are_good}
use Rattle.lowered_modules.proofs.laws.lowered_interfaces_law.Goals as goal

pub returns-clause-interface : goal.returns-clause-interface
returns-clause-interface c = interfaces_are_lowered

pub returns-clause-good : goal.returns-clause-good
returns-clause-good c = lowered_modules_are_good
