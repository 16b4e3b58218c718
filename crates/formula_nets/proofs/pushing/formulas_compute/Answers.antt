use Rattle.formula_nets.specs.MadeLaws.{formulas_do_compute}
use Rattle.formula_nets.proofs.pushing.formulas_compute.Goals as goal

pub returns : goal.returns
returns c = formulas_do_compute
