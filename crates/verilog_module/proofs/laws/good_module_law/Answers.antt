use Rattle.verilog_module.specs.GoodLaws.{modules_are_good}
use Rattle.verilog_module.proofs.laws.good_module_law.Goals as goal

pub returns : goal.returns
returns c = modules_are_good
