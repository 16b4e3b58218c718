use Rattle.verilog_module.specs.MeaningLaws.{runs_are_meant, meanings_are_runs}
use Rattle.verilog_module.proofs.laws.module_meaning_law.Goals as goal

pub returns-clause-runs : goal.returns-clause-runs
returns-clause-runs c = runs_are_meant

pub returns-clause-only : goal.returns-clause-only
returns-clause-only c = meanings_are_runs
