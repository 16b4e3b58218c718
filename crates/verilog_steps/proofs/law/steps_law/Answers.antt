use Rattle.verilog_steps.specs.ExactSteps.{steps_are_tokens}
use Rattle.verilog_steps.proofs.law.steps_law.Goals as goal

pub returns : goal.returns
returns c = steps_are_tokens
