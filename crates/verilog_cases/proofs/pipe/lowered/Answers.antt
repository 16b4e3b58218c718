use Rattle.verilog_cases.specs.Pipes.{one_stage_fits}
use Rattle.verilog_cases.proofs.pipe.lowered.Goals as goal

pub lower-requires : goal.lower-requires
lower-requires c = one_stage_fits c.in_ok-flat.flat c.args.width c.in_ok-flat.ensures c.requires.low c.requires.high
