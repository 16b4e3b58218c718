use Rattle.std.proofs.Common.{length, ap, ◌∙◌, arith}
use Rattle.cycle_rules.specs.PipeSimulation.{simulation_of}
use Rattle.esi_commands.proofs.LineLemmas.{done_pieces, done_length}
use Rattle.esi_commands.proofs.output.done_line.Goals as goal

pub returns-clause-line : goal.returns-clause-line
returns-clause-line c =
    c.in_ok-line.ensures.ok
    ∙ done_pieces _ _ _ _ _ _ c.cycle_count-cycles.ensures c.taken_count-taken.ensures (ap length c.handed.ensures)

pub returns-clause-short : goal.returns-clause-short
returns-clause-short c = done_length (simulation_of c.args.pipe.now) (omega (arith, c.cycle_count-cycles.ensures)) (omega (arith, c.taken_count-taken.ensures)) (omega (arith, ap length c.handed.ensures))
