use Rattle.std.proofs.Common.{length, ap, arith}
use Rattle.cycle_rules.specs.PipeSimulation.{simulation_of}
use Rattle.esi_commands.specs.Output.{done_line}
use Rattle.esi_commands.proofs.LineLemmas.{behind_all, piece_more, piece_last, whole_piece}
use Rattle.esi_commands.proofs.output.SimulationLinesPrinter.next.Goals as goal

pub returns-then-self-handed-clause-piece : goal.returns-then-self-handed-clause-piece
returns-then-self-handed-clause-piece c =
    piece_more (simulation_of c.args.self.now.pipe) c.args.self.now.printed c.args.self.now.is_done c.push_got_lines.new.piece c.in_ok-self.field-0 c.if-self.false
    (behind_all c.push_got_lines.new.piece c.args.self.now.pipe.handed c.args.self.now.printed c.in_ok-self.field-0 (rw c.handed.ensures at c.in_ok-self.ensures.lines))

pub returns-then-not-has_room-clause-piece : goal.returns-then-not-has_room-clause-piece
returns-then-not-has_room-clause-piece c =
    piece_more (simulation_of c.args.self.now.pipe) c.args.self.now.printed c.args.self.now.is_done c.push_got_lines.new.piece c.in_ok-self.field-0 c.if-self.false
    (behind_all c.push_got_lines.new.piece c.args.self.now.pipe.handed c.args.self.now.printed c.in_ok-self.field-0 (rw c.handed.ensures at c.in_ok-self.ensures.lines))

pub returns-clause-piece : goal.returns-clause-piece
returns-clause-piece c =
    whole_piece _ _ c.push_got_lines.new.piece (done_line (simulation_of c.args.self.now.pipe)) c.in_ok-push_done_line.ensures.line
    (piece_last (simulation_of c.args.self.now.pipe) c.args.self.now.printed c.args.self.now.is_done c.push_got_lines.new.piece c.in_ok-self.field-0 c.if-self.false
    (behind_all c.push_got_lines.new.piece c.args.self.now.pipe.handed c.args.self.now.printed c.in_ok-self.field-0 (rw c.handed.ensures at c.in_ok-self.ensures.lines))
    (omega (arith, ap length c.handed-2.ensures)))
