-- What was printed so far, and what is left, are all.
use Rattle.std.proofs.Common.{◌≡◌, [], length}
use Rattle.command_runs.specs.Pieces.{PrintsSome}
use Rattle.command_runs.proofs.printing.print_lines.Given as goal

abbrev pub invariant-loop-piece : goal.invariant-loop-piece
invariant-loop-piece g l = record {
  printed : PrintsSome (g.O.Sink.octets l.fn.out) (g.O.Sink.octets l.out) (g.P.Printer.left l.fn.lines) (g.P.Printer.left l.lines);
  kept : g.P.Printer.finish l.lines ≡ g.P.Printer.finish l.fn.lines;
  empty : l.piece ≡ [];
  quiet : g.O.Sink.faults l.out ≡ g.O.Sink.faults l.fn.out;
}

abbrev pub decreases-loop-piece : goal.decreases-loop-piece
decreases-loop-piece g l = length (g.P.Printer.left l.lines)
