use Rattle.std.proofs.Common.{rules, ◌++◌, IsErrOf}
use Rattle.esi_links.specs.Growth.{GrowsByPrefix}
use Rattle.esi_links.specs.declared.stop.OutStop.TheVariants.{Fault, NoMemory}
use Rattle.command_runs.proofs.PieceLemmas.{printed_more, printed_prefix, printed_prefix_on}
use Rattle.command_runs.proofs.printing.print_lines.Goals as goal

pub returns-in_err-print_piece-clause-failed : goal.returns-in_err-print_piece-clause-failed
returns-in_err-print_piece-clause-failed g c =
    let prefix : IsErrOf c.print_piece.result Fault → GrowsByPrefix (g.O.Sink.octets c.args.out.now) (g.O.Sink.octets c.print_piece.new.out) (g.P.Printer.left c.args.lines.now)
    = λ fault. printed_prefix c.loop-piece.invariant.printed (c.print_piece.ensures.failed fault) in
    search rules

pub returns-in_err-print_piece-clause-no_memory : goal.returns-in_err-print_piece-clause-no_memory
returns-in_err-print_piece-clause-no_memory g c =
    let closing = (g.P.Printer.finish c.loop-piece.lines).closing in
    let prefix : IsErrOf c.print_piece.result NoMemory → GrowsByPrefix (g.O.Sink.octets c.args.out.now) (g.O.Sink.octets c.print_piece.new.out) (g.P.Printer.left c.args.lines.now ++ closing)
    = λ lack. printed_prefix_on closing c.loop-piece.invariant.printed (c.print_piece.ensures.no_memory lack) in
    let kept = c.loop-piece.invariant.kept in
    rw (← kept) (search rules)

pub loop-piece-preserved : goal.loop-piece-preserved
loop-piece-preserved g c = record {
  printed = printed_more c.loop-piece.invariant.printed c.in_ok-print_piece.ensures.printed;
  kept = search rules;
  empty = search rules;
  quiet = search rules;
}
