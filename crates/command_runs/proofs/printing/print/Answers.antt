use Rattle.std.proofs.Common.{◌∙◌}
use Rattle.command_runs.specs.Outside.{sink_view}
use Rattle.command_runs.proofs.PieceLemmas.{ends_made, ends_unmade}
use Rattle.command_runs.proofs.printing.print.Goals as goal

pub returns-in-Ok-finish-clause-ends : goal.returns-in-Ok-finish-clause-ends
returns-in-Ok-finish-clause-ends g c =
    ends_made _ (sink_view (g.O.Sink.octets c.print_lines.new.out) (g.O.Sink.faults c.print_lines.new.out)) _ _ _ c.in-Ok-finish.finish _ _
    c.in-Ok.ensures.quiet c.in-Ok.ensures.whole (c.in-Ok-finish.ensures.made ∙ c.in-Ok.ensures.kept) c.print_closing.ensures.ends

pub returns-in-Ok-clause-ends : goal.returns-in-Ok-clause-ends
returns-in-Ok-clause-ends g c =
    rw c.without_report.ensures (ends_unmade _ _ _ (g.P.Printer.finish c.args.lines) c.in-Ok.ensures.quiet c.in-Ok.ensures.whole (rw c.in-Ok.ensures.kept at c.in-Err.ensures.some))
