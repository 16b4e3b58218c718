use Rattle.std.proofs.Common.{ap, sym, ◌∙◌}
use Rattle.cycle_rules.specs.Lists.{first}
use Rattle.pipe_cells.specs.CellsLast.{word_out-last}
use Rattle.pipe_cells.proofs.row.word_from.Goals as goal

pub returns-in-len1-up : goal.returns-in-len1-up
returns-in-len1-up c =
    c.first.ensures ∙ ap first c.last-item.is ∙ sym (word_out-last c.args.offered c.args.cells.now c.last-item.result c.in-len1-up.len_at_least)
