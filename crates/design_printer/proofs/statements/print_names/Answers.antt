use Rattle.design_tree.specs.Tokens.{single_name}
use Rattle.design_printer.proofs.Firsts.{next_listed}
use Rattle.design_printer.proofs.statements.print_names.Goals as goal

pub loop-name-preserved : goal.loop-name-preserved
loop-name-preserved c =
    next_listed single_name c.args.names.now c.loop-name.name-index c.name-item.result c.args.printer.now c.loop-name.printer c.print_comma.new.printer c.print_name.new.printer c.loop-name.is_first
    c.in_ok-print_name.ensures c.in_ok-print_comma.ensures c.loop-name.invariant c.loop-name-test.true c.name-item.is
