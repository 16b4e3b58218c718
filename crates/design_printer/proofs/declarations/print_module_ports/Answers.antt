use Rattle.design_tree.specs.Tokens.{module_port_tokens}
use Rattle.design_printer.proofs.Firsts.{next_listed}
use Rattle.design_printer.proofs.declarations.print_module_ports.Goals as goal

pub loop-port-preserved : goal.loop-port-preserved
loop-port-preserved c =
    next_listed module_port_tokens c.args.ports.now c.loop-port.port-index c.port-item.result c.args.printer.now c.loop-port.printer c.print_comma.new.printer c.print_module_port.new.printer c.loop-port.is_first
    c.in_ok-print_module_port.ensures c.in_ok-print_comma.ensures c.loop-port.invariant c.loop-port-test.true c.port-item.is
