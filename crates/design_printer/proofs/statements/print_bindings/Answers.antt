use Rattle.design_tree.specs.Tokens.{binding_tokens}
use Rattle.design_printer.proofs.Firsts.{next_listed}
use Rattle.design_printer.proofs.statements.print_bindings.Goals as goal

pub loop-binding-preserved : goal.loop-binding-preserved
loop-binding-preserved c =
    next_listed binding_tokens c.args.bindings.now c.loop-binding.binding-index c.binding-item.result c.args.printer.now c.loop-binding.printer c.print_comma.new.printer c.print_binding.new.printer c.loop-binding.is_first
    c.in_ok-print_binding.ensures c.in_ok-print_comma.ensures c.loop-binding.invariant c.loop-binding-test.true c.binding-item.is
