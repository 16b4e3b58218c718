use Rattle.std.proofs.Common.{◌≡◌, map, take}
use Rattle.std.specs.Prelude.{nat_eq}
use Rattle.design_tree.specs.Tokens.{module_port_tokens, with_commas}
use Rattle.design_printer.specs.Printers.{with_tokens}
use Rattle.design_printer.proofs.declarations.print_module_ports.Given as goal

abbrev pub invariant-loop-port : goal.invariant-loop-port
invariant-loop-port l = (l.is_first ≡ nat_eq l.port-index 0) × (l.printer ≡ with_tokens (with_commas (map module_port_tokens (take l.port-index l.ports))) l.initial.printer)
