use Rattle.std.proofs.Common.{◌≡◌, map, take}
use Rattle.std.specs.Prelude.{nat_eq}
use Rattle.design_tree.specs.Tokens.{single_name, with_commas}
use Rattle.design_printer.specs.Printers.{with_tokens}
use Rattle.design_printer.proofs.statements.print_names.Given as goal

abbrev pub invariant-loop-name : goal.invariant-loop-name
invariant-loop-name l = (l.is_first ≡ nat_eq l.name-index 0) × (l.printer ≡ with_tokens (with_commas (map single_name (take l.name-index l.names))) l.initial.printer)
