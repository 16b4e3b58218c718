use Rattle.std.proofs.Common.{◌≡◌, map, take}
use Rattle.std.specs.Prelude.{nat_eq}
use Rattle.design_tree.specs.Tokens.{binding_tokens, with_commas}
use Rattle.design_printer.specs.Printers.{with_tokens}
use Rattle.design_printer.proofs.statements.print_bindings.Given as goal

abbrev pub invariant-loop-binding : goal.invariant-loop-binding
invariant-loop-binding l = (l.is_first ≡ nat_eq l.binding-index 0) × (l.printer ≡ with_tokens (with_commas (map binding_tokens (take l.binding-index l.bindings))) l.initial.printer)
