use Rattle.std.proofs.Common.{◌≡◌, take}
use Rattle.std.specs.List.{flat_map}
use Rattle.design_tree.specs.Tokens.{declaration_tokens}
use Rattle.design_printer.specs.Printers.{with_tokens}
use Rattle.design_printer.proofs.design.print_declarations.Given as goal

abbrev pub invariant-loop-declaration : goal.invariant-loop-declaration
invariant-loop-declaration l = l.printer ≡ with_tokens (flat_map declaration_tokens (take l.declaration-index l.declarations)) l.initial.printer
