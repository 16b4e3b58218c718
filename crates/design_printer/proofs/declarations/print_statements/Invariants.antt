use Rattle.std.proofs.Common.{◌≡◌, take}
use Rattle.std.specs.List.{flat_map}
use Rattle.design_tree.specs.Tokens.{statement_tokens}
use Rattle.design_printer.specs.Printers.{with_tokens}
use Rattle.design_printer.proofs.declarations.print_statements.Given as goal

abbrev pub invariant-loop-statement : goal.invariant-loop-statement
invariant-loop-statement l = l.printer ≡ with_tokens (flat_map statement_tokens (take l.statement-index l.statements)) l.initial.printer
