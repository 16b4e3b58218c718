use Rattle.std.proofs.Common.{◌≡◌, take}
use Rattle.std.specs.List.{flat_map}
use Rattle.design_tree.specs.Tokens.{member_tokens}
use Rattle.design_printer.specs.Printers.{with_tokens}
use Rattle.design_printer.proofs.declarations.print_bundle.Given as goal

abbrev pub invariant-loop-member : goal.invariant-loop-member
invariant-loop-member l = l.printer ≡ with_tokens (flat_map member_tokens (take l.member-index l.member-items)) l.initial.printer
