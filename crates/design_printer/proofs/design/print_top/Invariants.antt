use Rattle.std.proofs.Common.{◌≡◌, take}
use Rattle.std.specs.List.{flat_map}
use Rattle.design_tree.specs.Tokens.{top_item_tokens}
use Rattle.design_printer.specs.Printers.{with_tokens}
use Rattle.design_printer.proofs.design.print_top.Given as goal

abbrev pub invariant-loop-item : goal.invariant-loop-item
invariant-loop-item l = l.printer ≡ with_tokens (flat_map top_item_tokens (take l.item-index l.item-items)) l.initial.printer
