use Rattle.std.proofs.Common.{◌≡◌, take}
use Rattle.std.specs.List.{flat_map}
use Rattle.design_tree.specs.Tokens.{suffix_tokens}
use Rattle.design_printer.specs.Printers.{with_tokens}
use Rattle.design_printer.proofs.expressions.print_suffixes.Given as goal

abbrev pub invariant-loop-suffix : goal.invariant-loop-suffix
invariant-loop-suffix l = l.printer ≡ with_tokens (flat_map suffix_tokens (take l.suffix-index l.suffixes)) l.initial.printer
