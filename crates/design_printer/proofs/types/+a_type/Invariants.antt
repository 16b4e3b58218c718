use Rattle.std.proofs.Common.{◌≡◌, map, take}
use Rattle.std.specs.Prelude.{nat_eq}
use Rattle.design_tree.specs.Tokens.{field_tokens, with_commas}
use Rattle.design_printer.specs.Printers.{with_tokens}
use Rattle.design_printer.proofs.types.+a_type.Given as goal

abbrev pub invariant-print_type-loop-field : goal.invariant-print_type-loop-field
invariant-print_type-loop-field l = (l.is_first ≡ nat_eq l.field-index 0) × (l.printer ≡ with_tokens (with_commas (map field_tokens (take l.field-index l.field-items))) l.initial.printer)
