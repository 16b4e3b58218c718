use Rattle.std.proofs.Common.{◌≡◌, map, take, ◌∷◌}
use Rattle.std.specs.List.{flat_map}
use Rattle.design_tree.specs.Tokens.{expression_tokens, COMMA}
use Rattle.design_printer.specs.Printers.{with_tokens}
use Rattle.design_printer.proofs.expressions.+an_expression.Given as goal

abbrev pub invariant-print_others-loop-expression : goal.invariant-print_others-loop-expression
invariant-print_others-loop-expression l = l.printer ≡ with_tokens (flat_map (λ y. COMMA ∷ y) (map expression_tokens (take l.expression-index l.expressions))) l.initial.printer
