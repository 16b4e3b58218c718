use Rattle.std.proofs.Common.{ap, sym, ◌∙◌}
use Rattle.design_tree.specs.declared.top.TopItem.{TopItem}
use Rattle.design_tree.specs.Tokens.{top_item_tokens, name_token, SEMICOLON}
use Rattle.design_printer.specs.declared.printer.Printer.{Printer}
use Rattle.design_printer.specs.Printers.{with_token, with_tokens}
use Rattle.design_printer.proofs.design.print_top_item.Goals as goal

pub returns-in_ok-sign-in-Implement : goal.returns-in_ok-sign-in-Implement
returns-in_ok-sign-in-Implement c =
    c.in_ok-sign-in-Implement.ensures
    ∙ ap (λ (p : Printer). with_token SEMICOLON p) (c.in_ok-print_name-in-Implement.ensures ∙ ap (λ (p : Printer). with_token (name_token c.in-Implement.service) p) c.in_ok-keyword-in-Implement.ensures)
    ∙ ap (λ (b : TopItem). with_tokens (top_item_tokens b) c.args.printer.now) (sym c.in-Implement.is)
