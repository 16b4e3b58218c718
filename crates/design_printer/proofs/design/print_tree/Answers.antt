use Rattle.std.proofs.Common.{◌≡◌, ℕ, List, map, ap, ◌∙◌}
use Rattle.std.specs.Prelude.{codes}
use Rattle.design_lex.specs.declared.token.Token.TheVariants.{Word, Number}
use Rattle.design_tree.specs.Tokens.{tokens_after_version, tokens_of, SEMICOLON}
use Rattle.design_printer.specs.declared.printer.Printer.{Printer}
use Rattle.design_lex.specs.Tokens.{tokens}
use Rattle.design_printer.specs.Canonical.{canonical}
use Rattle.design_printer.specs.CutAgain.{token_in, canonical_tokens}
use Rattle.design_printer.specs.Printers.{with_token, with_tokens}
use Rattle.design_printer.proofs.Texts.{text_is_canonical}
use Rattle.design_printer.proofs.design.print_tree.Goals as goal

pub returns : goal.returns
returns c =
    let version : c.sign.new.self ≡ with_token SEMICOLON (with_token (Number 1) (with_token (Word (codes "esi")) c.new-printer.result)) =
    c.in_ok-sign.ensures ∙ ap (λ (p : Printer). with_token SEMICOLON p) (c.in_ok-number.ensures ∙ ap (λ (p : Printer). with_token (Number 1) p) c.in_ok-keyword.ensures) in
    let all : c.print_after_version.new.printer ≡ with_tokens (tokens_of c.args.tree.now) c.new-printer.result = c.in_ok-print_after_version.ensures ∙ ap (λ (p : Printer). with_tokens (tokens_after_version c.args.tree.now) p) version in
    let text : c.print_after_version.new.printer.text ≡ canonical (tokens_of c.args.tree.now) = ap (λ (p : Printer). p.text) all ∙ text_is_canonical (tokens_of c.args.tree.now) c.new-printer.result c.new-printer.ensures in
    record {
      text = text;
      again = λ good. ap (λ (z : List ℕ). map token_in (tokens z 0)) text ∙ canonical_tokens (tokens_of c.args.tree.now) good;
    }
