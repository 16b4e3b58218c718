-- What a printer has written of all tokens is their canonical text.
use Rattle.std.proofs.Common.{◌≡◌, false, List, [], ◌∷◌, ◌++◌, refl, ap, sym, ◌∙◌, append-nil, append_assoc}
use Rattle.design_lex.specs.declared.token.Token.{Token}
use Rattle.design_printer.specs.declared.printer.Printer.{Printer}
use Rattle.design_printer.specs.Canonical.{canonical}
use Rattle.design_printer.specs.Printers.{with_token, with_tokens}
use Rattle.design_printer.specs.TextFrom.{text_from, canonical_from}

-- the text of a printer after these tokens
with_tokens-from : (ts : List Token) (p : Printer) → (with_tokens ts p).text ≡ p.text ++ text_from p.allows_space ts
unfolding with_token text_from
with_tokens-from [] p = sym (append-nil p.text)
with_tokens-from (t ∷ ts) p = with_tokens-from ts (with_token t p) ∙ simp append_assoc refl

pub text_is_canonical : (ts : List Token) (p : Printer) → p ≡ record { text = []; allows_space = false } → (with_tokens ts p).text ≡ canonical ts
text_is_canonical ts p e = with_tokens-from ts p ∙ ap (λ (q : Printer). q.text ++ text_from q.allows_space ts) e ∙ canonical_from ts
