-- the next element of a list after its comma.
use Rattle.std.proofs.Common.{◌≡◌, ℕ, ◌+◌, ◌<◌, Bool, false, List, length, map, take, get_or, arith, ap, sym, ◌∙◌}
use Rattle.std.specs.Prelude.{nat_eq}
use Rattle.std.proofs.lemmas.Bool.{ne_eqb}
use Rattle.design_lex.specs.declared.token.Token.{Token}
use Rattle.design_tree.specs.Tokens.{with_commas}
use Rattle.design_printer.specs.declared.printer.Printer.{Printer}
use Rattle.design_printer.specs.Printers.{with_tokens, with_comma}
use Rattle.design_printer.proofs.Steps.{with_commas-more}

-- a part that others stand before is not the first
not_first : (i : ℕ) → false ≡ nat_eq (i + 1) 0
not_first i = sym (ne_eqb (i + 1) 0 (λ e. absurd (omega arith)))

pub next_listed : {A : Type 0} (f : A → List Token) (xs : List A) (i : ℕ) (x : A) (p here comma next : Printer) (is_first : Bool)
    → next ≡ with_tokens (f x) comma → comma ≡ with_comma is_first here → (is_first ≡ nat_eq i 0) × (here ≡ with_tokens (with_commas (map f (take i xs))) p) → i < length xs → x ≡ get_or xs i x
    → (false ≡ nat_eq (i + 1) 0) × (next ≡ with_tokens (with_commas (map f (take (i + 1) xs))) p)
next_listed f xs i x p here comma next is_first made behind so_far h e =
    let before : with_comma is_first here ≡ with_comma (nat_eq i 0) (with_tokens (with_commas (map f (take i xs))) p) =
    ap (λ b. with_comma b here) so_far.0 ∙ ap (λ q. with_comma (nat_eq i 0) q) so_far.1 in
    (not_first i, made ∙ ap (λ q. with_tokens (f x) q) (behind ∙ before) ∙ with_commas-more f xs i x p h e)
