-- What a printer is after more tokens.
use Rattle.std.specs.Prelude.{◌≡◌, ℕ, Bool, not, ◌&&◌, ◌||◌, if◌then◌else◌, List, [], ◌∷◌, ◌++◌, refl}
use Rattle.design_lex.specs.declared.token.Token.{Token}
use Rattle.design_tree.specs.Tokens.{COMMA}
use Rattle.design_printer.specs.Canonical.{token_text, ends_line, no_space_before, no_space_after, line_end}
use Rattle.design_printer.specs.declared.printer.Printer.{Printer}

-- the space before a token, where one may stand
abbrev pub space : Bool → Token → List ℕ
space allows_space t = if allows_space && not (no_space_before t) then 32 ∷ [] else []

-- after this token a space may stand
abbrev pub allows_space_after : Token → Bool
allows_space_after t = not (ends_line t || no_space_after t)

-- one token more
unfoldable pub with_token : Token → Printer → Printer
with_token t p = record { text = p.text ++ (space p.allows_space t ++ (token_text t ++ line_end t)); allows_space = allows_space_after t }

-- tokens more, in order
abbrev pub with_tokens : List Token → Printer → Printer
with_tokens [] p = p
with_tokens (t ∷ ts) p = with_tokens ts (with_token t p)

-- the comma before a part that is not the first
abbrev pub with_comma : Bool → Printer → Printer
with_comma is_first p = if is_first then p else with_token COMMA p

-- tokens after others
pub with_tokens-append : (ts us : List Token) (p : Printer) → with_tokens (ts ++ us) p ≡ with_tokens us (with_tokens ts p)
with_tokens-append [] us p = refl
with_tokens-append (t ∷ ts) us p = with_tokens-append ts us (with_token t p)
