-- The canonical text of tokens, from the first on: each token with the space before it and the end of the line after it.
use Rattle.std.proofs.Common.{◌≡◌, ℕ, Bool, true, false, not, ◌&&◌, ◌||◌, List, [], ◌∷◌, ◌++◌, refl, ap, sym, ◌∙◌, append-nil, append_assoc, cond}
use Rattle.design_lex.specs.declared.token.Token.{Token}
use Rattle.design_printer.specs.Canonical.{canonical, token_text, line_end, gap, ends_line, no_space_before, no_space_after}
use Rattle.design_printer.specs.Printers.{space, allows_space_after}

-- the text of tokens, where a space may stand before the first of them or may not
unfoldable pub text_from : Bool → List Token → List ℕ
text_from allows_space [] = []
text_from allows_space (t ∷ ts) = space allows_space t ++ (token_text t ++ (line_end t ++ text_from (allows_space_after t) ts))

-- the gap is the end of a line, or a space
gap_is : (t u : Token) → gap t u ≡ line_end t ++ space (allows_space_after t) u
gap_is t u = of (ends_line t) (no_space_after t) (no_space_before u)
  where
    of : (a b c : Bool) → cond {A = List ℕ} a (10 ∷ []) (cond (b || c) [] (32 ∷ [])) ≡ cond a (10 ∷ []) [] ++ cond (not (a || b) && not c) (32 ∷ []) []
    of true b c = refl
    of false true c = refl
    of false false true = refl
    of false false false = refl

canonical_more : (t : Token) (ts : List Token) → canonical (t ∷ ts) ≡ token_text t ++ (line_end t ++ text_from (allows_space_after t) ts)
unfolding text_from
canonical_more t [] = ap (λ z. token_text t ++ z) (sym (append-nil (line_end t)))
canonical_more t (u ∷ ts) =
    ap (λ z. token_text t ++ z)
    (ap (λ g. g ++ canonical (u ∷ ts)) (gap_is t u) ∙ append_assoc (line_end t) (space (allows_space_after t) u) (canonical (u ∷ ts))
    ∙ ap (λ z. line_end t ++ (space (allows_space_after t) u ++ z)) (canonical_more u ts))

-- Before the first token of all no space stands.
pub canonical_from : (ts : List Token) → text_from false ts ≡ canonical ts
unfolding text_from
canonical_from [] = refl
canonical_from (t ∷ ts) = sym (canonical_more t ts)
