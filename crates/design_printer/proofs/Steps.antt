-- How a printer goes on: tokens after others, the next part of a list, and the tokens of each kind of type and
-- expression.
use Rattle.std.proofs.Common.{◌≡◌, ℕ, zero, suc, ◌+◌, ◌<◌, Bool, true, false, List, [], ◌∷◌, ◌++◌, length, map, take, get_or, refl, ap, sym, ◌∙◌, append-nil, append_assoc, arith}
use Rattle.std.specs.List.{flat_map}
use Rattle.std.specs.Prelude.{nat_eq}
use Rattle.std.proofs.lemmas.List.{map_more, take_more}
use Rattle.std.proofs.lemmas.Bool.{ne_eqb}
use Rattle.std.proofs.lemmas.Grind.{common_steps, flat_map-append}
use Rattle.design_lex.specs.declared.token.Token.{Token}
use Rattle.design_tree.specs.Tokens.{with_commas, COMMA}
use Rattle.design_tree.specs.Equations.{type-Bits, type-Void, type-Struct, type-Array, type-field, expression-Variable, expression-Part, expression-Literal, expression-Make, expression-Cast, expression-Zext, expression-Slice, expression-Not, expression-Binary, expression-Mux}
use Rattle.design_printer.specs.declared.printer.Printer.{Printer}
use Rattle.design_printer.specs.Printers.{with_token, with_tokens, with_tokens-append, with_comma}

-- no part is first where others stand before it
is_none : List (List Token) → Bool
is_none [] = true
is_none (x ∷ xs) = false

with_commas-push : (xs : List (List Token)) (x : List Token) (p : Printer) → with_tokens (with_commas (xs ++ x ∷ [])) p ≡ with_tokens x (with_comma (is_none xs) (with_tokens (with_commas xs) p))
unfolding is_none
with_commas-push [] x p = ap (λ ts. with_tokens ts p) (append-nil x)
with_commas-push (y ∷ ys) x p =
    let c : List Token → List Token = λ z. COMMA ∷ z in
    ap (λ z. with_tokens (y ++ z) p) (flat_map-append c ys (x ∷ []) ∙ ap (λ z. flat_map c ys ++ z) (append-nil (COMMA ∷ x)))
    ∙ ap (λ z. with_tokens z p) (sym (append_assoc y (flat_map c ys) (COMMA ∷ x)))
    ∙ with_tokens-append (y ++ flat_map c ys) (COMMA ∷ x) p

-- the first parts are none where they are 0 in number
none_first : {A : Type 0} (f : A → List Token) (xs : List A) (i : ℕ) → i < length xs → is_none (map f (take i xs)) ≡ nat_eq i 0
unfolding is_none
none_first f xs zero h = refl
none_first f [] (suc i) h = absurd (omega arith)
none_first f (x ∷ xs) (suc i) h = sym (ne_eqb (suc i) 0 (λ e. absurd (omega arith)))

-- one part more, with a comma before it if it is not the first
pub with_commas-more : {A : Type 0} (f : A → List Token) (xs : List A) (i : ℕ) (x : A) (p : Printer) → i < length xs → x ≡ get_or xs i x
    → with_tokens (f x) (with_comma (nat_eq i 0) (with_tokens (with_commas (map f (take i xs))) p)) ≡ with_tokens (with_commas (map f (take (i + 1) xs))) p
with_commas-more f xs i x p h e =
    sym (ap (λ z. with_tokens (with_commas z) p) (map_more f xs i x h)
    ∙ with_commas-push (map f (take i xs)) (f (get_or xs i x)) p
    ∙ ap (λ z. with_tokens (f z) (with_comma (is_none (map f (take i xs))) (with_tokens (with_commas (map f (take i xs))) p))) (sym e)
    ∙ ap (λ b. with_tokens (f x) (with_comma b (with_tokens (with_commas (map f (take i xs))) p))) (none_first f xs i h))

-- one part more, without a comma
pub joined-more : {A : Type 0} (f : A → List Token) (xs : List A) (i : ℕ) (x : A) (p : Printer) → i < length xs → x ≡ get_or xs i x
    → with_tokens (f x) (with_tokens (flat_map f (take i xs)) p) ≡ with_tokens (flat_map f (take (i + 1) xs)) p
joined-more f xs i x p h e =
    sym (ap (λ z. with_tokens (flat_map f z) p) (take_more xs i x h)
    ∙ ap (λ z. with_tokens z p) (flat_map-append f (take i xs) (get_or xs i x ∷ []) ∙ ap (λ z. flat_map f (take i xs) ++ z) (append-nil (f (get_or xs i x))))
    ∙ with_tokens-append (flat_map f (take i xs)) (f (get_or xs i x)) p
    ∙ ap (λ z. with_tokens (f z) (with_tokens (flat_map f (take i xs)) p)) (sym e))

-- one part more, with a comma before each
pub others-more : {A : Type 0} (f : A → List Token) (xs : List A) (i : ℕ) (x : A) (p : Printer) → i < length xs → x ≡ get_or xs i x
    → with_tokens (f x) (with_token COMMA (with_tokens (flat_map (λ y. COMMA ∷ y) (map f (take i xs))) p)) ≡ with_tokens (flat_map (λ y. COMMA ∷ y) (map f (take (i + 1) xs))) p
others-more f xs i x p h e =
    let c : List Token → List Token = λ z. COMMA ∷ z in
    sym (ap (λ z. with_tokens (flat_map c z) p) (map_more f xs i x h)
    ∙ ap (λ z. with_tokens z p) (flat_map-append c (map f (take i xs)) (f (get_or xs i x) ∷ []) ∙ ap (λ z. flat_map c (map f (take i xs)) ++ z) (append-nil (c (f (get_or xs i x)))))
    ∙ with_tokens-append (flat_map c (map f (take i xs))) (c (f (get_or xs i x))) p
    ∙ ap (λ z. with_tokens (c (f z)) (with_tokens (flat_map c (map f (take i xs))) p)) (sym e))

pub ruleset steps = (common_steps, with_tokens-append, with_commas-more, joined-more, others-more, type-Bits, type-Void, type-Struct, type-Array, type-field)

pub ruleset expression_steps = (
  append_assoc,
  append-nil,
  with_tokens-append,
  expression-Variable,
  expression-Part,
  expression-Literal,
  expression-Make,
  expression-Cast,
  expression-Zext,
  expression-Slice,
  expression-Not,
  expression-Binary,
  expression-Mux,
)
