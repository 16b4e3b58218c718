-- A grammar that calls itself, to a depth: an item is a number, or items in brackets, as [1,[2]].
use Rattle.std.proofs.Common.{◌≡◌, ℕ, Bool, true, false, [], ◌∷◌, if◌then◌else◌, ◌==◌, refl, sym, subst, arith, Some, Ok, Err}
use Rattle.ll1_grammar.specs.Lexemes.{Lexemes}
use Rattle.ll1_grammar.specs.Rule.{Rule, Tree, Grammar, ◌⟫◌}
use Rattle.ll1_grammar.specs.Rule.Rule.{one, alt, star, call}
use Rattle.ll1_grammar.specs.Rule.Tree.{leaf, left, node}
use Rattle.ll1_grammar.specs.Kinds.{among}
use Rattle.ll1_grammar.specs.Trees.{In}
use Rattle.ll1_grammar.specs.Trees.In.{in_one, in_left, in_call}
use Rattle.ll1_grammar.specs.Ll1.{Calls}
use Rattle.ll1_grammar.specs.CalledRules.{ClosedCall, closed_calls}
use Rattle.ll1_grammar.specs.WithoutLimits.{no_check}
use Rattle.ll1_grammar.specs.Laws.{Limits, IsLl1, read, Stops, refused_law}
use Rattle.ll1_grammar.specs.Example.{Token, kind, sample, refusal}
use Rattle.ll1_grammar.specs.Example.Token.{opening, closing, number, finish}

-- item = number | "[" item { "," item } "]"
abbrev pub item_body : Rule
item_body = alt (one (4 ∷ [])) (one (1 ∷ []) ⟫ call 0 ⟫ star (one (3 ∷ []) ⟫ call 0) ⟫ one (2 ∷ []))

abbrev pub items : Grammar Token
items = record {
  kind = kind;
  at_end = finish;
  sample = sample;
  calls = 0 ∷ [];
  body = λ n. item_body;
  first_set = λ n. 4 ∷ 1 ∷ [];
  follow_set = λ n. [];
  follow_of = λ n t. [];
  refusal = refusal;
  limit = λ n. 8;
}

pub items_calls : Calls items
items_calls = closed_calls items texts (λ n t k m. m) (λ n c. plainly n (only_item n c))
  where
    only_item : (n : ℕ) → among (0 ∷ []) n ≡ true → n ≡ 0
    only_item n c = of (n == 0) refl c
      where
        of : (b : Bool) → (n == 0) ≡ b → (if b then true else false) ≡ true → n ≡ 0
        of true e d = grind arith
        of false e d = absurd (cc)

    texts : (n : ℕ) → among (0 ∷ []) n ≡ true → (t : Tree Token) × In items (call n) t
    texts n c = (node (left (leaf ((0, 0), number 0))), in_call (in_left (in_one refl)))

    plainly : (n : ℕ) → n ≡ 0 → ClosedCall items n
    plainly n e = subst (λ z. ClosedCall items z) (sym e) (record { plain = (refl, refl); full = refl; itself = refl; begin = refl; closed = (refl, refl) })

pub items_decided : IsLl1 items (call 0)
items_decided = record { known = items_calls; plain = refl }

-- at most so deep
abbrev pub to_depth : ℕ → Limits Token
to_depth d = record { depth = d; checks = λ level. no_check; check = no_check }

-- [[1]]
abbrev pub twice : Lexemes Token
twice = ((0, 1), opening) ∷ ((1, 2), opening) ∷ ((2, 3), number 1) ∷ ((3, 4), closing) ∷ ((4, 5), closing) ∷ []

-- the third item is refused at depth 2, and not at depth 3
pub too_deep : read items (to_depth 2) (call 0) twice ≡ Err (record { number = 8; at = Some 2 })
too_deep = refl

pub deep_enough : (t : Tree Token) × (read items (to_depth 3) (call 0) twice ≡ Ok t)
deep_enough = (_, refl)

-- and the law says of this refusal where the text stops
pub why_too_deep : Stops items (to_depth 2) (call 0) twice (record { number = 8; at = Some 2 })
why_too_deep = refused_law Token items (to_depth 2) (call 0) items_decided twice (record { number = 8; at = Some 2 }) too_deep
