-- The tokens of pairs, of repetitions and of lists with commas.
use Rattle.std.proofs.Common.{◌≡◌, ℕ, List, ◌∷◌, ◌++◌, map, refl, ap, ◌∙◌}
use Rattle.std.specs.List.{flat_map}
use Rattle.std.proofs.lemmas.List.{map-append}
use Rattle.ll1_grammar.specs.Rule.{Rule, Tree, ◌⟫◌}
use Rattle.ll1_grammar.specs.Rule.Rule.{star}
use Rattle.ll1_grammar.specs.Rule.Tree.{pair, turn}
use Rattle.ll1_grammar.specs.Kinds.{spell, first, second}
use Rattle.ll1_grammar.specs.Trees.{Checks, Fits}
use Rattle.ll1_grammar.specs.Trees.Fits.{fits_seq, fits_last, fits_turn}
use Rattle.ll1_grammar.specs.Bridge.{items}
use Rattle.design_lex.specs.declared.token.Token.{Token}
use Rattle.design_grammar.specs.declared.kind.Kind.TheVariants as K
use Rattle.design_grammar.specs.Rules.{designs, token, listed as listed_rule}
use Rattle.design_grammar.specs.Leaves.{tokens_in, tokens_pair, token_written}
use Rattle.design_tree.specs.Tokens.{COMMA, with_commas}

-- the tokens of a pair, where those of its parts are known,
pub both : (a b : Tree Token) (x y : List Token) → tokens_in a ≡ x → tokens_in b ≡ y → tokens_in (pair a b) ≡ x ++ y
both a b x y e f = tokens_pair a b ∙ (ap (λ z. z ++ tokens_in b) e ∙ ap (λ z. x ++ z) f)

-- and those of a turn and the later ones
pub one_turn : (a b : Tree Token) (x y : List Token) → tokens_in a ≡ x → tokens_in b ≡ y → tokens_in (turn a b) ≡ x ++ y
one_turn a b x y e f = map-append (λ z. z.1) (spell a) (spell b) ∙ (ap (λ z. z ++ tokens_in b) e ∙ ap (λ z. x ++ z) f)

module _ (check : Checks Token) (called : ℕ → Tree Token → Type 0) where
  -- a rule is written with these tokens of its trees' values
  pub record WrittenAs {A : Type 0} (r : Rule) (value : Tree Token → A) (written : A → List Token) : Type 0 where
    pub of : (t : Tree Token) → Fits designs check called r t → tokens_in t ≡ written (value t)

  -- so is each of its turns,
  pub turns_written : {A : Type 0} (r : Rule) (value : Tree Token → A) (written : A → List Token) → WrittenAs r value written → (t : Tree Token) → Fits designs check called (star r) t
      → tokens_in t ≡ flat_map written (items value t)
  turns_written r value written w t fits_last = refl
  turns_written r value written w t (fits_turn {a = a} {t = u} h k) = one_turn a u _ _ (w.of a h) (turns_written r value written w u k)

  -- and each after a comma
  pub commas_written : {A : Type 0} (r : Rule) (value : Tree Token → A) (written : A → List Token) → WrittenAs r value written → (t : Tree Token) → Fits designs check called (star (token K.Comma ⟫ r)) t
      → tokens_in t ≡ flat_map (λ y. COMMA ∷ y) (map written (items (λ w. value (second w)) t))
  commas_written r value written w t fits_last = refl
  commas_written r value written w t (fits_turn {a = a} {t = u} h k) = one_turn a u _ _ (behind a h) (commas_written r value written w u k)
    where
      behind : (b : Tree Token) → Fits designs check called (token K.Comma ⟫ r) b → tokens_in b ≡ COMMA ∷ written (value (second b))
      behind b (fits_seq {a = c} {b = d} m n) = both c d _ _ (token_written check called 8 c refl m) (w.of d n)

  -- one or more with commas between them
  pub with_commas_written : {A : Type 0} (r : Rule) (value : Tree Token → A) (written : A → List Token) → WrittenAs r value written → (t : Tree Token) → Fits designs check called (listed_rule r) t
      → tokens_in t ≡ with_commas (map written (value (first t) ∷ items (λ w. value (second w)) (second t)))
  with_commas_written r value written w t (fits_seq {a = a} {b = b} h k) = both a b _ _ (w.of a h) (commas_written r value written w b k)
