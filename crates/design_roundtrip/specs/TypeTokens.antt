-- A type is written with the tokens of its tree.
use Rattle.std.proofs.Common.{◌≡◌, ℕ, zero, suc, List, [], ◌∷◌, map, codes, refl, sym, ap, ◌∙◌, subst, append_assoc}
use Rattle.std.specs.List.{flat_map}
use Rattle.ll1_grammar.specs.Rule.{Tree}
use Rattle.ll1_grammar.specs.Kinds.{second, inside}
use Rattle.ll1_grammar.specs.Trees.{Fits}
use Rattle.ll1_grammar.specs.Trees.Fits.{fits_seq, fits_left, fits_right, fits_call, fits_checked}
use Rattle.ll1_grammar.specs.Nested.{NodeOf, NoTree, TooDeep, no_level}
use Rattle.ll1_grammar.specs.Nesting.{NestingTree}
use Rattle.ll1_grammar.specs.NestingLaws.{all_own}
use Rattle.ll1_grammar.specs.Bridge.{leaf_by, items}
use Rattle.design_lex.specs.declared.token.Token.{Token}
use Rattle.design_lex.specs.declared.token.Token.TheVariants.{Word}
use Rattle.design_grammar.specs.Grammar.{number_in}
use Rattle.design_grammar.specs.Rules.{designs, a_type, field_rule, struct_rule, array_rule, level_rule, type_rule}
use Rattle.design_grammar.specs.Leaves.{tokens_in, token_written, name_written, count_written, type_word_written}
use Rattle.channel_types.specs.declared.esi_type.Field.{Field}
use Rattle.channel_types.specs.TypeGrammar.{type_check, field_in, struct_in, array_in, level_in, type_of}
use Rattle.channel_types.specs.TypeAnswers.{IsTypeTree}
use Rattle.design_tree.specs.Tokens.{COMMA, LESS, GREATER, type_tokens, field_tokens}
use Rattle.design_tree.specs.Equations.{type-Bits, type-Void, type-Struct, type-Array, type-field}
use Rattle.design_roundtrip.specs.ListTokens.{both, commas_written}

module _ (d : ℕ) (called : ℕ → Tree Token → Type 0) (inner : (t : Tree Token) → called 0 t → tokens_in t ≡ type_tokens (type_of d t).0) where
  call_is : (t : Tree Token) → Fits designs (type_check d) called a_type t → tokens_in t ≡ type_tokens (type_of d t).0
  call_is t (fits_call h) = inner t h

  field_is : (t : Tree Token) → Fits designs (type_check d) called field_rule t → tokens_in t ≡ field_tokens (field_in (type_of d) t)
  field_is t (fits_seq {a = n} {b = u} h (fits_seq {a = c} {b = ty} k l)) =
      both n u _ _ (name_written (type_check d) called n h) (both c ty _ _ (token_written (type_check d) called 7 c refl k) (call_is ty l)) ∙ sym (type-field (field_in (type_of d) t))

  struct_is : (t : Tree Token) → Fits designs (type_check d) called struct_rule t → tokens_in t ≡ type_tokens (struct_in (type_of d) (second (second t))).0
  struct_is t (fits_seq {a = s} {b = u} h (fits_seq {a = l} {b = u2} h2 (fits_seq {a = f} {b = u3} h3 (fits_seq {a = fs} {b = g} h4 h5)))) =
      let fields : List Field = field_in (type_of d) f ∷ items (λ w. field_in (type_of d) (second w)) fs in
      let behind : List Token = flat_map (λ y. COMMA ∷ y) (map field_tokens (items (λ w. field_in (type_of d) (second w)) fs)) in
      both s u _ _ (token_written (type_check d) called 47 s refl h) (both l u2 _ _ (token_written (type_check d) called 15 l refl h2)
      (both f u3 _ _ (field_is f h3) (both fs g _ _ (commas_written (type_check d) called field_rule (field_in (type_of d)) field_tokens (record { of = field_is }) fs h4)
      (token_written (type_check d) called 16 g refl h5))))
      ∙ (ap (λ z. Word (codes "struct") ∷ LESS ∷ z) (sym (append_assoc (field_tokens (field_in (type_of d) f)) behind (GREATER ∷ []))) ∙ sym (type-Struct fields))

  array_is : (t : Tree Token) → Fits designs (type_check d) called array_rule t → tokens_in t ≡ type_tokens (array_in (type_of d) (second (second t))).0
  array_is t (fits_seq {a = s} {b = u} h (fits_seq {a = l} {b = u2} h2 (fits_seq {a = i} {b = u3} h3 (fits_seq {a = c} {b = u4} h4 (fits_seq {a = n} {b = g} h5 h6))))) =
      both s u _ _ (token_written (type_check d) called 48 s refl h) (both l u2 _ _ (token_written (type_check d) called 15 l refl h2) (both i u3 _ _ (call_is i h3)
      (both c u4 _ _ (token_written (type_check d) called 8 c refl h4) (both n g _ _ (count_written (type_check d) called n h5) (token_written (type_check d) called 16 g refl h6)))))
      ∙ sym (type-Array (type_of d i).0 (leaf_by designs (λ x. number_in x.1) n))

  level_is : (t : Tree Token) → Fits designs (type_check d) called level_rule t → tokens_in t ≡ type_tokens (level_in (type_of d) t).0
  level_is t (fits_left {a = a} h) = type_word_written (type_check d) called a h ∙ sym (type-Bits _ _)
  level_is t (fits_right (fits_left {a = a} h)) = token_written (type_check d) called 46 a refl h ∙ sym type-Void
  level_is t (fits_right (fits_right (fits_left {a = a} h))) = struct_is a h
  level_is t (fits_right (fits_right (fits_right {b = b} h))) = array_is b h

  checked_is : (t : Tree Token) → Fits designs (type_check d) called type_rule t → tokens_in t ≡ type_tokens (level_in (type_of d) (inside t)).0
  checked_is t (fits_checked {t = u} h j) = level_is u h

-- at each depth
pub type_is : (d : ℕ) (t : Tree Token) → IsTypeTree d t → tokens_in t ≡ type_tokens (type_of d t).0
type_is zero t h = absurd h
type_is (suc d) t h = of h (type_is d)
  where
    of : NodeOf designs (type_check d) (NestingTree designs all_own type_check (no_level designs) NoTree (TooDeep designs) d) 0 t → ((v : Tree Token) → IsTypeTree d v → tokens_in v ≡ type_tokens (type_of d v).0)
        → tokens_in t ≡ type_tokens (type_of (suc d) t).0
    of o below =
        subst (λ z. tokens_in z ≡ type_tokens (type_of (suc d) z).0) (sym o.is)
        (checked_is d (NestingTree designs all_own type_check (no_level designs) NoTree (TooDeep designs) d) below o.inner o.fits)
