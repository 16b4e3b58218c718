-- The steps of the readers: which one reads on, the loop over a struct's fields, and what is refused.
use Rattle.std.proofs.Common.{◌≡◌, ℕ, zero, suc, ◌-◌, ◌<◌, ◌==◌, Bool, true, false, if◌then◌else◌, Option, Some, List, [], ◌∷◌, length, Result, Ok, Err, refl, sym, ap, ◌∙◌, subst, arith}
use Rattle.ll1_grammar.specs.Rule.{◌⟫◌}
use Rattle.ll1_grammar.specs.Kinds.{among, first_kind}
use Rattle.ll1_grammar.specs.Lexemes.{Lexemes, first_place}
use Rattle.ll1_grammar.specs.declared.refusal.TokenRefusal.{TokenRefusal}
use Rattle.ll1_grammar.specs.Among.{by_false}
use Rattle.design_lex.specs.Tokens as lex
use Rattle.design_lex.specs.declared.token.Token.{Token}
use Rattle.design_grammar.specs.declared.kind.Kind.TheVariants.{TypeWord, Comma, Void, Struct}
use Rattle.design_grammar.specs.Kinds.{code, word_kind}
use Rattle.design_grammar.specs.RuleNumbers.{rule_number as grammar_number}
use Rattle.design_grammar.specs.declared.rule.GrammarRule.TheVariants.{TooManyOpenTypes}
use Rattle.design_grammar.specs.Grammar.{kind_code, token_grammar, StandsAt}
use Rattle.design_grammar.specs.TokenSteps.{first_is, first_place_is}
use Rattle.channel_types.specs.declared.esi_type.Field.{Field}
use Rattle.design_grammar.specs.Rules.{designs, token, field_rule, type_first_set}
use Rattle.design_grammar.specs.Implementing.{then_implements}
use Rattle.design_grammar.specs.Lists.{one_more, after_comma, Shortens, one_more_shorter, item_shorter}
use Rattle.design_grammar.specs.NextToken.{IsOther, is_other}
use Rattle.channel_types.specs.declared.type_rule.TypeRule.{TypeRule}
use Rattle.channel_types.specs.declared.type_rule.TypeRule.TheVariants.{WidthOutOfRange, RepeatedField}
use Rattle.channel_types.specs.TypeRules.{rule_number, number_or_zero, broken_rule}
use Rattle.channel_types.specs.TypeGrammar.{check_of, type_check, Found}
use Rattle.esi_base.specs.declared.stop.Stop.{Stop}
use Rattle.esi_base.specs.declared.stop.Stop.TheVariants.{Refused}
use Rattle.ll1_grammar.specs.Readers.{Read, Reader, refused, and_then, checked_at}
use Rattle.ll1_grammar.specs.Kinds.{first_token}
use Rattle.design_types.specs.TypeReading.{field, too_deep, type_at, level, array_type}
use Rattle.design_types.specs.TypeLaw.{env, readable, type_implements, field_implements}

-- a field after its comma takes lexemes away, and so does one more of them
field_shorter : (d : ℕ) → Shortens (after_comma (field (type_at d)))
unfolding word_kind
field_shorter d = item_shorter (type_check d) (env d) _ _ (readable d) (token Comma ⟫ field_rule) refl (then_implements (type_check d) (env d) Comma [] refl refl refl (field_implements d (type_implements d (type_check d)))) refl

pub one_more_field_shorter : (d : ℕ) (front : List Field) (ts : Lexemes Token) (u : List Field) (us : Lexemes Token) → one_more (after_comma (field (type_at d))) front ts ≡ Ok (u, us) → length us < length ts
one_more_field_shorter d = one_more_shorter (after_comma (field (type_at d))) (field_shorter d)

-- where no other type begins, an array is read
pub level_array : (inner : Reader Token Found) (ts : Lexemes Token) → IsOther (code TypeWord) ts → IsOther (code Void) ts → IsOther (code Struct) ts → level inner ts ≡ array_type inner ts
unfolding level
level_array inner ts a b c = by_false _ _ _ (is_other (code TypeWord) ts a) ∙ (by_false _ _ _ (is_other (code Void) ts b) ∙ by_false _ _ _ (is_other (code Struct) ts c))

-- where no type begins, the token is refused as where only one of a type may stand
pub too_deep_refused : (ts : Lexemes Token) → among type_first_set (kind_code (lex.first_token ts)) ≡ false → too_deep ts ≡ refused token_grammar (code TypeWord ∷ []) ts
unfolding too_deep
too_deep_refused ts e = by_false _ _ _ (ap (λ t. among type_first_set (kind_code t)) (first_is ts) ∙ e)

-- it is reported at that token, and so is a type that begins there
too_deep_at : (ts : Lexemes Token) → (too_deep ts).at ≡ lex.first_begin ts
unfolding too_deep
too_deep_at ts = of (among type_first_set (first_kind designs ts)) ∙ first_place_is ts
  where
    of : (b : Bool) → (let f : TokenRefusal = if b then record { number = grammar_number TooManyOpenTypes; at = first_place ts } else refused designs (code TypeWord ∷ []) ts in f.at) ≡ first_place ts
    of true = refl
    of false = refl

pub too_deep_stands : (A : Type 0) (ts : Lexemes Token) (stop : Stop TokenRefusal) → stop ≡ Refused (too_deep ts) → let result : Result A (Stop TokenRefusal) = Err stop in StandsAt result ts
too_deep_stands A ts stop e = subst (λ z. let result : Result A (Stop TokenRefusal) = Err z in StandsAt result ts) (sym e) (λ rule. too_deep_at ts)

-- a type that breaks a rule is refused by it, at its first token
pub type_broken : (n : ℕ) (ts : Lexemes Token) (found : Found) (us : Lexemes Token) (rule : TypeRule) (number : ℕ) (at : Option ℕ) → (n ≡ 0 → ⊥) → level (type_at (n - 1)) ts ≡ Ok (found, us)
    → broken_rule found.0 ≡ Some rule → number ≡ rule_number rule → at ≡ lex.first_begin ts → type_at n ts ≡ Err (record { number = number; at = at })
unfolding type_at
type_broken zero ts found us rule number at z l b d a = absurd (z refl)
type_broken (suc n) ts found us rule number at z l b d a =
    ap (λ k. and_then (level (type_at k) ts) (checked_at (λ f. check_of f.0) (first_place ts))) (let e : n ≡ suc n - 1 = omega arith in e)
    ∙ (ap (λ read. and_then read (checked_at (λ f. check_of f.0) (first_place ts))) l
    ∙ (ap (λ o. by (number_or_zero o)) b ∙ (of rule ∙ (ap (λ k. refusal k (first_place ts)) (sym d) ∙ ap (refusal number) (first_place_is ts ∙ sym a)))))
  where
    refusal : ℕ → Option ℕ → Read Token Found
    refusal k p = Err (record { number = k; at = p })

    by : ℕ → Read Token Found
    by k = if k == 0 then Ok (found, us) else Err (record { number = k; at = first_place ts })

    of : (r : TypeRule) → by (rule_number r) ≡ refusal (rule_number r) (first_place ts)
    of WidthOutOfRange = refl
    of RepeatedField = refl
