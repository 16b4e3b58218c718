-- Each refusal of a design text has the number of one of its rules. That of texts that are too long stands at no token.
use Rattle.std.proofs.Common.{◌≡◌, ◌≢◌, ◌==◌, ℕ, zero, suc, Bool, true, false, if◌then◌else◌, List, [], ◌∷◌, refl, sym, subst, arith}
use Rattle.std.specs.Prelude.{Contains, Some, None}
use Rattle.ll1_grammar.specs.Lexemes.{Lexemes}
use Rattle.ll1_grammar.specs.Rule.{Kinds, Rule, Tree}
use Rattle.ll1_grammar.specs.Kinds.{among, first_token}
use Rattle.ll1_grammar.specs.declared.refusal.TokenRefusal.{TokenRefusal}
use Rattle.ll1_grammar.specs.Trees.{Checks, Breaks}
use Rattle.ll1_grammar.specs.Trees.Breaks.{in_first, in_second, on_left, on_right, in_this_turn, in_later_turn, by_call, within_checked, by_check}
use Rattle.ll1_grammar.specs.WithoutLimits.{no_check}
use Rattle.ll1_grammar.specs.Nested.{TooDeep, BreaksInside}
use Rattle.ll1_grammar.specs.Nesting.{Chosen}
use Rattle.ll1_grammar.specs.Texts.{Why}
use Rattle.ll1_grammar.specs.Texts.Why.{no_text, past_limit}
use Rattle.esi_base.specs.declared.place.Refusal.{Refusal}
use Rattle.design_lex.specs.declared.token.LexicalRule.TheVariants.{UnknownOctet, LongWord, BadNumber}
use Rattle.design_lex.specs.declared.token.Token.{Token}
use Rattle.design_lex.specs.declared.token.Token.TheVariants.{Word, TypeWord, Number, Sign, Faulty, End}
use Rattle.design_grammar.specs.declared.rule.GrammarRule.TheVariants.{TooManyOpenTypes, GreatCount, UnexpectedToken, ReservedWord, TooManyOpenExpressions, UnknownVersion}
use Rattle.design_grammar.specs.RuleNumbers.{rule_number as grammar_number}
use Rattle.design_grammar.specs.Kinds.{refusal, unwanted}
use Rattle.design_grammar.specs.Rules.{designs, design_rule}
use Rattle.channel_types.specs.TypeRules.{number_or_zero}
use Rattle.channel_types.specs.declared.type_rule.TypeRule.TheVariants.{WidthOutOfRange, RepeatedField}
use Rattle.channel_types.specs.declared.limits.TheConstants.{OPEN_TYPES}
use Rattle.channel_types.specs.TypeGrammar.{type_check}
use Rattle.channel_types.specs.TypeAnswers.{TypeBreak}
use Rattle.design_expressions.specs.ExpressionTrees.{is_expression, unchecked, BrokenType, ExpressionBreak}
use Rattle.esi_text.specs.declared.rule.DesignRule.TheVariants.{TooLong}
use Rattle.esi_text.specs.Designs.{StopsToBeDesignOfDepth}
use Rattle.esi_text.specs.RuleNumbers.{rule_number, token_numbers, IsDesignNumber}

-- one of the numbers that stand at a token or at the end
record IsReported (number : ℕ) : Type 0 where
  is : among token_numbers number ≡ true

-- a token that does not go on
token_reported : (wanted : Kinds) (found : Token) → IsReported (refusal wanted found)
unfolding unwanted
token_reported wanted found = of found
  where
    by : (a b c : Bool) → IsReported (grammar_number (if a then ReservedWord else (if b then UnknownVersion else (if c then GreatCount else UnexpectedToken))))
    by true b c = record { is = refl }
    by false true c = record { is = refl }
    by false false true = record { is = refl }
    by false false false = record { is = refl }

    of : (found : Token) → IsReported (refusal wanted found)
    of (Word w) = by _ _ _
    of (TypeWord class n) = by _ _ _
    of (Number n) = by _ _ _
    of (Sign b) = by _ _ _
    of (Faulty UnknownOctet) = record { is = refl }
    of (Faulty LongWord) = record { is = refl }
    of (Faulty BadNumber) = record { is = refl }
    of End = record { is = refl }

-- a limit that is broken, where each check and each rule that is called has one of the numbers
break_reported : {check : Checks Token} {bad : ℕ → TokenRefusal → ℕ → Tree Token → Type 0} → ((c : ℕ) (t : Tree Token) → check c t ≢ 0 → IsReported (check c t)) → ((n : ℕ) (f : TokenRefusal) (i : ℕ) (t : Tree Token) → bad n f i t → IsReported f.number)
    → {r : Rule} {f : TokenRefusal} {i : ℕ} {t : Tree Token} → Breaks check bad r f i t → IsReported f.number
break_reported j b (in_first h) = break_reported j b h
break_reported j b (in_second k q h) = break_reported j b h
break_reported j b (on_left h) = break_reported j b h
break_reported j b (on_right h) = break_reported j b h
break_reported j b (in_this_turn h) = break_reported j b h
break_reported j b (in_later_turn k q h) = break_reported j b h
break_reported j b (by_call {n} {f} {i} {t} h) = b n f i t h
break_reported j b (within_checked h) = break_reported j b h
break_reported j b (by_check {c} {t = t} l n q) = subst (λ z. IsReported z.number) (sym q) (j c t n)

-- a type breaks a rule of types or is one too deep, and an expression is one too deep
type_check_reported : (d c : ℕ) (t : Tree Token) → type_check d c t ≢ 0 → IsReported (type_check d c t)
type_check_reported d c t e = by _ _ e
  where
    by : (a b : Bool) → (◌≡◌ {A = ℕ} (number_or_zero (if a then Some WidthOutOfRange else (if b then Some RepeatedField else None))) 0 → ⊥) → IsReported (number_or_zero (if a then Some WidthOutOfRange else (if b then Some RepeatedField else None)))
    by true b e = record { is = refl }
    by false true e = record { is = refl }
    by false false e = absurd (e refl)

limit_reported : (n : ℕ) → IsReported (designs.limit n)
limit_reported n = by (n == 0)
  where
    by : (b : Bool) → IsReported (if b then grammar_number TooManyOpenTypes else grammar_number TooManyOpenExpressions)
    by true = record { is = refl }
    by false = record { is = refl }

too_deep_reported : (n : ℕ) (f : TokenRefusal) (i : ℕ) (t : Tree Token) → TooDeep designs n f i t → IsReported f.number
too_deep_reported n f i t h = subst (λ z. IsReported z.number) (sym h.1) (limit_reported n)

type_break_reported : (d n : ℕ) (f : TokenRefusal) (i : ℕ) (t : Tree Token) → TypeBreak d n f i t → IsReported f.number
type_break_reported zero n f i t h = too_deep_reported n f i t h
type_break_reported (suc d) n f i t h = break_reported (type_check_reported d) (type_break_reported d) h.breaks

expression_break_reported : (d n : ℕ) (f : TokenRefusal) (i : ℕ) (t : Tree Token) → ExpressionBreak d n f i t → IsReported f.number
expression_break_reported zero n f i t h = of (is_expression n) h
  where
    of : (b : Bool) → Chosen b (TooDeep designs n f i t) (BrokenType n f i t) → IsReported f.number
    of true h = too_deep_reported n f i t h
    of false h = type_break_reported OPEN_TYPES n f i t h
expression_break_reported (suc d) n f i t h = of (is_expression n) h (expression_break_reported d)
  where
    of : (b : Bool) → Chosen b (BreaksInside designs (unchecked d) (ExpressionBreak d) n f i t) (BrokenType n f i t) → ((m : ℕ) (g : TokenRefusal) (j : ℕ) (u : Tree Token) → ExpressionBreak d m g j u → IsReported g.number)
        → IsReported f.number
    of true h below = break_reported (λ c t z. absurd (z refl)) below h.breaks
    of false h below = type_break_reported OPEN_TYPES n f i t h

-- so where a text stops to be a design, the number is one of them
stop_reported : (depth : ℕ) (text : List ℕ) (refusal : Refusal) → StopsToBeDesignOfDepth depth text refusal → IsReported refusal.number
stop_reported depth text refusal s = subst (λ z. IsReported z.number) (sym s.is_reported) (of s.stops.rest s.stops.why)
  where
    of : {front : Lexemes Token} (rest : Lexemes Token) {f : TokenRefusal} → Why designs no_check (ExpressionBreak depth) design_rule front rest f → IsReported f.number
    of rest (no_text ks come none is) = subst (λ z. IsReported z.number) (sym is) (token_reported ks (first_token designs rest))
    of rest (past_limit x others is o) = break_reported (λ c t z. absurd (z refl)) (expression_break_reported depth) o.breaks

-- which is not that of a text that is too long,
pub never_too_long : (depth : ℕ) (text : List ℕ) (refusal : Refusal) → StopsToBeDesignOfDepth depth text refusal → refusal.number ≡ rule_number TooLong → ⊥
never_too_long depth text refusal s e = no (subst IsReported e (stop_reported depth text refusal s))
  where
    no : IsReported (rule_number TooLong) → ⊥
    no h = let e : false ≡ true = h.is in absurd (cc)

-- and stands in the list of all that there are
in_list : (ks : List ℕ) (n : ℕ) → among ks n ≡ true → Contains ks n
in_list [] n e = absurd (cc)
in_list (k ∷ ks) n e = of (n == k) refl e (in_list ks n)
  where
    of : (b : Bool) → (n == k) ≡ b → (if b then true else among ks n) ≡ true → (among ks n ≡ true → Contains ks n) → Contains (k ∷ ks) n
    of true q e later = let same : n ≡ k = grind arith in (0, omega arith, sym same)
    of false q e later = let o = later e in (suc o.0, omega (arith, o.1), o.2)

pub stop_has_number : (depth : ℕ) (text : List ℕ) (refusal : Refusal) → StopsToBeDesignOfDepth depth text refusal → IsDesignNumber refusal.number
stop_has_number depth text refusal s = let o = in_list token_numbers refusal.number (stop_reported depth text refusal s).is in (suc o.0, omega (arith, o.1), o.2)

pub too_long_has_number : IsDesignNumber (rule_number TooLong)
too_long_has_number = (0, omega arith, refl)
