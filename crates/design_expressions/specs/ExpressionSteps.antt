-- The steps of the readers, as code makes them: which way the next token's kind leads, and the loops over suffixes and over
-- the parts of a value that is made.
use Rattle.std.proofs.Common.{◌≡◌, ℕ, zero, ◌-◌, ◌<◌, ◌==◌, true, false, List, [], ◌∷◌, length, suc, Option, Result, Ok, Err, refl, sym, ap, ◌∙◌, arith, subst}
use Rattle.ll1_grammar.specs.Rule.{◌⟫◌}
use Rattle.ll1_grammar.specs.Kinds.{among, first_token, first_lexeme}
use Rattle.ll1_grammar.specs.declared.refusal.TokenRefusal.{TokenRefusal}
use Rattle.ll1_grammar.specs.Among.{by_true, by_false}
use Rattle.ll1_grammar.specs.Readers.{Read, Reader, refused}
use Rattle.ll1_grammar.specs.Lexemes.{Lexemes}
use Rattle.ll1_grammar.specs.WithoutLimits.{no_check}
use Rattle.ll1_grammar.specs.WholeTexts.{ok_value}
use Rattle.design_lex.specs.Tokens as lex
use Rattle.design_lex.specs.declared.token.Token.{Token}
use Rattle.design_grammar.specs.declared.kind.Kind.{Kind}
use Rattle.design_grammar.specs.declared.kind.Kind.TheVariants as K
use Rattle.design_grammar.specs.TokenSteps.{worth_is, first_place_is, fails_with, took_made, any_gives}
use Rattle.design_grammar.specs.Grammar.{kind_code, token_grammar, Named, named_in, operator, AnswersAt}
use Rattle.esi_base.specs.Answers.{StopsAs}
use Rattle.esi_base.specs.declared.stop.Stop.{Stop}
use Rattle.esi_base.specs.declared.stop.Stop.TheVariants.{Refused, NoMemory}
use Rattle.design_grammar.specs.Kinds.{code, kind_of, names, binaries, word_kind}
use Rattle.design_grammar.specs.Rules.{token, an_expression, suffix_rule}
use Rattle.design_grammar.specs.Lists.{one_more, after_comma, Shortens, one_more_shorter, item_shorter}
use Rattle.design_grammar.specs.declared.rule.GrammarRule.TheVariants.{TooManyOpenExpressions}
use Rattle.design_grammar.specs.RuleNumbers.{rule_number}
use Rattle.channel_types.specs.declared.limits.TheConstants.{OPEN_TYPES}
use Rattle.channel_types.specs.TypeGrammar.{type_of}
use Rattle.design_tree.specs.declared.expression.Expression.{Expression}
use Rattle.design_expressions.specs.declared.shapes.Shape.{Shape}
use Rattle.design_expressions.specs.declared.shapes.Shape.TheVariants.{Mux}
use Rattle.design_grammar.specs.NextToken.{IsOther, is_other, comes, comes_not}
use Rattle.design_expressions.specs.ExpressionValues.{variable, binary_of, binary_word_in, expression_of}
use Rattle.design_expressions.specs.ExpressionReading.{binary_word, element, suffix, application, operation, binary, of_bits, base, level, too_deep, expression_at}
use Rattle.design_expressions.specs.ExpressionTrees.{ExpressionTree, ExpressionBreak, expression_env, expression_readable}
use Rattle.design_expressions.specs.ExpressionLaw.{suffix_implements, part_implements, expression_implements, type_within_implements}

-- a part after its comma takes lexemes away, and so does one more of them
part_shorter : (levels : ℕ) → Shortens (after_comma (expression_at levels))
unfolding word_kind
part_shorter levels =
    item_shorter no_check (expression_env levels) (ExpressionTree levels) (ExpressionBreak levels) (expression_readable levels no_check) (token K.Comma ⟫ an_expression) refl
    (part_implements no_check (expression_env levels) (type_of OPEN_TYPES) (type_within_implements levels no_check) (expression_at levels) (expression_of levels) (expression_implements levels no_check)) refl

pub one_more_part_shorter : (levels : ℕ) (front : List Expression) (ts : Lexemes Token) (u : List Expression) (us : Lexemes Token) → one_more (after_comma (expression_at levels)) front ts ≡ Ok (u, us) → length us < length ts
one_more_part_shorter levels = one_more_shorter (after_comma (expression_at levels)) (part_shorter levels)

-- and so does a suffix
pub suffix_shorter : Shortens suffix
unfolding word_kind
suffix_shorter = item_shorter no_check (expression_env 0) (ExpressionTree 0) (ExpressionBreak 0) (expression_readable 0 no_check) suffix_rule refl (suffix_implements no_check (expression_env 0)) refl

pub above_zero : (n : ℕ) → (n ≡ 0 → ⊥) → n ≡ suc (n - 1)
above_zero zero h = absurd (h refl)
above_zero (suc n) h = omega arith

-- one level
pub level_read : (levels below : ℕ) (ts : Lexemes Token) (result : Result Expression (Stop TokenRefusal)) (new : Lexemes Token) → levels ≡ suc below
    → AnswersAt (level (expression_at below) ts) result new → AnswersAt (expression_at levels ts) result new
unfolding expression_at
level_read levels below ts result new s h = subst (λ n. AnswersAt (expression_at n ts) result new) (sym s) h

-- ---- which way the next token's kind leads

pub suffix_element : (ts : Lexemes Token) → IsOther (code K.Dot) ts → suffix ts ≡ element ts
unfolding suffix
suffix_element ts e = by_false _ _ _ (is_other (code K.Dot) ts e)

pub application_variable : (inner : Reader Token Expression) (shape : Shape) (word : Named) (ts : Lexemes Token) → IsOther (code K.OpenParenthesis) ts
    → application inner shape word ts ≡ Ok (variable word, ts)
unfolding application
application_variable inner shape word ts e = by_false _ _ _ (is_other (code K.OpenParenthesis) ts e)

pub base_of_bits : (inner : Reader Token Expression) (ts : Lexemes Token) → IsOther (code K.Name) ts → IsOther (code K.Lit) ts
    → IsOther (code K.Make) ts → IsOther (code K.Cast) ts → base inner ts ≡ of_bits inner ts
unfolding base
base_of_bits inner ts a b c d =
    by_false _ _ _ (is_other (code K.Name) ts a) ∙ (by_false _ _ _ (is_other (code K.Lit) ts b)
    ∙ (by_false _ _ _ (is_other (code K.Make) ts c) ∙ by_false _ _ _ (is_other (code K.Cast) ts d)))

pub of_bits_mux : (inner : Reader Token Expression) (ts : Lexemes Token) → IsOther (code K.Zext) ts → IsOther (code K.Slice) ts
    → IsOther (code K.Not) ts → among binaries (kind_code (lex.first_token ts)) ≡ false → of_bits inner ts ≡ operation inner K.Mux Mux ts
unfolding of_bits
of_bits_mux inner ts a b c d =
    by_false _ _ _ (is_other (code K.Zext) ts a) ∙ (by_false _ _ _ (is_other (code K.Slice) ts b)
    ∙ (by_false _ _ _ (is_other (code K.Not) ts c) ∙ by_false _ _ _ (comes_not binaries ts d)))

pub of_bits_binary : (inner : Reader Token Expression) (ts : Lexemes Token) → IsOther (code K.Zext) ts → IsOther (code K.Slice) ts
    → IsOther (code K.Not) ts → among binaries (kind_code (lex.first_token ts)) ≡ true → of_bits inner ts ≡ binary inner ts
unfolding of_bits
of_bits_binary inner ts a b c d =
    by_false _ _ _ (is_other (code K.Zext) ts a) ∙ (by_false _ _ _ (is_other (code K.Slice) ts b)
    ∙ (by_false _ _ _ (is_other (code K.Not) ts c) ∙ by_true _ _ _ (comes binaries ts d)))

-- where an expression begins that is one too deep
pub deep_reported : (ts : Lexemes Token) (at : Option ℕ) → among names (kind_code (lex.first_token ts)) ≡ true → at ≡ lex.first_begin ts → too_deep ts ≡ Err (record { number = rule_number TooManyOpenExpressions; at = at })
unfolding too_deep
deep_reported ts at e place = by_true _ _ _ (comes names ts e) ∙ ap (λ z. Err (record { number = rule_number TooManyOpenExpressions; at = z })) (first_place_is ts ∙ sym place)

-- and where none begins
pub unwanted_reported : (ts : Lexemes Token) (stop : Stop TokenRefusal) → among names (kind_code (lex.first_token ts)) ≡ false → stop ≡ Refused (refused token_grammar (code K.Name ∷ []) ts) → StopsAs (too_deep ts) stop
unfolding too_deep
unwanted_reported ts stop e d = fails_with (too_deep ts) _ stop (by_false _ _ _ (comes_not names ts e)) d

-- ---- the word of an operator of two operands, by its kind

self_same : (n : ℕ) → (n == n) ≡ true
self_same n = grind arith

word_made : (kind : Kind) (ts : Lexemes Token) → kind ≡ kind_of (lex.first_token ts) → operator kind ts ≡ Ok (named_in (first_lexeme token_grammar ts), lex.others ts)
word_made kind ts k = took_made (code K.Name ∷ []) (code kind) named_in ts (ap (λ z. code z == code kind) (sym k) ∙ self_same (code kind))

pub binary_made : (kind : Kind) (ts us : Lexemes Token) (word : Named) → kind ≡ kind_of (lex.first_token ts) → among binaries (code kind) ≡ true → operator kind ts ≡ Ok (word, us)
    → binary_word ts ≡ Ok ((binary_of kind, word), us)
binary_made kind ts us word k m e =
    let v = ok_value word (named_in (first_lexeme token_grammar ts)) us (lex.others ts) (sym e ∙ word_made kind ts k) in
    any_gives (code K.Name ∷ []) binaries binary_word_in ts us (binary_of kind, word) (ap (λ z. among binaries (code z)) (sym k) ∙ m)
    (ap (λ z. (binary_of z, word)) (k ∙ sym (worth_is kind_of ts)) ∙ ap (λ z. (binary_of (kind_of (first_lexeme token_grammar ts).1), z)) v.0) v.1

ok_no_err : (x : Named × Lexemes Token) (f : TokenRefusal) → let u : Read Token Named = Ok x in let v : Read Token Named = Err f in u ≡ v → ⊥
ok_no_err x f e = absurd (cc)

pub binary_fails : (kind : Kind) (ts : Lexemes Token) (stop : Stop TokenRefusal) → kind ≡ kind_of (lex.first_token ts) → StopsAs (operator kind ts) stop → StopsAs (binary_word ts) stop
binary_fails kind ts (Refused f) k e = absurd (ok_no_err (named_in (first_lexeme token_grammar ts), lex.others ts) f (sym (word_made kind ts k) ∙ e))
binary_fails kind ts NoMemory k e = tt
