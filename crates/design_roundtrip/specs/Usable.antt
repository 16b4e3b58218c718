-- No tree of a design has a fault or a type word above the widest type.
use Rattle.std.proofs.Common.{◌≡◌, ◌==◌, ◌&&◌, ◌≤◌, not, ℕ, zero, suc, Bool, true, false, if◌then◌else◌, [], ◌++◌, map, refl, sym, subst, arith}
use Rattle.std.specs.Prelude.{All}
use Rattle.std.proofs.lemmas.List.{map-append}
use Rattle.std.proofs.lemmas.List.Elements.{All-nil, All-cons, All-append}
use Rattle.ll1_grammar.specs.Lexemes.{Lexeme, Lexemes}
use Rattle.ll1_grammar.specs.Rule.{Kinds, Rule, Tree}
use Rattle.ll1_grammar.specs.Rule.Rule.{empty, one, seq, alt, star, call, checked}
use Rattle.ll1_grammar.specs.Kinds.{among, spell}
use Rattle.ll1_grammar.specs.Trees.{Checks, Fits}
use Rattle.ll1_grammar.specs.Trees.Fits.{fits_empty, fits_one, fits_seq, fits_left, fits_right, fits_last, fits_turn, fits_call, fits_checked}
use Rattle.ll1_grammar.specs.Among.{and_true, not_true, true_false}
use Rattle.ll1_grammar.specs.Nested.{NodeOf, NoTree, TooDeep, no_level}
use Rattle.ll1_grammar.specs.Nesting.{Chosen, NestingTree}
use Rattle.ll1_grammar.specs.NestingLaws.{all_own}
use Rattle.design_lex.specs.declared.token.Token.{Token}
use Rattle.design_lex.specs.declared.token.Token.TheVariants.{Word, TypeWord, Number, Sign, Faulty, End}
use Rattle.design_grammar.specs.Grammar.{kind_code, width_in}
use Rattle.design_grammar.specs.Rules.{designs, level_rule, type_rule, expression_rule, design_rule}
use Rattle.channel_types.specs.declared.esi_type.EsiType.TheVariants as V
use Rattle.channel_types.specs.declared.esi_type.EsiType.TheVariants.{outs-Bits}
use Rattle.channel_types.specs.declared.esi_type.EsiType.TheOpen.{EsiType-F}
use Rattle.channel_types.specs.declared.esi_type.EsiType.TheViews.{out-EsiType}
use Rattle.channel_types.specs.Types.{level_names, IsLevel}
use Rattle.channel_types.specs.TypeRuleLaws.{level_of_unbroken}
use Rattle.channel_types.specs.declared.limits.TheConstants.{OPEN_TYPES}
use Rattle.channel_types.specs.TypeGrammar.{check_of, level_in, type_of, type_check}
use Rattle.design_expressions.specs.ExpressionTrees.{is_expression, unchecked, TypeTree, ExpressionTree}
use Rattle.design_grammar.specs.Names.{IsName}
use Rattle.design_printer.specs.TextTokens.{IsUsable}

abbrev pub AreUsable : Lexemes Token → Type 0
AreUsable ts = All IsUsable (map (λ x. x.1) ts)

-- neither a fault nor a type word is among the kinds
abbrev are_plain : Kinds → Bool
are_plain ks = not (among ks 0) && not (among ks 2)

-- nor in the rule, apart from the rules that it calls
abbrev has_plain : Rule → Bool
has_plain empty = true
has_plain (one ks) = are_plain ks
has_plain (seq r s) = has_plain r && has_plain s
has_plain (alt r s) = has_plain r && has_plain s
has_plain (star r) = has_plain r
has_plain (call n) = true
has_plain (checked c r) = has_plain r

token_usable : (ks : Kinds) (x : Token) → are_plain ks ≡ true → among ks (kind_code x) ≡ true → IsUsable x
token_usable ks (Word w) p m = tt
token_usable ks (TypeWord class width) p m = absurd (true_false _ m (not_true _ (and_true _ _ p).1))
token_usable ks (Number n) p m = tt
token_usable ks (Sign b) p m = tt
token_usable ks (Faulty f) p m = absurd (true_false _ m (not_true _ (and_true _ _ p).0))
token_usable ks End p m = absurd (true_false _ m (not_true _ (and_true _ _ p).0))

joined : (a b : Lexemes Token) → AreUsable a → AreUsable b → AreUsable (a ++ b)
joined a b h k = subst (λ z. All IsUsable z) (sym (map-append (λ x. x.1) a b)) (All-append IsUsable (map (λ x. x.1) a) (map (λ x. x.1) b) h k)

module _ (check : Checks Token) (called : ℕ → Tree Token → Type 0) (called_usable : (n : ℕ) (t : Tree Token) → called n t → AreUsable (spell t)) where
  rule_usable : {r : Rule} {t : Tree Token} → Fits designs check called r t → has_plain r ≡ true → AreUsable (spell t)
  rule_usable fits_empty p = All-nil IsUsable
  rule_usable (fits_one {ks = ks} {x = x} m) p = All-cons IsUsable x.1 [] (token_usable ks x.1 p m) (All-nil IsUsable)
  rule_usable (fits_seq {a = a} {b = b} h k) p = let q = and_true _ _ p in joined (spell a) (spell b) (rule_usable h q.0) (rule_usable k q.1)
  rule_usable (fits_left h) p = rule_usable h (and_true _ _ p).0
  rule_usable (fits_right h) p = rule_usable h (and_true _ _ p).1
  rule_usable fits_last p = All-nil IsUsable
  rule_usable (fits_turn {a = a} {t = t} h k) p = joined (spell a) (spell t) (rule_usable h p) (rule_usable k p)
  rule_usable (fits_call {n = n} {t = t} h) p = called_usable n t h
  rule_usable (fits_checked h e) p = rule_usable h p

-- ---- types

-- a type word of a good type
bits_usable : (x : Lexeme Token) → kind_code x.1 ≡ 2 → check_of (V.Bits (width_in x.1).0 (width_in x.1).1) ≡ 0 → IsUsable x.1
bits_usable ((b, e), Word w) k j = tt
bits_usable ((b, e), TypeWord class width) k j = narrow (level_of_unbroken (V.Bits class width) j (subst (λ z. All IsName (level_names z)) (sym (outs-Bits class width)) (All-nil IsName)))
  where
    narrow : IsLevel (out-EsiType (V.Bits class width)) → width ≤ 1024
    narrow level = of (subst IsLevel (outs-Bits class width) level)
      where
        of : IsLevel (EsiType-F.Bits class width) → width ≤ 1024
        of level = level.high
bits_usable ((b, e), Number n) k j = tt
bits_usable ((b, e), Sign s) k j = tt
bits_usable ((b, e), Faulty f) k j = absurd (cc)
bits_usable ((b, e), End) k j = absurd (cc)

type_level_usable : (d : ℕ) (called : ℕ → Tree Token → Type 0) → ((n : ℕ) (t : Tree Token) → called n t → AreUsable (spell t)) → (t : Tree Token) → Fits designs (type_check d) called level_rule t
    → check_of (level_in (type_of d) t).0 ≡ 0 → AreUsable (spell t)
type_level_usable d called below t (fits_left (fits_one {x = x} m)) j = All-cons IsUsable x.1 [] (of (kind_code x.1 == 2) refl m) (All-nil IsUsable)
  where
    of : (b : Bool) → (kind_code x.1 == 2) ≡ b → (if b then true else false) ≡ true → IsUsable x.1
    of true e m = bits_usable x (grind arith) j
    of false e m = absurd (cc)
type_level_usable d called below t (fits_right h) j = rule_usable (type_check d) called below h refl

type_rule_usable : (d : ℕ) (called : ℕ → Tree Token → Type 0) → ((n : ℕ) (t : Tree Token) → called n t → AreUsable (spell t)) → (t : Tree Token) → Fits designs (type_check d) called type_rule t → AreUsable (spell t)
type_rule_usable d called below t (fits_checked {t = u} h j) = type_level_usable d called below u h j

-- the two rules that are called, to each depth of types
types_usable : (d n : ℕ) (t : Tree Token) → NestingTree designs all_own type_check (no_level designs) NoTree (TooDeep designs) d n t → AreUsable (spell t)
types_usable zero n t h = absurd h
types_usable (suc d) n t h = of (n == 0) h (types_usable d)
  where
    Below : ℕ → Tree Token → Type 0
    Below = NestingTree designs all_own type_check (no_level designs) NoTree (TooDeep designs) d

    body : (b : Bool) (u : Tree Token) → Fits designs (type_check d) Below (if b then type_rule else expression_rule) u → ((m : ℕ) (v : Tree Token) → Below m v → AreUsable (spell v)) → AreUsable (spell u)
    body true u f below = type_rule_usable d Below below u f
    body false u f below = rule_usable (type_check d) Below below f refl

    of : (b : Bool) → NodeOf designs (type_check d) Below n t → ((m : ℕ) (v : Tree Token) → Below m v → AreUsable (spell v)) → AreUsable (spell t)
    of b o below = subst (λ z. AreUsable (spell z)) (sym o.is) (body (n == 0) o.inner o.fits below)

-- and of expressions
expressions_usable : (d n : ℕ) (t : Tree Token) → ExpressionTree d n t → AreUsable (spell t)
expressions_usable zero n t h = of (is_expression n) h
  where
    of : (b : Bool) → Chosen b (NoTree n t) (TypeTree n t) → AreUsable (spell t)
    of true k = absurd k
    of false k = types_usable OPEN_TYPES n t k
expressions_usable (suc d) n t h = of (is_expression n) refl h (expressions_usable d)
  where
    body : (b : Bool) → b ≡ false → (u : Tree Token) → Fits designs (unchecked d) (ExpressionTree d) (if b then type_rule else expression_rule) u → ((m : ℕ) (v : Tree Token) → ExpressionTree d m v → AreUsable (spell v)) → AreUsable (spell u)
    body true e u f below = absurd (cc)
    body false e u f below = rule_usable (unchecked d) (ExpressionTree d) below f refl

    no_type : is_expression n ≡ true → (n == 0) ≡ false
    no_type e = of_zero (n == 0) refl
      where
        of_zero : (b : Bool) → (n == 0) ≡ b → b ≡ false
        of_zero true d = absurd (grind arith)
        of_zero false d = refl

    of : (b : Bool) → is_expression n ≡ b → Chosen b (NodeOf designs (unchecked d) (ExpressionTree d) n t) (TypeTree n t) → ((m : ℕ) (v : Tree Token) → ExpressionTree d m v → AreUsable (spell v)) → AreUsable (spell t)
    of true e o below = subst (λ z. AreUsable (spell z)) (sym o.is) (body (n == 0) (no_type e) o.inner o.fits below)
    of false e k below = types_usable OPEN_TYPES n t k

-- so no tree of a design has one
pub design_usable : (levels : ℕ) (check : Checks Token) (t : Tree Token) → Fits designs check (ExpressionTree levels) design_rule t → AreUsable (spell t)
design_usable levels check t h = rule_usable check (ExpressionTree levels) (expressions_usable levels) h refl
