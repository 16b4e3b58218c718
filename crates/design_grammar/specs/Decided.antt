-- One token decides the grammar of the design text.
use Rattle.std.proofs.Common.{◌≡◌, ◌==◌, ℕ, Bool, true, false, [], ◌∷◌, if◌then◌else◌, refl, sym, subst, arith}
use Rattle.ll1_grammar.specs.Lexemes.{Lexeme}
use Rattle.ll1_grammar.specs.Rule.{Tree}
use Rattle.ll1_grammar.specs.Rule.Rule.{call}
use Rattle.ll1_grammar.specs.Rule.Tree.{leaf, pair, left, last, node, held}
use Rattle.ll1_grammar.specs.Kinds.{among, inside, first_set, follow_set, follow_of, may_be_empty, is_ll1}
use Rattle.ll1_grammar.specs.Trees.{In, GoesOn}
use Rattle.ll1_grammar.specs.Trees.In.{in_one, in_seq, in_left, in_last, in_call, in_checked}
use Rattle.ll1_grammar.specs.Among.{is_false, true_false}
use Rattle.ll1_grammar.specs.Ll1.{Calls}
use Rattle.ll1_grammar.specs.FollowSets.{bound}
use Rattle.ll1_grammar.specs.CalledRules.{itself_begins}
use Rattle.design_lex.specs.declared.token.Token.{Token}
use Rattle.design_grammar.specs.Kinds.{word_kind}
use Rattle.design_grammar.specs.Grammar.{sample}
use Rattle.design_grammar.specs.Rules.{designs, unended, type_rule, expression_rule, expression_follow_set, design_rule}

-- one of the two rules that are called
by_call : (P : ℕ → Type 0) → P 0 → P 1 → (n : ℕ) → among (0 ∷ 1 ∷ []) n ≡ true → P n
by_call P zeroth first n c = of (n == 0) (n == 1) refl refl c
  where
    of : (a b : Bool) → (n == 0) ≡ a → (n == 1) ≡ b → (if a then true else (if b then true else false)) ≡ true → P n
    of true b e f d = let q : n ≡ 0 = grind arith in subst P (sym q) zeroth
    of false true e f d = let q : n ≡ 1 = grind arith in subst P (sym q) first
    of false false e f d = absurd (cc)

a_text : (n : ℕ) → among (0 ∷ 1 ∷ []) n ≡ true → (t : Tree Token) × In designs (call n) t
unfolding word_kind
a_text n c =
    by_call (λ n. (t : Tree Token) × In designs (call n) t)
    (node (held (left (leaf (sample 2)))), in_call (in_checked (in_left (in_one refl))))
    (node (pair (left (leaf (sample 1))) last), in_call (in_seq (in_left (in_one refl)) in_last)) n c

-- behind an expression nothing else goes on than is said
expression_bound : (t : Tree Token) (k : ℕ) → among (follow_of unended expression_rule t) k ≡ true → among expression_follow_set k ≡ true
expression_bound t k m = again k (bound unended (λ n t k m. absurd (cc)) expression_rule t k m)
  where
    again : (k : ℕ) → among (follow_set unended expression_rule) k ≡ true → among expression_follow_set k ≡ true
    again k m = of (k == 9) (k == 17) (k == 13) m
      where
        of : (a b c : Bool)
            → (if a then true else (if b then true else (if c then true else (if c then true else (if c then true else (if c then true else (if c then true else (if c then true else (if c then true else (if c then true else false)))))))))) ≡ true
            → (if a then true else (if b then true else (if c then true else false))) ≡ true
        of true b c m = refl
        of false true c m = refl
        of false false true m = refl
        of false false false m = m

pub called_bound : (n : ℕ) (t : Tree Token) (k : ℕ) → among (designs.follow_of n t) k ≡ true → among (designs.follow_set n) k ≡ true
called_bound n t k m = of (n == 0) m
  where
    of : (b : Bool) → among (if b then [] else follow_of unended expression_rule (inside t)) k ≡ true → among (if b then [] else expression_follow_set) k ≡ true
    of true m = m
    of false m = expression_bound (inside t) k m

-- nothing goes on behind a type
type_end : (t : Tree Token) (k : ℕ) → among (follow_of designs (call 0) (node t)) k ≡ among (follow_of designs type_rule t) k
type_end t k = sym (is_false _ (λ m. true_false _ (bound designs called_bound type_rule t k m) refl))

plain_bodies : (n : ℕ) → among (0 ∷ 1 ∷ []) n ≡ true → (is_ll1 designs (call n) ≡ true) × (is_ll1 designs (designs.body n) ≡ true)
unfolding word_kind
plain_bodies n c = by_call (λ n. (is_ll1 designs (call n) ≡ true) × (is_ll1 designs (designs.body n) ≡ true)) (refl, refl) (refl, refl) n c

pub designs_calls : Calls designs
designs_calls = record {
  plain = plain_bodies;
  full = λ n c. by_call (λ n. may_be_empty designs (designs.body n) ≡ false) refl refl n c;
  begin = λ n c. by_call (λ n. designs.first_set n ≡ first_set designs (designs.body n)) refl refl n c;
  end = λ n t k c. by_call (λ n. among (follow_of designs (call n) (node t)) k ≡ among (follow_of designs (designs.body n) t) k) (type_end t k) refl n c;
  bound = called_bound;
  text = a_text;
  may_begin = λ n x c m. by_call (λ n. among (designs.first_set n) (designs.kind x.1) ≡ true → GoesOn designs (call n) [] x)
      (λ m. called 0 (itself_begins designs a_text type_rule x (plain_bodies 0 refl).1 refl m))
      (λ m. called 1 (itself_begins designs a_text expression_rule x (plain_bodies 1 refl).1 refl m)) n c m;
}
  where
    called : (n : ℕ) {x : Lexeme Token} → GoesOn designs (designs.body n) [] x → GoesOn designs (call n) [] x
    called n o = record { tree = node o.tree; more = o.more; fits = in_call o.fits; spelled = o.spelled }

-- one token decides the rule of designs
pub is_plain_design : is_ll1 designs design_rule ≡ true
unfolding word_kind
is_plain_design = refl
