-- The readers of one token read what the rules of one token do, in every grammar's reader of designs; and the refusals that
-- they tell are those by all the kinds that may stand there.
use Rattle.std.proofs.Common.{◌≡◌, ◌==◌, ◌&&◌, ◌||◌, not, ℕ, Bool, true, false, if◌then◌else◌, [], ◌∷◌, ◌++◌, nat_lt, ⊎_elim, refl, sym, ap, ◌∙◌, arith, Ok, Err}
use Rattle.std.specs.List.{list_all}
use Rattle.ll1_grammar.specs.Lexemes.{Lexeme, Lexemes}
use Rattle.ll1_grammar.specs.Rule.{Kinds, Rule, Tree, ◌⟫◌}
use Rattle.ll1_grammar.specs.Kinds.{among, second, follow_set, follow_of, behind, within, may_be_empty, is_bare}
use Rattle.ll1_grammar.specs.Trees.{Checks}
use Rattle.ll1_grammar.specs.Parse.{Answer, Parser, parse}
use Rattle.ll1_grammar.specs.Among.{is_false, true_false, and_true, not_true, among_either, among_none, within_bound, when_in}
use Rattle.ll1_grammar.specs.FollowSets.{bound}
use Rattle.ll1_grammar.specs.Readers.{Reader, pure, ◌>>◌, take_token, take_any_token}
use Rattle.ll1_grammar.specs.Bridge.{Implements, AreReported, read_of, reported_so, leaf_by, take_token_implements, take_any_implements, map_implements, seq_implements}
use Rattle.design_lex.specs.declared.token.Token.{Token}
use Rattle.design_lex.specs.declared.token.Token.TheVariants.{Word, TypeWord as WidthWord, Number, Sign, Faulty, End}
use Rattle.design_grammar.specs.declared.rule.GrammarRule.TheVariants.{UnexpectedToken, ReservedWord}
use Rattle.design_grammar.specs.RuleNumbers.{rule_number}
use Rattle.design_grammar.specs.declared.kind.Kind.{Kind}
use Rattle.design_grammar.specs.declared.kind.Kind.TheVariants.{Name, TypeWord, One, Small, Great}
use Rattle.design_grammar.specs.Kinds.{code, names, numbers, counts, is_reserved, unwanted, refusal}
use Rattle.design_grammar.specs.Grammar.{token_grammar, kind_code, expect, begin, name, operator, named_in, count, number, type_word, number_in, width_in}
use Rattle.design_grammar.specs.Rules.{designs, token, a_name, a_number, a_count}
use Rattle.design_grammar.specs.Decided.{called_bound}

-- the readers of one token are reported with the kinds of the grammar of designs
pub took_same : {A : Type 0} (wanted : Kinds) (k : ℕ) (view : Lexeme Token → A) (ts : Lexemes Token) → take_token token_grammar wanted k view ts ≡ take_token designs wanted k view ts
unfolding take_token
took_same wanted k view ts = refl

pub any_same : {A : Type 0} (wanted ks : Kinds) (view : Lexeme Token → A) (ts : Lexemes Token) → take_any_token token_grammar wanted ks view ts ≡ take_any_token designs wanted ks view ts
unfolding take_any_token
any_same wanted ks view ts = refl

-- the value that a reader gives may be replaced by an equal one
pub implements_as : (check : Checks Token) (env : ℕ → Parser Token) {A : Type 0} {read : Reader Token A} {f h : Tree Token → A} {r : Rule} {also : Kinds} → Implements designs check env read f r also
    → ((t : Tree Token) → f t ≡ h t) → Implements designs check env read h r also
implements_as check env {A} {read} {f} {h} {r} {also} e same = record { at = λ ts. e.at ts ∙ of (parse designs check env r also ts) }
  where
    of : (x : Answer Token) → read_of designs f x ≡ read_of designs h x
    of (Ok x) = ap (λ v. Ok (v, x.1)) (same x.0)
    of (Err stop) = refl

-- ---- which refusals are reported

-- kinds that give each kind of token the same number tell each token alike
pub reported_alike : (wanted others : Kinds) → ((k : ℕ) → unwanted wanted k ≡ unwanted others k) → AreReported designs wanted others
reported_alike wanted others e = record { same = each }
  where
    each : (t : Token) → refusal wanted t ≡ refusal others t
    each End = refl
    each (Faulty f) = refl
    each (Word w) = ap rule_number (e (kind_code (Word w)))
    each (WidthWord c w) = ap rule_number (e (kind_code (WidthWord c w)))
    each (Number n) = ap rule_number (e (kind_code (Number n)))
    each (Sign b) = ap rule_number (e (kind_code (Sign b)))

-- neither the version nor a count is among the kinds
abbrev pub countless : Kinds → Bool
countless ks = not (among ks (code One)) && not (among ks (code Small))

-- a kind that is no name, no version and no count
abbrev pub is_fixed : ℕ → Bool
is_fixed k = not (k == code Name || nat_lt 49 k) && (not (k == code One) && not (k == code Small))

not_all : (test : ℕ → Bool) (ks : Kinds) (w : ℕ) → test w ≡ false → list_all test (ks ++ w ∷ []) ≡ false
not_all test [] w e = of (test w) e
  where
    of : (b : Bool) → b ≡ false → (b && true) ≡ false
    of true d = d
    of false d = refl
not_all test (k ∷ ks) w e = of (test k) (not_all test ks w e)
  where
    of : (b : Bool) → list_all test (ks ++ w ∷ []) ≡ false → (b && list_all test (ks ++ w ∷ [])) ≡ false
    of true d = d
    of false d = refl

-- what these say
countless_parts : (ks : Kinds) → countless ks ≡ true → (among ks (code One) ≡ false) × (among ks (code Small) ≡ false)
countless_parts ks c = let p = and_true (not (among ks (code One))) (not (among ks (code Small))) c in (not_true _ p.0, not_true _ p.1)

-- a name, or a kind above all
abbrev is_name_or_none : ℕ → Bool
is_name_or_none k = k == code Name || nat_lt 49 k

fixed_parts : (w : ℕ) → is_fixed w ≡ true → (is_name_or_none w ≡ false) × ((w == code One) ≡ false) × ((w == code Small) ≡ false)
fixed_parts w f =
    let p = and_true (not (is_name_or_none w)) (not (w == code One) && not (w == code Small)) f in
    let q = and_true (not (w == code One)) (not (w == code Small)) p.1 in
    (not_true _ p.0, not_true _ q.0, not_true _ q.1)

other_kind : (w a : ℕ) → (w == a) ≡ false → among (w ∷ []) a ≡ false
other_kind w a e = of (a == w) refl
  where
    of : (b : Bool) → (a == w) ≡ b → (if b then true else false) ≡ false
    of true d = absurd (let q : a ≡ w = grind arith in let r : (w == a) ≡ true = grind arith in true_false _ r e)
    of false d = refl

-- Where a kind that is fixed may stand, and neither the version nor a count, each other token is unexpected.
fixed_unexpected : (ks : Kinds) (w k : ℕ) → countless ks ≡ true → is_fixed w ≡ true → unwanted (ks ++ w ∷ []) k ≡ UnexpectedToken
unfolding unwanted
fixed_unexpected ks w k c f =
    let p = countless_parts ks c in
    let q = fixed_parts w f in
    let all : list_all is_name_or_none (ks ++ w ∷ []) ≡ false = not_all is_name_or_none ks w q.0 in
    let version : among (ks ++ w ∷ []) (code One) ≡ false = among_none ks (w ∷ []) (code One) p.0 (other_kind w (code One) q.1) in
    let counted : among (ks ++ w ∷ []) (code Small) ≡ false = among_none ks (w ∷ []) (code Small) p.1 (other_kind w (code Small) q.2) in
    rw (all, version, counted) (unexpected (among (ks ++ w ∷ []) (code Name)))
  where
    unexpected : (a : Bool) → (if (a && false) && is_reserved k then ReservedWord else UnexpectedToken) ≡ UnexpectedToken
    unexpected true = refl
    unexpected false = refl

-- so it is reported by that kind alone
pub fixed_reported : (also : Kinds) (w : ℕ) → countless also ≡ true → is_fixed w ≡ true → AreReported designs (w ∷ []) (also ++ w ∷ [])
fixed_reported also w c f = reported_alike (w ∷ []) (also ++ w ∷ []) (λ k. fixed_unexpected [] w k refl f ∙ sym (fixed_unexpected also w k c f))

-- Neither the version nor a count goes on behind a tree of a rule where none goes on behind any.
pub behind_countless : (r : Rule) (t : Tree Token) (also : Kinds) → countless (follow_set designs r) ≡ true → countless also ≡ true → countless (behind designs r t also) ≡ true
behind_countless r t also c a = both (none (code One) (not_true _ (and_true _ _ c).0) (not_true _ (and_true _ _ a).0)) (none (code Small) (not_true _ (and_true _ _ c).1) (not_true _ (and_true _ _ a).1))
  where
    both : {x y : Bool} → x ≡ false → y ≡ false → (not x && not y) ≡ true
    both e f = rw (e, f) refl

    none : (k : ℕ) → among (follow_set designs r) k ≡ false → among also k ≡ false → among (behind designs r t also) k ≡ false
    none k d e =
        is_false _ (λ m. ⊎_elim
        (λ h. true_false _ (within_bound (follow_set designs r) (follow_of designs r t) k (bound designs called_bound r t k) h) d)
        (λ h. let w = when_in (may_be_empty designs r) (if is_bare t then also else []) k h in let v = when_in (is_bare t) also k w.1 in true_false _ v.1 e)
        (among_either (within (follow_set designs r) (follow_of designs r t)) _ k m))

-- ---- the readers of one token

module _ (check : Checks Token) (env : ℕ → Parser Token) where
  -- a token of a kind, by the offset behind it,
  pub expect_implements : (wanted : Kind) (also : Kinds) → countless also ≡ true → is_fixed (code wanted) ≡ true → (0 == code wanted) ≡ false → Implements designs check env (expect wanted) (leaf_by designs (λ x. x.0.1)) (token wanted) also
  expect_implements wanted also c f no_end = record {
    at = λ ts. took_same (code wanted ∷ []) (code wanted) (λ x. x.0.1) ts
        ∙ (take_token_implements designs check env (code wanted ∷ []) also (code wanted) (λ x. x.0.1) (fixed_reported also (code wanted) c f) no_end).at ts;
  }

  -- and by that of its first octet
  pub begin_implements : (wanted : Kind) (also : Kinds) → countless also ≡ true → is_fixed (code wanted) ≡ true → (0 == code wanted) ≡ false → Implements designs check env (begin wanted) (leaf_by designs (λ x. x.0.0)) (token wanted) also
  begin_implements wanted also c f no_end = record {
    at = λ ts. took_same (code wanted ∷ []) (code wanted) (λ x. x.0.0) ts
        ∙ (take_token_implements designs check env (code wanted ∷ []) also (code wanted) (λ x. x.0.0) (fixed_reported also (code wanted) c f) no_end).at ts;
  }

  -- the version
  pub version_implements : Implements designs check env (expect One) (leaf_by designs (λ x. x.0.1)) (token One) []
  version_implements = record {
    at = λ ts. took_same (code One ∷ []) (code One) (λ x. x.0.1) ts ∙ (take_token_implements designs check env (code One ∷ []) [] (code One) (λ x. x.0.1) reported_so refl).at ts;
  }

  -- a name, where no other token may stand
  pub name_implements : Implements designs check env name (leaf_by designs named_in) a_name []
  unfolding unwanted
  name_implements = record {
    at = λ ts. any_same (code Name ∷ []) names named_in ts
        ∙ (take_any_implements designs check env (code Name ∷ []) [] names named_in (reported_alike (code Name ∷ []) names (λ k. refl)) refl).at ts;
  }

  -- an operator, where only names may stand
  pub operator_implements : (wanted : Kind) (also : Kinds) → AreReported designs (code Name ∷ []) (also ++ code wanted ∷ []) → (0 == code wanted) ≡ false → Implements designs check env (operator wanted) (leaf_by designs named_in) (token wanted) also
  operator_implements wanted also reported no_end = record {
    at = λ ts. took_same (code Name ∷ []) (code wanted) named_in ts ∙ (take_token_implements designs check env (code Name ∷ []) also (code wanted) named_in reported no_end).at ts;
  }

  -- a count, and any number
  pub count_implements : Implements designs check env count (leaf_by designs (λ x. number_in x.1)) a_count []
  unfolding unwanted
  count_implements = record {
    at = λ ts. any_same (code Small ∷ []) counts (λ x. number_in x.1) ts
        ∙ (take_any_implements designs check env (code Small ∷ []) [] counts (λ x. number_in x.1) (reported_alike (code Small ∷ []) counts (λ k. refl)) refl).at ts;
  }

  pub number_implements : Implements designs check env number (leaf_by designs (λ x. (number_in x.1, x.0.0))) a_number []
  unfolding unwanted
  number_implements = record {
    at = λ ts. any_same (code Great ∷ []) numbers (λ x. (number_in x.1, x.0.0)) ts
        ∙ (take_any_implements designs check env (code Great ∷ []) [] numbers (λ x. (number_in x.1, x.0.0)) (reported_alike (code Great ∷ []) numbers (λ k. refl)) refl).at ts;
  }

  -- a type word
  pub type_word_implements : (also : Kinds) → countless also ≡ true → Implements designs check env type_word (leaf_by designs (λ x. (width_in x.1, x.0.1))) (token TypeWord) also
  type_word_implements also c = record {
    at = λ ts. took_same (code TypeWord ∷ []) (code TypeWord) (λ x. (width_in x.1, x.0.1)) ts
        ∙ (take_token_implements designs check env (code TypeWord ∷ []) also (code TypeWord) (λ x. (width_in x.1, x.0.1)) (fixed_reported also (code TypeWord) c refl) refl).at ts;
  }

  -- a token of a kind, and what follows
  pub then_implements : {A : Type 0} {s : Rule} {next : Reader Token A} {f : Tree Token → A} (wanted : Kind) (also : Kinds) → countless also ≡ true → is_fixed (code wanted) ≡ true → (0 == code wanted) ≡ false
      → Implements designs check env next f s [] → Implements designs check env (expect wanted >> next) (λ t. f (second t)) (token wanted ⟫ s) also
  then_implements {A} {s} {next} {f} wanted also c g no_end e = seq_implements designs check env (λ a. next) (λ t. f (second t)) (expect_implements wanted also c g no_end) (λ t. e)

  -- the last token
  pub last_implements : {A : Type 0} (wanted : Kind) (also : Kinds) (x : A) → countless also ≡ true → is_fixed (code wanted) ≡ true → (0 == code wanted) ≡ false → Implements designs check env (expect wanted >> pure x) (λ t. x) (token wanted) also
  last_implements wanted also x c f no_end = map_implements designs check env (λ a. x) (expect_implements wanted also c f no_end)
