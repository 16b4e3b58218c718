-- The law of a tower: its readers are exact, and answer as those without limits do until a limit is broken.
use Rattle.std.proofs.Common.{◌≡◌, ℕ, zero, suc, ◌+◌, ◌≤◌, Bool, true, false, if◌then◌else◌, arith, subst, refl, sym, ap, ◌∙◌}
use Rattle.ll1_grammar.specs.Lexemes.{Lexemes}
use Rattle.ll1_grammar.specs.Rule.{Kinds, Tree, Grammar}
use Rattle.ll1_grammar.specs.Rule.Rule.{call}
use Rattle.ll1_grammar.specs.Rule.Tree.{node}
use Rattle.ll1_grammar.specs.Kinds.{among, first_kind}
use Rattle.ll1_grammar.specs.declared.refusal.TokenRefusal.{TokenRefusal}
use Rattle.ll1_grammar.specs.Trees.{Checks, In}
use Rattle.ll1_grammar.specs.Parse.{Parser, wrap, parse}
use Rattle.ll1_grammar.specs.Exact.{IsExact}
use Rattle.ll1_grammar.specs.Among.{by_true, by_false}
use Rattle.ll1_grammar.specs.Ll1.{Calls}
use Rattle.ll1_grammar.specs.KeptLimits.{CallsKeep}
use Rattle.ll1_grammar.specs.ReportedKinds.{parse_begun}
use Rattle.ll1_grammar.specs.WithoutLimits.{no_check, Agrees, agrees_wrap, parse_agrees}
use Rattle.ll1_grammar.specs.Nested.{NodeOf, BreaksInside, NoTree, TooDeep, no_level, nested, keep_none, no_level_exact, keep_nested, nested_exact}
use Rattle.ll1_grammar.specs.AnyDepth.{free, FreeTree, FreeBreak, free_keep, free_calls}
use Rattle.ll1_grammar.specs.Nesting.{Chosen, chosen_first, chosen_second, choose_first, choose_second, exact_like, nesting, NestingTree, NestingBreak, no_level_agrees}
use Rattle.ll1_grammar.specs.WholeTexts.{Readable}

-- What a tower needs of the rules that are not its own.
pub record Base {T : Type 0} (g : Grammar T) (own : ℕ → Bool) (env : ℕ → Parser T) (called : ℕ → Tree T → Type 0) (bad : ℕ → TokenRefusal → ℕ → Tree T → Type 0) : Type 0 where
  pub keep : CallsKeep g called bad
  pub exact : (n : ℕ) → among g.calls n ≡ true → own n ≡ false → IsExact g no_check called bad (call n) (env n)
  pub depth : ℕ
  pub agree : (d : ℕ) → depth ≤ d → (n : ℕ) → among g.calls n ≡ true → own n ≡ false → (also : Kinds) (ts : Lexemes T) → among also (first_kind g ts) ≡ false
      → Agrees g (env n also ts) (free g d n also ts)
  pub begun : (n : ℕ) → among g.calls n ≡ true → own n ≡ false → (also reported : Kinds) (ts : Lexemes T) → among (g.first_set n) (first_kind g ts) ≡ true → env n also ts ≡ env n reported ts

-- every rule is the tower's own
abbrev pub all_own : ℕ → Bool
all_own n = true

module _ {T : Type 0} (g : Grammar T) (known : Calls g) where
  pub no_base : Base g all_own (no_level g) NoTree (TooDeep g)
  no_base = record {
    keep = keep_none g known;
    exact = λ n c q. absurd (cc);
    depth = 0;
    agree = λ d l n c q also ts m. absurd (cc);
    begun = λ n c q also reported ts m. absurd (cc);
  }

module _ {T : Type 0} (g : Grammar T) (known : Calls g) (own : ℕ → Bool) (checks : ℕ → Checks T) (env : ℕ → Parser T) (called : ℕ → Tree T → Type 0) (bad : ℕ → TokenRefusal → ℕ → Tree T → Type 0)
    (base : Base g own env called bad) where
  pub nesting_keep : (d : ℕ) → CallsKeep g (NestingTree g own checks env called bad d) (NestingBreak g own checks env called bad d)
  nesting_keep zero = record { weak = λ n t h. weak_of n t (own n) refl h; unbroken = λ n t f i h b. unbroken_of n t f i (own n) refl h b }
    where
      weak_of : (n : ℕ) (t : Tree T) (b : Bool) → own n ≡ b → Chosen b ⊥ (called n t) → In g (call n) t
      weak_of n t true q h = absurd h
      weak_of n t false q h = base.keep.weak n t h

      unbroken_of : (n : ℕ) (t : Tree T) (f : TokenRefusal) (i : ℕ) (b : Bool) → own n ≡ b → Chosen b ⊥ (called n t) → Chosen b (TooDeep g n f i t) (bad n f i t) → ⊥
      unbroken_of n t f i true q h k = h
      unbroken_of n t f i false q h k = base.keep.unbroken n t f i h k
  nesting_keep (suc d) = of (nesting_keep d)
    where
      of : CallsKeep g (NestingTree g own checks env called bad d) (NestingBreak g own checks env called bad d) → CallsKeep g (NestingTree g own checks env called bad (suc d)) (NestingBreak g own checks env called bad (suc d))
      of below = record { weak = λ n t h. weak_of n t (own n) refl h; unbroken = λ n t f i h b. unbroken_of n t f i (own n) refl h b }
        where
          inside : CallsKeep g (NodeOf g (checks d) (NestingTree g own checks env called bad d)) (BreaksInside g (checks d) (NestingBreak g own checks env called bad d))
          inside = keep_nested g known (checks d) (NestingTree g own checks env called bad d) (NestingBreak g own checks env called bad d) below

          weak_of : (n : ℕ) (t : Tree T) (b : Bool) → own n ≡ b → Chosen b (NodeOf g (checks d) (NestingTree g own checks env called bad d) n t) (called n t) → In g (call n) t
          weak_of n t true q h = inside.weak n t h
          weak_of n t false q h = base.keep.weak n t h

          unbroken_of : (n : ℕ) (t : Tree T) (f : TokenRefusal) (i : ℕ) (b : Bool) → own n ≡ b → Chosen b (NodeOf g (checks d) (NestingTree g own checks env called bad d) n t) (called n t)
              → Chosen b (BreaksInside g (checks d) (NestingBreak g own checks env called bad d) n f i t) (bad n f i t) → ⊥
          unbroken_of n t f i true q h k = inside.unbroken n t f i h k
          unbroken_of n t f i false q h k = base.keep.unbroken n t f i h k

  -- each rule's reader, by whether it is the tower's own
  pub nesting_exact : (d : ℕ) (check : Checks T) (n : ℕ) → among g.calls n ≡ true → IsExact g check (NestingTree g own checks env called bad d) (NestingBreak g own checks env called bad d) (call n) (nesting g own checks env called bad d n)
  nesting_exact zero check n c = by_owner (own n) refl
    where
      by_owner : (b : Bool) → own n ≡ b → IsExact g check (NestingTree g own checks env called bad 0) (NestingBreak g own checks env called bad 0) (call n) (nesting g own checks env called bad 0 n)
      by_owner true q =
          exact_like g no_check check NoTree (NestingTree g own checks env called bad 0) (TooDeep g) (NestingBreak g own checks env called bad 0) n (no_level g n) (nesting g own checks env called bad 0 n)
          (λ t h. choose_first (own n) _ _ q h) (λ t h. chosen_first (own n) _ _ q h) (λ f i t h. choose_first (own n) _ _ q h) (λ f i t h. chosen_first (own n) _ _ q h)
          (λ also ts. by_true (own n) _ _ q) (no_level_exact g known no_check n (known.plain n c).0)
      by_owner false q =
          exact_like g no_check check called (NestingTree g own checks env called bad 0) bad (NestingBreak g own checks env called bad 0) n (env n) (nesting g own checks env called bad 0 n)
          (λ t h. choose_second (own n) _ _ q h) (λ t h. chosen_second (own n) _ _ q h) (λ f i t h. choose_second (own n) _ _ q h) (λ f i t h. chosen_second (own n) _ _ q h)
          (λ also ts. by_false (own n) _ _ q) (base.exact n c q)
  nesting_exact (suc d) check n c = by_owner (own n) refl (λ m k. nesting_exact d (checks d) m k)
    where
      by_owner : (b : Bool) → own n ≡ b
          → ((m : ℕ) → among g.calls m ≡ true → IsExact g (checks d) (NestingTree g own checks env called bad d) (NestingBreak g own checks env called bad d) (call m) (nesting g own checks env called bad d m))
          → IsExact g check (NestingTree g own checks env called bad (suc d)) (NestingBreak g own checks env called bad (suc d)) (call n) (nesting g own checks env called bad (suc d) n)
      by_owner true q below =
          exact_like g no_check check (NodeOf g (checks d) (NestingTree g own checks env called bad d)) (NestingTree g own checks env called bad (suc d)) (BreaksInside g (checks d) (NestingBreak g own checks env called bad d))
          (NestingBreak g own checks env called bad (suc d)) n (nested g (checks d) (nesting g own checks env called bad d) n) (nesting g own checks env called bad (suc d) n)
          (λ t h. choose_first (own n) _ _ q h) (λ t h. chosen_first (own n) _ _ q h) (λ f i t h. choose_first (own n) _ _ q h) (λ f i t h. chosen_first (own n) _ _ q h)
          (λ also ts. by_true (own n) _ _ q)
          (nested_exact g known (checks d) (NestingTree g own checks env called bad d) (NestingBreak g own checks env called bad d) (nesting_keep d) no_check (nesting g own checks env called bad d) below n c)
      by_owner false q below =
          exact_like g no_check check called (NestingTree g own checks env called bad (suc d)) bad (NestingBreak g own checks env called bad (suc d)) n (env n) (nesting g own checks env called bad (suc d) n)
          (λ t h. choose_second (own n) _ _ q h) (λ t h. chosen_second (own n) _ _ q h) (λ f i t h. choose_second (own n) _ _ q h) (λ f i t h. chosen_second (own n) _ _ q h)
          (λ also ts. by_false (own n) _ _ q) (base.exact n c q)

  pub nesting_begun : (d n : ℕ) → among g.calls n ≡ true → (also reported : Kinds) (ts : Lexemes T) → among (g.first_set n) (first_kind g ts) ≡ true
      → nesting g own checks env called bad d n also ts ≡ nesting g own checks env called bad d n reported ts
  nesting_begun zero n c also reported ts m = by_owner (own n) refl
    where
      by_owner : (b : Bool) → own n ≡ b → (if b then no_level g n also ts else env n also ts) ≡ (if b then no_level g n reported ts else env n reported ts)
      by_owner true q = by_true _ _ _ m ∙ sym (by_true _ _ _ m)
      by_owner false q = base.begun n c q also reported ts m
  nesting_begun (suc d) n c also reported ts m = by_owner (own n) refl (λ k j more others us w. nesting_begun d k j more others us w)
    where
      by_owner : (b : Bool) → own n ≡ b
          → ((k : ℕ) → among g.calls k ≡ true → (more others : Kinds) (us : Lexemes T) → among (g.first_set k) (first_kind g us) ≡ true → nesting g own checks env called bad d k more us ≡ nesting g own checks env called bad d k others us)
          → (if b then nested g (checks d) (nesting g own checks env called bad d) n also ts else env n also ts) ≡ (if b then nested g (checks d) (nesting g own checks env called bad d) n reported ts else env n reported ts)
      by_owner true q below =
          ap (λ z. wrap node z) (parse_begun g known (checks d) (NestingTree g own checks env called bad d) (NestingBreak g own checks env called bad d) (nesting_keep d) (nesting g own checks env called bad d)
          (λ k j. nesting_exact d (checks d) k j) below (g.body n) (known.plain n c).1 also reported ts (subst (λ z. among z (first_kind g ts) ≡ true) (known.begin n c) m))
      by_owner false q below = base.begun n c q also reported ts m

  pub nesting_agrees : (d e : ℕ) → base.depth + d ≤ e → (n : ℕ) → among g.calls n ≡ true → (also : Kinds) (ts : Lexemes T) → among also (first_kind g ts) ≡ false
      → Agrees g (nesting g own checks env called bad d n also ts) (free g e n also ts)
  nesting_agrees zero e l n c also ts m = by_owner (own n) refl
    where
      by_owner : (b : Bool) → own n ≡ b → Agrees g (if b then no_level g n also ts else env n also ts) (free g e n also ts)
      by_owner true q = no_level_agrees g known no_check (FreeTree g e) (FreeBreak g e) (free_keep g known e) n c (free g e n) (free_calls g known e n c) also ts m
      by_owner false q = base.agree e (omega arith) n c q also ts m
  nesting_agrees (suc d) zero l n c also ts m = absurd (omega arith)
  nesting_agrees (suc d) (suc e) l n c also ts m = by_owner (own n) refl (λ k j more us w. nesting_agrees d e (omega arith) k j more us w)
    where
      by_owner : (b : Bool) → own n ≡ b
          → ((k : ℕ) → among g.calls k ≡ true → (more : Kinds) (us : Lexemes T) → among more (first_kind g us) ≡ false → Agrees g (nesting g own checks env called bad d k more us) (free g e k more us))
          → Agrees g (if b then nested g (checks d) (nesting g own checks env called bad d) n also ts else env n also ts) (free g (suc e) n also ts)
      by_owner true q below =
          agrees_wrap g node (parse g (checks d) (nesting g own checks env called bad d) (g.body n) also ts) (parse g no_check (free g e) (g.body n) also ts)
          (parse_agrees g known (checks d) (NestingTree g own checks env called bad d) (NestingBreak g own checks env called bad d) (nesting_keep d) (nesting g own checks env called bad d) (free g e)
          (λ k j. nesting_exact d (checks d) k j) below (g.body n) (known.plain n c).1 also ts m)
      by_owner false q below = base.agree (suc e) (omega arith) n c q also ts m

  -- so all that the law needs of called rules holds of a tower
  pub nesting_readable : (d : ℕ) (check : Checks T) → Readable g check (NestingTree g own checks env called bad d) (NestingBreak g own checks env called bad d) (nesting g own checks env called bad d)
  nesting_readable d check = record {
    known = known;
    keep = nesting_keep d;
    exact = λ n c. nesting_exact d check n c;
    depth = base.depth + d;
    agree = λ e l n c also ts m. nesting_agrees d e l n c also ts m;
    begun = λ n c also reported ts m. nesting_begun d n c also reported ts m;
  }

  -- and a tower is a base for the next one
  pub nesting_base : (d : ℕ) (above : ℕ → Bool) → Base g above (nesting g own checks env called bad d) (NestingTree g own checks env called bad d) (NestingBreak g own checks env called bad d)
  nesting_base d above = record {
    keep = nesting_keep d;
    exact = λ n c q. nesting_exact d no_check n c;
    depth = base.depth + d;
    agree = λ e l n c q also ts m. nesting_agrees d e l n c also ts m;
    begun = λ n c q also reported ts m. nesting_begun d n c also reported ts m;
  }
