-- Rules that call themselves, to a depth: the readers of each level stand on those of the level below, and on readers
-- of the other rules. A check may look at a tree by the level at which it stands.
use Rattle.std.proofs.Common.{◌≡◌, ℕ, zero, suc, Bool, true, false, [], ◌∷◌, ◌++◌, if◌then◌else◌, inl, ⊎_elim, refl, sym, ap, ◌∙◌, append-nil, Ok, Err}
use Rattle.ll1_grammar.specs.Lexemes.{Lexemes, first_place}
use Rattle.ll1_grammar.specs.Rule.{Kinds, Tree, Grammar}
use Rattle.ll1_grammar.specs.Rule.Rule.{call}
use Rattle.ll1_grammar.specs.Kinds.{among, spell, first_kind}
use Rattle.ll1_grammar.specs.declared.refusal.TokenRefusal.{TokenRefusal}
use Rattle.ll1_grammar.specs.Trees.{Checks, In, Fits, Breaks, GoesOn}
use Rattle.ll1_grammar.specs.Trees.Fits.{fits_call}
use Rattle.ll1_grammar.specs.Trees.Breaks.{by_call}
use Rattle.ll1_grammar.specs.Parse.{ParseStop, Answer, Parser}
use Rattle.ll1_grammar.specs.Parse.ParseStop.{unwanted, broken}
use Rattle.ll1_grammar.specs.Exact.{relation_of, Unwanted, Broken, Stops, IsExact}
use Rattle.ll1_grammar.specs.Among.{among_left, among_right, true_false}
use Rattle.ll1_grammar.specs.Ll1.{Calls, begins, may_be_bare}
use Rattle.ll1_grammar.specs.KeptLimits.{CallsKeep, weak}
use Rattle.ll1_grammar.specs.Stopping.{Wraps, wrap_broken, wrap_unwanted}
use Rattle.ll1_grammar.specs.WithoutLimits.{Agrees, SameKinds}
use Rattle.ll1_grammar.specs.Nested.{NodeOf, BreaksInside, TooDeep, no_level, nested}

-- the first type or the second
abbrev pub Chosen : Bool → Type 0 → Type 0 → Type 0
Chosen true A B = A
Chosen false A B = B

pub chosen_first : (b : Bool) (A B : Type 0) → b ≡ true → Chosen b A B → A
chosen_first true A B e x = x
chosen_first false A B e x = absurd (cc)

pub chosen_second : (b : Bool) (A B : Type 0) → b ≡ false → Chosen b A B → B
chosen_second true A B e x = absurd (cc)
chosen_second false A B e x = x

pub choose_first : (b : Bool) (A B : Type 0) → b ≡ true → A → Chosen b A B
choose_first true A B e x = x
choose_first false A B e x = absurd (cc)

pub choose_second : (b : Bool) (A B : Type 0) → b ≡ false → B → Chosen b A B
choose_second true A B e x = absurd (cc)
choose_second false A B e x = x

module _ {T : Type 0} (g : Grammar T) where
  call_of : {check : Checks T} {called : ℕ → Tree T → Type 0} {n : ℕ} {t : Tree T} → Fits g check called (call n) t → called n t
  call_of (fits_call h) = h

  broken_of : {check : Checks T} {bad : ℕ → TokenRefusal → ℕ → Tree T → Type 0} {n : ℕ} {f : TokenRefusal} {i : ℕ} {t : Tree T} → Breaks check bad (call n) f i t → bad n f i t
  broken_of (by_call h) = h

  -- the law of a called rule is of its own trees alone
  pub exact_like : (check check' : Checks T) (called called' : ℕ → Tree T → Type 0) (bad bad' : ℕ → TokenRefusal → ℕ → Tree T → Type 0) (n : ℕ) (p q : Parser T)
      → ((t : Tree T) → called n t → called' n t) → ((t : Tree T) → called' n t → called n t)
      → ((f : TokenRefusal) (i : ℕ) (t : Tree T) → bad n f i t → bad' n f i t) → ((f : TokenRefusal) (i : ℕ) (t : Tree T) → bad' n f i t → bad n f i t)
      → ((also : Kinds) (ts : Lexemes T) → q also ts ≡ p also ts) → IsExact g check called bad (call n) p → IsExact g check' called' bad' (call n) q
  exact_like check check' called called' bad bad' n p q into out bad_into bad_out same e = record {
    sound = λ also ts t rest d. let s = e.sound also ts t rest (sym (same also ts) ∙ d) in (fits_call (into t (call_of s.0)), s.1, s.2);
    whole = λ also t rest h m. same also (spell t ++ rest) ∙ e.whole also t rest (fits_call (out t (call_of h))) m;
    stops = λ also ts h m d. like also ts h (e.stops also ts h m (sym (same also ts) ∙ d));
  }
    where
      itself : Wraps g check bad check' bad' (call n) (call n) (λ t. t)
      itself = record { keeps = λ t. refl; into = λ t h. h; out_of = λ f i t b l. by_call (bad_out f i t (broken_of b)) }

      like : (also : Kinds) (ts : Lexemes T) (h : ParseStop T) → Stops g check bad (call n) (relation_of p) also ts h → Stops g check' bad' (call n) (relation_of q) also ts h
      like also ts (unwanted ks rest) o =
          wrap_unwanted g check bad check' bad' (call n) (call n) (λ t. t) itself (relation_of p) (relation_of q) also also ts ks rest o (λ x d j. inl (d, j)) o.at_front (λ us m k. same also (o.front ++ us) ∙ k)
      like also ts (broken f rest) o =
          wrap_broken g check bad check' bad' (call n) (call n) (λ t. t) itself (relation_of p) (relation_of q) also also ts f rest o (λ b. by_call (bad_into f _ _ (broken_of b))) (λ us k. same also (o.front ++ o.here ∷ us) ∙ k)

  module _ (own : ℕ → Bool) (checks : ℕ → Checks T) (env : ℕ → Parser T) (called : ℕ → Tree T → Type 0) (bad : ℕ → TokenRefusal → ℕ → Tree T → Type 0) where
    -- the readers of the rules that are their own, by how many levels may still be opened, on those of the others
    abbrev pub nesting : ℕ → ℕ → Parser T
    nesting zero n also ts = if own n then no_level g n also ts else env n also ts
    nesting (suc d) n also ts = if own n then nested g (checks d) (nesting d) n also ts else env n also ts

    abbrev pub NestingTree : ℕ → ℕ → Tree T → Type 0
    NestingTree zero n t = Chosen (own n) ⊥ (called n t)
    NestingTree (suc d) n t = Chosen (own n) (NodeOf g (checks d) (NestingTree d) n t) (called n t)

    abbrev pub NestingBreak : ℕ → ℕ → TokenRefusal → ℕ → Tree T → Type 0
    NestingBreak zero n f i t = Chosen (own n) (TooDeep g n f i t) (bad n f i t)
    NestingBreak (suc d) n f i t = Chosen (own n) (BreaksInside g (checks d) (NestingBreak d) n f i t) (bad n f i t)

  -- where none of a rule begins, a reader of any depth refuses the same lexeme, with the same kinds
  pub no_level_agrees : (known : Calls g) (check : Checks T) (called : ℕ → Tree T → Type 0) (bad : ℕ → TokenRefusal → ℕ → Tree T → Type 0) (keep : CallsKeep g called bad) (n : ℕ) → among g.calls n ≡ true
      → (p : Parser T) → IsExact g check called bad (call n) p → (also : Kinds) (ts : Lexemes T) → among also (first_kind g ts) ≡ false → Agrees g (no_level g n also ts) (p also ts)
  no_level_agrees known check called bad keep n c p e also ts m = by_test (among (g.first_set n) (first_kind g ts)) refl
    where
      begins_not : among (g.first_set n) (first_kind g ts) ≡ false → (u : Lexemes T) (rest later : Lexemes T) (t : Tree T) → In g (call n) t → spell t ≡ u ++ later → ts ≡ u ++ rest → u ≡ []
      begins_not k [] rest later t h d q = refl
      begins_not k (y ∷ ys) rest later t h d q =
          absurd (true_false _ (begins g known y (ys ++ later) (known.plain n c).0 h d) (ap (λ z. among (g.first_set n) (first_kind g z)) (sym q) ∙ k))

      same_kinds : (ks : Kinds) (rest : Lexemes T) → (o : Unwanted g check bad (call n) (relation_of p) also ts ks rest) → o.front ≡ [] → SameKinds g (also ++ g.first_set n) ks
      same_kinds ks rest o d x = (
        (λ k. (o.at_front d).1 _ k),
        (λ k. ⊎_elim (λ w. among_left also (g.first_set n) _ w.1) (λ w. among_right also (g.first_set n) _ (begun w)) (o.wanted x k)),
      )
        where
          begun : GoesOn g (call n) o.front x → among (g.first_set n) (g.kind x.1) ≡ true
          begun w = begins g known x w.more (known.plain n c).0 w.fits (w.spelled ∙ ap (λ z. z ++ x ∷ w.more) d)

      answered : (a : Answer T) → p also ts ≡ a → among (g.first_set n) (first_kind g ts) ≡ false → (js : Kinds) × (a ≡ Err (unwanted js ts)) × SameKinds g (also ++ g.first_set n) js
      answered (Ok x) d k =
          let s = e.sound also ts x.0 x.1 d in
          let h = weak g check called bad keep s.0 in
          absurd (true_false _ (may_be_bare g known (known.plain n c).0 h (begins_not k (spell x.0) x.1 [] x.0 h (sym (append-nil (spell x.0))) s.1)) refl)
      answered (Err (unwanted ks rest)) d k = of (e.stops also ts (unwanted ks rest) m d)
        where
          of : Unwanted g check bad (call n) (relation_of p) also ts ks rest → (js : Kinds) × ◌≡◌ {A = Answer T} (Err (unwanted ks rest)) (Err (unwanted js ts)) × SameKinds g (also ++ g.first_set n) js
          of o =
              let q : o.front ≡ [] = begins_not k o.front rest (o.next ∷ o.later) o.tree o.fits o.spelled o.parts in
              (ks, ap (λ z. Err (unwanted ks z)) (sym (o.parts ∙ ap (λ z. z ++ rest) q)), same_kinds ks rest o q)
      answered (Err (broken f rest)) d k = of (e.stops also ts (broken f rest) m d)
        where
          of : Broken g check bad (call n) (relation_of p) also ts f rest → (js : Kinds) × ◌≡◌ {A = Answer T} (Err (broken f rest)) (Err (unwanted js ts)) × SameKinds g (also ++ g.first_set n) js
          of o =
              let q : o.front ≡ [] = begins_not k o.front (o.here ∷ o.others) (o.here ∷ o.later) o.tree o.fits o.spelled o.parts in
              absurd (true_false _ (begins g known o.here o.later (known.plain n c).0 o.fits (o.spelled ∙ ap (λ z. z ++ o.here ∷ o.later) q))
              (ap (λ z. among (g.first_set n) (first_kind g z)) (sym (o.parts ∙ ap (λ z. z ++ o.here ∷ o.others) q)) ∙ k))

      by_test : (b : Bool) → among (g.first_set n) (first_kind g ts) ≡ b
          → Agrees g (if b then Err (broken (record { number = g.limit n; at = first_place ts }) ts) else Err (unwanted (also ++ g.first_set n) ts)) (p also ts)
      by_test true k = tt
      by_test false k = answered (p also ts) refl k
