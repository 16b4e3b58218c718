-- Called rules, level by level: a tree of one is a node round a tree of its body, one level less deep.
use Rattle.std.proofs.Common.{◌≡◌, ℕ, true, false, [], ◌∷◌, ◌++◌, if◌then◌else◌, inl, inr, ⊎_elim, refl, sym, ap, subst, ◌∙◌, Ok, Err, arith}
use Rattle.ll1_grammar.specs.Lexemes.{Lexemes, first_place}
use Rattle.ll1_grammar.specs.Rule.{Kinds, Tree, Grammar}
use Rattle.ll1_grammar.specs.Rule.Rule.{call}
use Rattle.ll1_grammar.specs.Rule.Tree.{node}
use Rattle.ll1_grammar.specs.Kinds.{among, spell, first_kind, follow_of, is_ll1}
use Rattle.ll1_grammar.specs.declared.refusal.TokenRefusal.{TokenRefusal}
use Rattle.ll1_grammar.specs.Trees.{Checks, In, Fits, Breaks, GoesOn}
use Rattle.ll1_grammar.specs.Trees.In.{in_call}
use Rattle.ll1_grammar.specs.Trees.Fits.{fits_call}
use Rattle.ll1_grammar.specs.Trees.Breaks.{by_call}
use Rattle.ll1_grammar.specs.Parse.{ParseStop, Parser, wrap, parse}
use Rattle.ll1_grammar.specs.Parse.ParseStop.{unwanted, broken}
use Rattle.ll1_grammar.specs.AnswerParts.{WasWrapped, wrap_ok, wrap_err, not_both, err_is}
use Rattle.ll1_grammar.specs.Exact.{relation_of, Unwanted, Broken, Stops, IsRead, IsExact}
use Rattle.ll1_grammar.specs.Among.{among_either, among_neither, among_none, by_true, by_false, either_way, true_false}
use Rattle.ll1_grammar.specs.Ll1.{Calls, call_ll1, may_be_bare}
use Rattle.ll1_grammar.specs.KeptLimits.{CallsKeep, weak, unbroken}
use Rattle.ll1_grammar.specs.Stopping.{Wraps, wrap_broken, wrap_unwanted}
use Rattle.ll1_grammar.specs.Law.{exact_rule}

-- a tree of a called rule, whose body keeps the limits
pub record NodeOf {T : Type 0} (g : Grammar T) (check : Checks T) (called : ℕ → Tree T → Type 0) (n : ℕ) (t : Tree T) : Type 0 where
  pub inner : Tree T
  pub is : t ≡ node inner
  pub fits : Fits g check called (g.body n) inner

pub record BreaksInside {T : Type 0} (g : Grammar T) (check : Checks T) (bad : ℕ → TokenRefusal → ℕ → Tree T → Type 0) (n : ℕ) (f : TokenRefusal) (i : ℕ) (t : Tree T) : Type 0 where
  pub inner : Tree T
  pub is : t ≡ node inner
  pub breaks : Breaks check bad (g.body n) f i inner

-- where no rule may be called any more there is no tree,
abbrev pub NoTree : {T : Type 0} → ℕ → Tree T → Type 0
NoTree n t = ⊥

-- each tree of one breaks the limit at its first lexeme,
abbrev pub TooDeep : {T : Type 0} → Grammar T → ℕ → TokenRefusal → ℕ → Tree T → Type 0
TooDeep g n f i t = (i ≡ 0) × (f ≡ record { number = g.limit n; at = first_place (spell t) })

-- and the reader refuses the lexeme with which one would begin
abbrev pub no_level : {T : Type 0} → Grammar T → ℕ → Parser T
no_level g n also ts =
    if among (g.first_set n) (first_kind g ts) then Err (broken (record { number = g.limit n; at = first_place ts }) ts) else Err (unwanted (also ++ g.first_set n) ts)

abbrev pub nested : {T : Type 0} → Grammar T → Checks T → (ℕ → Parser T) → ℕ → Parser T
nested g check env n also ts = wrap node (parse g check env (g.body n) also ts)

pub node_is : {T : Type 0} (t u : Tree T) → node t ≡ node u → t ≡ u
node_is t u e = cc

module _ {T : Type 0} (g : Grammar T) (known : Calls g) where
  pub keep_none : CallsKeep g NoTree (TooDeep g)
  keep_none = record { weak = λ n t h. absurd h; unbroken = λ n t f i h b. h }

  pub no_level_exact : (check : Checks T) (n : ℕ) → is_ll1 g (call n) ≡ true → IsExact g check NoTree (TooDeep g) (call n) (no_level g n)
  no_level_exact check n p = record { sound = sound_of; whole = whole_of; stops = stops_of }
    where
      q : (among g.calls n ≡ true) × (among (g.first_set n) (g.kind g.at_end) ≡ false) × (among (g.follow_set n) (g.kind g.at_end) ≡ false)
      q = call_ll1 g n p

      sound_of : (also : Kinds) (ts : Lexemes T) (t : Tree T) (rest : Lexemes T) → no_level g n also ts ≡ Ok (t, rest) → IsRead g check NoTree (TooDeep g) (call n) ts rest t
      sound_of also ts t rest e =
          ⊎_elim (λ m. absurd (not_both (t, rest) (broken (record { number = g.limit n; at = first_place ts }) ts) (sym e ∙ by_true _ _ _ m)))
          (λ m. absurd (not_both (t, rest) (unwanted (also ++ g.first_set n) ts) (sym e ∙ by_false _ _ _ m))) (either_way (among (g.first_set n) (first_kind g ts)))

      whole_of : (also : Kinds) (t : Tree T) (rest : Lexemes T) → Fits g check NoTree (call n) t → among (follow_of g (call n) t) (first_kind g rest) ≡ false → no_level g n also (spell t ++ rest) ≡ Ok (t, rest)
      whole_of also t rest (fits_call h) m = absurd h

      begun : (also : Kinds) (ts : Lexemes T) → among (g.first_set n) (first_kind g ts) ≡ true
          → Broken g check (TooDeep g) (call n) (relation_of (no_level g n)) also ts (record { number = g.limit n; at = first_place ts }) ts
      begun also [] m = absurd (true_false _ m q.1)
      begun also (x ∷ xs) m = by_tree (known.may_begin n x q.0 m)
        where
          by_tree : GoesOn g (call n) [] x → Broken g check (TooDeep g) (call n) (relation_of (no_level g n)) also (x ∷ xs) (record { number = g.limit n; at = first_place (x ∷ xs) }) (x ∷ xs)
          by_tree o = record {
            front = [];
            here = x;
            others = xs;
            stands = refl;
            parts = refl;
            tree = o.tree;
            later = o.more;
            fits = o.fits;
            spelled = o.spelled;
            unbroken = λ f i h b. absurd (omega arith);
            breaks = by_call (refl, ap (λ z. record { number = g.limit n; at = first_place z }) (sym o.spelled));
            same = λ us. by_true _ _ _ m;
          }

      not_begun : (also : Kinds) (ts : Lexemes T) → among also (first_kind g ts) ≡ false → among (g.first_set n) (first_kind g ts) ≡ false
          → Unwanted g check (TooDeep g) (call n) (relation_of (no_level g n)) also ts (also ++ g.first_set n) ts
      not_begun also ts m k = let t = known.text n q.0 in by_text t.0 t.1 (spell t.0) refl
        where
          by_text : (t : Tree T) → In g (call n) t → (u : Lexemes T) → spell t ≡ u → Unwanted g check (TooDeep g) (call n) (relation_of (no_level g n)) also ts (also ++ g.first_set n) ts
          by_text t h [] d = absurd (true_false _ (may_be_bare g known p h d) refl)
          by_text t h (y ∷ ys) d = record {
            front = [];
            parts = refl;
            tree = t;
            next = y;
            later = ys;
            fits = h;
            spelled = d;
            unbroken = λ f i l b. absurd (omega arith);
            wanted = λ x j. ⊎_elim (λ w. inl (refl, w)) (λ w. inr (known.may_begin n x q.0 w)) (among_either also (g.first_set n) _ j);
            at_front = λ w. (refl, λ i j. j);
            refused = among_none also (g.first_set n) _ m k;
            same = λ us j. by_false _ _ _ (after also (g.first_set n) _ j);
          }
            where
              after : (a b : Kinds) (i : ℕ) → among (a ++ b) i ≡ false → among b i ≡ false
              after a b i w = (among_neither a b i w).1

      stops_of : (also : Kinds) (ts : Lexemes T) (h : ParseStop T) → among also (first_kind g ts) ≡ false → no_level g n also ts ≡ Err h → Stops g check (TooDeep g) (call n) (relation_of (no_level g n)) also ts h
      stops_of also ts h m e =
          ⊎_elim (λ k. subst (λ z. Stops g check (TooDeep g) (call n) (relation_of (no_level g n)) also ts z) (err_is _ h (sym (by_true _ _ _ k) ∙ e)) (begun also ts k))
          (λ k. subst (λ z. Stops g check (TooDeep g) (call n) (relation_of (no_level g n)) also ts z) (err_is _ h (sym (by_false _ _ _ k) ∙ e)) (not_begun also ts m k))
          (either_way (among (g.first_set n) (first_kind g ts)))

module _ {T : Type 0} (g : Grammar T) (known : Calls g) (check : Checks T) (called : ℕ → Tree T → Type 0) (bad : ℕ → TokenRefusal → ℕ → Tree T → Type 0) (keep : CallsKeep g called bad) where
  pub keep_nested : CallsKeep g (NodeOf g check called) (BreaksInside g check bad)
  keep_nested = record {
    weak = λ n t h. subst (λ z. In g (call n) z) (sym h.is) (in_call (weak g check called bad keep h.fits));
    unbroken = λ n t f i h b. unbroken g check called bad keep f i h.fits (subst (λ z. Breaks check bad (g.body n) f i z) (node_is b.inner h.inner (sym b.is ∙ h.is)) b.breaks);
  }

  wraps_node : (outer : Checks T) (n : ℕ) → Wraps g check bad outer (BreaksInside g check bad) (g.body n) (call n) node
  wraps_node outer n = record { keeps = λ t. refl; into = λ t h. in_call h; out_of = λ f i t b l. out f i t b }
    where
      out : (f : TokenRefusal) (i : ℕ) (t : Tree T) → Breaks outer (BreaksInside g check bad) (call n) f i (node t) → Breaks check bad (g.body n) f i t
      out f i t (by_call b) = subst (λ z. Breaks check bad (g.body n) f i z) (node_is b.inner t (sym b.is)) b.breaks

  pub nested_exact : (outer : Checks T) (env : ℕ → Parser T) → ((n : ℕ) → among g.calls n ≡ true → IsExact g check called bad (call n) (env n))
      → (n : ℕ) → among g.calls n ≡ true → IsExact g outer (NodeOf g check called) (BreaksInside g check bad) (call n) (nested g check env n)
  nested_exact outer env envs n c = record { sound = sound_of; whole = whole_of; stops = stops_of }
    where
      er : IsExact g check called bad (g.body n) (parse g check env (g.body n))
      er = exact_rule g known check called bad keep env envs (g.body n) (known.plain n c).1

      sound_of : (also : Kinds) (ts : Lexemes T) (t : Tree T) (rest : Lexemes T) → nested g check env n also ts ≡ Ok (t, rest)
          → IsRead g outer (NodeOf g check called) (BreaksInside g check bad) (call n) ts rest t
      sound_of also ts t rest e = of (wrap_ok node (parse g check env (g.body n) also ts) t rest e)
        where
          of : WasWrapped node (parse g check env (g.body n) also ts) t rest → IsRead g outer (NodeOf g check called) (BreaksInside g check bad) (call n) ts rest t
          of w =
              let x = er.sound also ts w.tree rest w.was in
              subst (λ z. IsRead g outer (NodeOf g check called) (BreaksInside g check bad) (call n) ts rest z) (sym w.is)
              (fits_call (record { inner = w.tree; is = refl; fits = x.0 }), x.1, known.end n w.tree _ c ∙ x.2)

      whole_of : (also : Kinds) (t : Tree T) (rest : Lexemes T) → Fits g outer (NodeOf g check called) (call n) t → among (follow_of g (call n) t) (first_kind g rest) ≡ false
          → nested g check env n also (spell t ++ rest) ≡ Ok (t, rest)
      whole_of also t rest (fits_call h) m =
          subst (λ z. nested g check env n also (spell z ++ rest) ≡ Ok (z, rest)) (sym h.is)
          (ap (λ z. wrap node z) (er.whole also h.inner rest h.fits (sym (known.end n h.inner _ c) ∙ subst (λ z. among (follow_of g (call n) z) (first_kind g rest) ≡ false) h.is m)))

      inner : (also : Kinds) (ts : Lexemes T) (h : ParseStop T) → Stops g check bad (g.body n) (relation_of (parse g check env (g.body n))) also ts h
          → Stops g outer (BreaksInside g check bad) (call n) (relation_of (nested g check env n)) also ts h
      inner also ts (unwanted ks rest) o =
          wrap_unwanted g check bad outer (BreaksInside g check bad) (g.body n) (call n) node (wraps_node outer n) (relation_of (parse g check env (g.body n))) (relation_of (nested g check env n)) also also ts ks rest o
          (λ x d j. inl (d, j))
          (λ d. (refl, λ k j. (o.at_front d).1 k (subst (λ z. among (also ++ z) k ≡ true) (known.begin n c) j)))
          (λ us m k. ap (λ z. wrap node z) k)
      inner also ts (broken f rest) o =
          wrap_broken g check bad outer (BreaksInside g check bad) (g.body n) (call n) node (wraps_node outer n) (relation_of (parse g check env (g.body n))) (relation_of (nested g check env n)) also also ts f rest o
          (λ b. by_call (record { inner = o.tree; is = refl; breaks = b }))
          (λ us k. ap (λ z. wrap node z) k)

      stops_of : (also : Kinds) (ts : Lexemes T) (h : ParseStop T) → among also (first_kind g ts) ≡ false → nested g check env n also ts ≡ Err h
          → Stops g outer (BreaksInside g check bad) (call n) (relation_of (nested g check env n)) also ts h
      stops_of also ts h m e = inner also ts h (er.stops also ts h m (wrap_err node (parse g check env (g.body n) also ts) h e))
