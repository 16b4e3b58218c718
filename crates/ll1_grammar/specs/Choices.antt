-- The law for a choice and for a checked rule.
use Rattle.std.proofs.Common.{◌≡◌, ℕ, true, false, [], ◌∷◌, ◌++◌, inl, inr, ⊎_elim, refl, sym, ap, subst, ◌∙◌, Ok, Err, if◌then◌else◌}
use Rattle.ll1_grammar.specs.Lexemes.{Lexeme, Lexemes}
use Rattle.ll1_grammar.specs.Rule.{Kinds, Rule, Tree, Grammar}
use Rattle.ll1_grammar.specs.Rule.Rule.{alt}
use Rattle.ll1_grammar.specs.Rule.Tree.{left, right}
use Rattle.ll1_grammar.specs.Kinds.{among, are_apart, spell, is_bare, is_end, first_kind, may_be_empty, first_set, follow_of, is_ll1}
use Rattle.ll1_grammar.specs.declared.refusal.TokenRefusal.{TokenRefusal}
use Rattle.ll1_grammar.specs.Trees.{Checks, In, Fits, Breaks, GoesOn}
use Rattle.ll1_grammar.specs.Trees.In.{in_left, in_right}
use Rattle.ll1_grammar.specs.Trees.Fits.{fits_left, fits_right}
use Rattle.ll1_grammar.specs.Trees.Breaks.{on_left, on_right}
use Rattle.ll1_grammar.specs.Parse.{ParseStop, Parser, wrap}
use Rattle.ll1_grammar.specs.Parse.ParseStop.{unwanted, broken}
use Rattle.ll1_grammar.specs.AnswerParts.{WasWrapped, wrap_ok, wrap_err}
use Rattle.ll1_grammar.specs.Exact.{relation_of, Stops, IsRead, IsExact}
use Rattle.ll1_grammar.specs.Among.{among_either, among_left, among_right, among_none, among_neither, when_out, when_none, no_lexeme, true_false, is_false, apart, by_true, by_false, either_way, or_of}
use Rattle.ll1_grammar.specs.Ll1.{Calls, may_be_bare, begins, alt_ll1}
use Rattle.ll1_grammar.specs.FollowSets.{may_begin}
use Rattle.ll1_grammar.specs.KeptLimits.{CallsKeep, weak}
use Rattle.ll1_grammar.specs.Stopping.{Wraps, wrap_broken, wrap_unwanted}

module _ {T : Type 0} (g : Grammar T) where
  -- what stands behind a front that is not empty does not change what stands first
  pub same_first : (front us vs : Lexemes T) → (front ≡ [] → ⊥) → first_kind g (front ++ us) ≡ first_kind g (front ++ vs)
  same_first [] us vs n = absurd (n refl)
  same_first (y ∷ ys) us vs n = refl

  pub same_here : (front us vs : Lexemes T) (x : Lexeme T) → first_kind g (front ++ x ∷ us) ≡ first_kind g (front ++ x ∷ vs)
  same_here [] us vs x = refl
  same_here (y ∷ ys) us vs x = refl

  -- the lexeme at the front of a text is no refused one if its kind is among those reported
  pub same_kind : (ks also : Kinds) (front rest others : Lexemes T) → (front ≡ [] → (k : ℕ) → among also k ≡ true → among ks k ≡ true)
      → among ks (first_kind g others) ≡ false → among also (first_kind g (front ++ rest)) ≡ false → among also (first_kind g (front ++ others)) ≡ false
  same_kind ks also [] rest others f m n = is_false _ (λ k. true_false _ (f refl _ k) m)
  same_kind ks also (y ∷ ys) rest others f m n = n

module _ {T : Type 0} (g : Grammar T) (known : Calls g) (check : Checks T) (called : ℕ → Tree T → Type 0) (bad : ℕ → TokenRefusal → ℕ → Tree T → Type 0) (keep : CallsKeep g called bad) where
  wraps_left : (r s : Rule) → Wraps g check bad check bad r (alt r s) left
  wraps_left r s = record { keeps = λ t. refl; into = λ t h. in_left h; out_of = λ f i t b l. out f i t b }
    where
      out : (f : TokenRefusal) (i : ℕ) (t : Tree T) → Breaks check bad (alt r s) f i (left t) → Breaks check bad r f i t
      out f i t (on_left b) = b

  wraps_right : (r s : Rule) → Wraps g check bad check bad s (alt r s) right
  wraps_right r s = record { keeps = λ t. refl; into = λ t h. in_right h; out_of = λ f i t b l. out f i t b }
    where
      out : (f : TokenRefusal) (i : ℕ) (t : Tree T) → Breaks check bad (alt r s) f i (right t) → Breaks check bad s f i t
      out f i t (on_right b) = b

  abbrev pub one_way : Rule → Parser T → Parser T → Parser T
  one_way r pr ps also ts = if among (first_set g r) (first_kind g ts) then wrap left (pr also ts) else wrap right (ps (first_set g r ++ also) ts)

  module _ (r s : Rule) (p : is_ll1 g (alt r s) ≡ true) (pr ps : Parser T) (er : IsExact g check called bad r pr) (es : IsExact g check called bad s ps) where
    alt_sound : (also : Kinds) (ts : Lexemes T) (t : Tree T) (rest : Lexemes T) → one_way r pr ps also ts ≡ Ok (t, rest) → IsRead g check called bad (alt r s) ts rest t
    alt_sound also ts t rest e =
        ⊎_elim (λ m. to_left (wrap_ok left (pr also ts) t rest (sym (by_true _ _ _ m) ∙ e)))
        (λ m. to_right m (wrap_ok right (ps (first_set g r ++ also) ts) t rest (sym (by_false _ _ _ m) ∙ e)))
        (either_way (among (first_set g r) (first_kind g ts)))
      where
        to_left : WasWrapped left (pr also ts) t rest → IsRead g check called bad (alt r s) ts rest t
        to_left v = let x = er.sound also ts v.tree rest v.was in subst (λ z. IsRead g check called bad (alt r s) ts rest z) (sym v.is) (fits_left x.0, x.1, x.2)

        to_right : among (first_set g r) (first_kind g ts) ≡ false → WasWrapped right (ps (first_set g r ++ also) ts) t rest → IsRead g check called bad (alt r s) ts rest t
        to_right m v =
            let x = es.sound (first_set g r ++ also) ts v.tree rest v.was in
            subst (λ z. IsRead g check called bad (alt r s) ts rest z) (sym v.is) (
              fits_right x.0,
              x.1,
              among_none (follow_of g s v.tree) _ _ x.2 (when_none (may_be_empty g s) _ _ (λ d. when_none (is_bare v.tree) _ _ (λ q.
                  ap (λ z. among (first_set g r) (first_kind g z)) (sym (x.1 ∙ ap (λ z. z ++ rest) (no_lexeme (spell v.tree) q))) ∙ m))),
            )

    -- a text of the first begins with one of its kinds, and one of the second does not
    first_begins : (a : Tree T) (rest : Lexemes T) → In g r a → among (first_set g r) (first_kind g (spell a ++ rest)) ≡ true
    first_begins a rest h = go (spell a) refl
      where
        q : (is_ll1 g r ≡ true) × (is_ll1 g s ≡ true) × (may_be_empty g r ≡ false) × (are_apart (first_set g r) (first_set g s) ≡ true)
        q = alt_ll1 g r s p

        go : (u : Lexemes T) → spell a ≡ u → among (first_set g r) (first_kind g (u ++ rest)) ≡ true
        go [] d = absurd (true_false _ (may_be_bare g known q.0 h d) q.2)
        go (y ∷ ys) d = begins g known y ys q.0 h d

    second_begins : (b : Tree T) (rest : Lexemes T) → In g s b → among (follow_of g (alt r s) (right b)) (first_kind g rest) ≡ false → among (first_set g r) (first_kind g (spell b ++ rest)) ≡ false
    second_begins b rest h m = go (spell b) refl
      where
        q : (is_ll1 g r ≡ true) × (is_ll1 g s ≡ true) × (may_be_empty g r ≡ false) × (are_apart (first_set g r) (first_set g s) ≡ true)
        q = alt_ll1 g r s p

        go : (u : Lexemes T) → spell b ≡ u → among (first_set g r) (first_kind g (u ++ rest)) ≡ false
        go [] d = when_out (is_bare b) _ _ (when_out (may_be_empty g s) _ _ (among_neither (follow_of g s b) _ _ m).1 (may_be_bare g known q.1 h d)) (ap is_end d)
        go (y ∷ ys) d = is_false _ (λ k. true_false _ (begins g known y ys q.1 h d) (apart (first_set g r) (first_set g s) _ q.3 k))

    alt_whole : (also : Kinds) (t : Tree T) (rest : Lexemes T) → Fits g check called (alt r s) t → among (follow_of g (alt r s) t) (first_kind g rest) ≡ false
        → one_way r pr ps also (spell t ++ rest) ≡ Ok (t, rest)
    alt_whole also t rest (fits_left {a} h) m = by_true _ _ _ (first_begins a rest (weak g check called bad keep h)) ∙ ap (λ z. wrap left z) (er.whole also a rest h m)
    alt_whole also t rest (fits_right {b} h) m =
        by_false _ _ _ (second_begins b rest (weak g check called bad keep h) m)
        ∙ ap (λ z. wrap right z) (es.whole (first_set g r ++ also) b rest h (among_neither (follow_of g s b) _ _ m).0)

    alt_stops : (also : Kinds) (ts : Lexemes T) (h : ParseStop T) → among also (first_kind g ts) ≡ false → one_way r pr ps also ts ≡ Err h
        → Stops g check bad (alt r s) (relation_of (one_way r pr ps)) also ts h
    alt_stops also ts h m e =
        ⊎_elim (λ k. to_left k h (er.stops also ts h m (wrap_err left (pr also ts) h (sym (by_true _ _ _ k) ∙ e))))
        (λ k. to_right k h (es.stops (first_set g r ++ also) ts h (among_none (first_set g r) also _ k m) (wrap_err right (ps (first_set g r ++ also) ts) h (sym (by_false _ _ _ k) ∙ e))))
        (either_way (among (first_set g r) (first_kind g ts)))
      where
        q : (is_ll1 g r ≡ true) × (is_ll1 g s ≡ true) × (may_be_empty g r ≡ false) × (are_apart (first_set g r) (first_set g s) ≡ true)
        q = alt_ll1 g r s p

        to_left : among (first_set g r) (first_kind g ts) ≡ true → (h : ParseStop T) → Stops g check bad r (relation_of pr) also ts h → Stops g check bad (alt r s) (relation_of (one_way r pr ps)) also ts h
        to_left k (unwanted ks rest) o =
            wrap_unwanted g check bad check bad r (alt r s) left (wraps_left r s) (relation_of pr) (relation_of (one_way r pr ps)) also also ts ks rest o
            (λ x d j. inl (d, j)) (λ d. absurd (never d))
            (λ us n j. by_true _ _ _ (ap (λ z. among (first_set g r) z) (same_first g o.front us rest never) ∙ (ap (λ z. among (first_set g r) (first_kind g z)) (sym o.parts) ∙ k)) ∙ ap (λ z. wrap left z) j)
          where
            never : o.front ≡ [] → ⊥
            never d =
                true_false _ ((o.at_front d).1 _ (among_right also (first_set g r) _ (ap (λ z. among (first_set g r) (first_kind g z)) (sym (o.parts ∙ ap (λ z. z ++ rest) d)) ∙ k))) o.refused
        to_left k (broken f rest) o =
            wrap_broken g check bad check bad r (alt r s) left (wraps_left r s) (relation_of pr) (relation_of (one_way r pr ps)) also also ts f rest o
            (λ b. on_left b)
            (λ us j. by_true _ _ _ (ap (λ z. among (first_set g r) z) (same_here g o.front us o.others o.here) ∙ (ap (λ z. among (first_set g r) (first_kind g z)) (sym o.parts) ∙ k)) ∙ ap (λ z. wrap left z) j)

        to_right : among (first_set g r) (first_kind g ts) ≡ false → (h : ParseStop T) → Stops g check bad s (relation_of ps) (first_set g r ++ also) ts h
            → Stops g check bad (alt r s) (relation_of (one_way r pr ps)) also ts h
        to_right k (unwanted ks rest) o =
            wrap_unwanted g check bad check bad s (alt r s) right (wraps_right r s) (relation_of ps) (relation_of (one_way r pr ps)) (first_set g r ++ also) also ts ks rest o
            (λ x d j. ⊎_elim (λ u. inr (subst (λ z. GoesOn g (alt r s) z x) (sym d) (may_begin g known (alt r s) x p (among_left (first_set g r) _ _ u)))) (λ u. inl (d, u)) (among_either (first_set g r) also _ j))
            (λ d. let z = o.at_front d in (
              or_of _ _ q.2 z.0,
              λ i j. z.1 i (⊎_elim (λ u. among_left (first_set g r ++ also) _ i (among_right (first_set g r) also i u))
                  (λ u. ⊎_elim (λ v. among_left (first_set g r ++ also) _ i (among_left (first_set g r) also i v)) (λ v. among_right (first_set g r ++ also) _ i v) (among_either (first_set g r) _ i u))
                  (among_either also _ i j)),
            ))
            (λ us n j. by_false _ _ _ (same_kind g ks (first_set g r) o.front rest us (λ d i u. (o.at_front d).1 i (among_left (first_set g r ++ also) _ i (among_left (first_set g r) also i u))) n
            (ap (λ z. among (first_set g r) (first_kind g z)) (sym o.parts) ∙ k)) ∙ ap (λ z. wrap right z) j)
        to_right k (broken f rest) o =
            wrap_broken g check bad check bad s (alt r s) right (wraps_right r s) (relation_of ps) (relation_of (one_way r pr ps)) (first_set g r ++ also) also ts f rest o
            (λ b. on_right b)
            (λ us j. by_false _ _ _ (ap (λ z. among (first_set g r) z) (same_here g o.front us o.others o.here) ∙ (ap (λ z. among (first_set g r) (first_kind g z)) (sym o.parts) ∙ k)) ∙ ap (λ z. wrap right z) j)

    pub exact_alt : IsExact g check called bad (alt r s) (one_way r pr ps)
    exact_alt = record { sound = alt_sound; whole = alt_whole; stops = alt_stops }
