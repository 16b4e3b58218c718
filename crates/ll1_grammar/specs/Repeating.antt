-- The law for a repetition.
use Rattle.std.proofs.Common.{◌≡◌, ℕ, zero, suc, ◌+◌, ◌≤◌, true, false, [], ◌∷◌, ◌++◌, length, ◌⊎◌, inl, inr, ⊎_elim, refl, sym, ap, subst, ◌∙◌, Ok, Err, append_assoc, arith, length-append, le_refl}
use Rattle.ll1_grammar.specs.Lexemes.{Lexemes}
use Rattle.ll1_grammar.specs.Rule.{Kinds, Rule, Tree, Grammar}
use Rattle.ll1_grammar.specs.Rule.Rule.{star}
use Rattle.ll1_grammar.specs.Rule.Tree.{last, turn}
use Rattle.ll1_grammar.specs.Kinds.{among, are_apart, within, spell, first_kind, of_last, may_be_empty, first_set, follow_set, follow_of, behind, is_ll1}
use Rattle.ll1_grammar.specs.declared.refusal.TokenRefusal.{TokenRefusal}
use Rattle.ll1_grammar.specs.Trees.{Checks, Fits, Breaks}
use Rattle.ll1_grammar.specs.Trees.In.{in_last, in_turn}
use Rattle.ll1_grammar.specs.Trees.Fits.{fits_last, fits_turn}
use Rattle.ll1_grammar.specs.Trees.Breaks.{in_this_turn, in_later_turn}
use Rattle.ll1_grammar.specs.Parse.{ParseStop, Answer, Parser, wrap, go_on, turns}
use Rattle.ll1_grammar.specs.Parse.ParseStop.{unwanted, broken}
use Rattle.ll1_grammar.specs.AnswerParts.{WasRead, go_on_ok, go_on_err, ok_parts, wrap_ok, wrap_err, not_both}
use Rattle.ll1_grammar.specs.Exact.{ParseRelation, relation_of, Stops, IsRead, IsExact}
use Rattle.ll1_grammar.specs.Among.{among_right, among_none, among_neither, append_none, within_of, within_none, no_lexeme, true_false, length_of, is_false, by_true, by_false, either_way}
use Rattle.ll1_grammar.specs.Ll1.{Calls, may_be_bare, begins, star_ll1, no_start}
use Rattle.ll1_grammar.specs.FollowSets.{bound, last_turn, last_one, later_too}
use Rattle.ll1_grammar.specs.KeptLimits.{CallsKeep, weak, unbroken}
use Rattle.ll1_grammar.specs.Steps.{nothing_behind, parted}
use Rattle.ll1_grammar.specs.Choices.{same_first, same_here}
use Rattle.ll1_grammar.specs.Stopping.{Wraps, Joins, wrap_broken, wrap_unwanted, before_broken, before_unwanted, behind_broken, behind_unwanted}

module _ {T : Type 0} (g : Grammar T) (known : Calls g) (check : Checks T) (called : ℕ → Tree T → Type 0) (bad : ℕ → TokenRefusal → ℕ → Tree T → Type 0) (keep : CallsKeep g called bad) where
  joins_turn : (r : Rule) → Joins g check bad r (star r) (star r) turn
  joins_turn r = record {
    keeps = λ a b. refl;
    into = λ a b h k. in_turn h k;
    first = λ f i a b x. in_this_turn x;
    second = λ f i j a b e x. in_later_turn j e x;
    out_of = out;
  }
    where
      out : (f : TokenRefusal) (i : ℕ) (a b : Tree T) → Breaks check bad (star r) f i (turn a b)
          → Breaks check bad r f i a ⊎ ((j : ℕ) × (i ≡ length (spell a) + j) × Breaks check bad (star r) f j b)
      out f i a b (in_this_turn x) = inl x
      out f i a b (in_later_turn j e x) = inr (j, e, x)

  wraps_itself : (r : Rule) → Wraps g check bad check bad r r (λ t. t)
  wraps_itself r = record { keeps = λ t. refl; into = λ t h. h; out_of = λ f i t b l. b }

  module _ (r : Rule) (p : is_ll1 g (star r) ≡ true) (pr : Parser T) (er : IsExact g check called bad r pr) where
    plain_parts : (is_ll1 g r ≡ true) × (may_be_empty g r ≡ false) × (are_apart (follow_set g r) (first_set g r) ≡ true)
    plain_parts = star_ll1 g r p

    turn_full : (a : Tree T) → Fits g check called r a → spell a ≡ [] → ⊥
    turn_full a h d = let q = plain_parts in true_false _ (may_be_bare g known q.0 (weak g check called bad keep h) d) q.1

    turn_long : (a : Tree T) → Fits g check called r a → 1 ≤ length (spell a)
    turn_long a h = go (spell a) refl
      where
        go : (u : Lexemes T) → spell a ≡ u → 1 ≤ length u
        go [] d = absurd (turn_full a h d)
        go (y ∷ ys) d = omega arith

    turn_begins : (a : Tree T) → Fits g check called r a → (rest : Lexemes T) → among (first_set g r) (first_kind g (spell a ++ rest)) ≡ true
    turn_begins a h rest = go (spell a) refl
      where
        go : (u : Lexemes T) → spell a ≡ u → among (first_set g r) (first_kind g (u ++ rest)) ≡ true
        go [] d = absurd (turn_full a h d)
        go (y ∷ ys) d = begins g known y ys plain_parts.0 (weak g check called bad keep h) d

    only_last : {t : Tree T} → Fits g check called (star r) t → spell t ≡ [] → t ≡ last
    only_last fits_last d = refl
    only_last (fits_turn {a} {t} h k) d = absurd (turn_full a h (append_none (spell a) (spell t) d).0)

    -- one turn more
    one_more : (a t : Tree T) (ts us rest : Lexemes T) → IsRead g check called bad r ts us a → IsRead g check called bad (star r) us rest t → IsRead g check called bad (star r) ts rest (turn a t)
    one_more a t ts us rest x y =
        let n = among_neither (first_set g r) _ _ y.2 in (
          fits_turn x.0 y.0,
          x.1 ∙ (ap (λ z. spell a ++ z) y.1 ∙ sym (append_assoc (spell a) (spell t) rest)),
          among_none (first_set g r) _ _ n.0 (within_none (follow_set g r) (of_last (follow_of g r) (turn a t)) _ (is_false _ (λ k.
              ⊎_elim
              (λ w. true_false _ (ap (λ z. among (follow_of g r a) (first_kind g z)) (y.1 ∙ ap (λ z. spell z ++ rest) w.0) ∙ w.1) x.2)
              (λ w. let b = last_one (follow_of g r) t _ w in true_false _ (within_of (follow_set g r) (of_last (follow_of g r) t) _ (bound g known.bound r b.0 _ b.1) w) n.1)
              (last_turn (follow_of g r) a t _ k)))),
        )

    shorter : (a : Tree T) (ts us : Lexemes T) (n : ℕ) → Fits g check called r a → ts ≡ spell a ++ us → length ts ≤ suc n → length us ≤ n
    shorter a ts us n h e l = let k = turn_long a h in omega (arith, length_of (spell a) us e)

    turns_sound : (n : ℕ) (also : Kinds) (ts : Lexemes T) (t : Tree T) (rest : Lexemes T) → length ts ≤ n → turns g r pr n also ts ≡ Ok (t, rest) → IsRead g check called bad (star r) ts rest t
    turns_sound zero also [] t rest l e =
        let q = ok_parts last t [] rest e in
        subst (λ z. IsRead g check called bad (star r) [] rest z) q.0 (
          fits_last,
          q.1,
          subst (λ z. among (first_set g r ++ within (follow_set g r) []) (first_kind g z) ≡ false) q.1
              (among_none (first_set g r) _ _ (no_start g r plain_parts.0) (within_none (follow_set g r) [] _ refl)),
        )
    turns_sound zero also (x ∷ xs) t rest l e = absurd (omega arith)
    turns_sound (suc n) also ts t rest l e =
        ⊎_elim (λ m. of_turn (go_on_ok (pr also ts) (λ a us. wrap (turn a) (turns g r pr n (behind g r a also) us)) (t, rest) (sym (by_true _ _ _ m) ∙ e))
        (λ more us u vs k d. turns_sound n more us u vs k d))
        (λ m. let q = ok_parts last t ts rest (sym (by_false _ _ _ m) ∙ e) in
        subst (λ z. IsRead g check called bad (star r) ts rest z) q.0
        (fits_last, q.1, among_none (first_set g r) _ _ (ap (λ z. among (first_set g r) (first_kind g z)) (sym q.1) ∙ m) (within_none (follow_set g r) [] _ refl)))
        (either_way (among (first_set g r) (first_kind g ts)))
      where
        of_turn : WasRead (pr also ts) (λ a us. wrap (turn a) (turns g r pr n (behind g r a also) us)) (Ok (t, rest))
            → ((more : Kinds) (us : Lexemes T) (u : Tree T) (vs : Lexemes T) → length us ≤ n → turns g r pr n more us ≡ Ok (u, vs) → IsRead g check called bad (star r) us vs u)
            → IsRead g check called bad (star r) ts rest t
        of_turn v again =
            let x = er.sound also ts v.tree v.rest v.was in
            let w = wrap_ok (turn v.tree) (turns g r pr n (behind g r v.tree also) v.rest) t rest v.then_was in
            subst (λ z. IsRead g check called bad (star r) ts rest z) (sym w.is)
            (one_more v.tree w.tree ts v.rest rest x (again (behind g r v.tree also) v.rest w.tree rest (shorter v.tree ts v.rest n x.0 x.1 l) w.was))

    -- a turn that is read, and what is answered behind it
    step_ok : (n : ℕ) (also : Kinds) (a : Tree T) (us : Lexemes T) (b : Answer T) → Fits g check called r a → among (follow_of g r a) (first_kind g us) ≡ false → length (spell a ++ us) ≤ n
        → ((i : ℕ) → length us ≤ i → turns g r pr i (behind g r a also) us ≡ b) → turns g r pr n also (spell a ++ us) ≡ wrap (turn a) b
    step_ok zero also a us b h m l f = absurd (let k = turn_long a h in omega (arith, length-append (spell a) us))
    step_ok (suc n) also a us b h m l f =
        by_true _ _ _ (turn_begins a h us)
        ∙ (ap (λ z. go_on z (λ a us. wrap (turn a) (turns g r pr n (behind g r a also) us))) (er.whole also a us h m)
        ∙ ap (λ z. wrap (turn a) z) (f n (shorter a (spell a ++ us) us n h refl l)))

    step_err : (n : ℕ) (also : Kinds) (ts : Lexemes T) (h : ParseStop T) → length ts ≤ n → among (first_set g r) (first_kind g ts) ≡ true → pr also ts ≡ Err h → turns g r pr n also ts ≡ Err h
    step_err zero also [] h l m e = absurd (true_false _ m (no_start g r plain_parts.0))
    step_err zero also (x ∷ xs) h l m e = absurd (omega arith)
    step_err (suc n) also ts h l m e = by_true _ _ _ m ∙ ap (λ z. go_on z (λ a us. wrap (turn a) (turns g r pr n (behind g r a also) us))) e

    turns_whole : {t : Tree T} → Fits g check called (star r) t → (n : ℕ) (also : Kinds) (rest : Lexemes T) → length (spell t ++ rest) ≤ n
        → among (follow_of g (star r) t) (first_kind g rest) ≡ false → turns g r pr n also (spell t ++ rest) ≡ Ok (t, rest)
    turns_whole fits_last zero also rest l m = refl
    turns_whole fits_last (suc n) also rest l m = by_false _ _ _ (among_neither (first_set g r) _ _ m).0
    turns_whole (fits_turn {a} {t} h k) n also rest l m =
        rw (append_assoc (spell a) (spell t) rest)
        (step_ok n also a (spell t ++ rest) (Ok (t, rest)) h
        (parted g known r (star r) p plain_parts.2 a t (weak g check called bad keep k) rest (λ d. is_false _ (λ j.
        true_false _ (within_of (follow_set g r) (of_last (follow_of g r) (turn a t)) _ (bound g known.bound r a _ j)
        (ap (λ z. among (of_last (follow_of g r) (turn a z)) (first_kind g rest)) (only_last k d) ∙ j)) (among_neither (first_set g r) _ _ m).1)))
        (omega (arith, ap length (append_assoc (spell a) (spell t) rest)))
        (λ i j. turns_whole k i (behind g r a also) rest j
        (among_none (first_set g r) _ _ (among_neither (first_set g r) _ _ m).0 (within_none (follow_set g r) (of_last (follow_of g r) t) _ (is_false _ (λ j.
        let b = last_one (follow_of g r) t _ j in
        true_false _ (within_of (follow_set g r) (of_last (follow_of g r) (turn a t)) _ (bound g known.bound r b.0 _ b.1) (later_too (follow_of g r) a t _ j)) (among_neither (first_set g r) _ _ m).1))))))

    -- whatever count is enough
    abbrev enough : ParseRelation T
    enough also ts a = (n : ℕ) → length ts ≤ n → turns g r pr n also ts ≡ a

    turns_stops : (n : ℕ) (also : Kinds) (ts : Lexemes T) (h : ParseStop T) → length ts ≤ n → among also (first_kind g ts) ≡ false → turns g r pr n also ts ≡ Err h
        → Stops g check bad (star r) enough also ts h
    turns_stops zero also ts h l m e = absurd (not_both (last, ts) h e)
    turns_stops (suc n) also ts h l m e =
        ⊎_elim (λ k. ⊎_elim (λ d. of_first k h (er.stops also ts h m d)) (λ v. of_later k v (er.sound also ts v.tree v.rest v.was) (λ more us j i w d. turns_stops n more us j i w d))
        (go_on_err (pr also ts) (λ a us. wrap (turn a) (turns g r pr n (behind g r a also) us)) h (sym (by_true _ _ _ k) ∙ e)))
        (λ k. absurd (not_both (last, ts) h (sym (by_false _ _ _ k) ∙ e)))
        (either_way (among (first_set g r) (first_kind g ts)))
      where
        of_first : among (first_set g r) (first_kind g ts) ≡ true → (h : ParseStop T) → Stops g check bad r (relation_of pr) also ts h → Stops g check bad (star r) enough also ts h
        of_first k (unwanted ks rest) o =
            before_unwanted g check bad r (star r) (star r) turn (joins_turn r) (last, in_last) (relation_of pr) enough also ts ks rest o
            (λ d. absurd (never d))
            (λ us w j i c. step_err i also (o.front ++ us) (unwanted ks us) c
            (ap (λ z. among (first_set g r) z) (same_first g o.front us rest never) ∙ (ap (λ z. among (first_set g r) (first_kind g z)) (sym o.parts) ∙ k)) j)
          where
            never : o.front ≡ [] → ⊥
            never d =
                true_false _ ((o.at_front d).1 _ (among_right also (first_set g r) _ (ap (λ z. among (first_set g r) (first_kind g z)) (sym (o.parts ∙ ap (λ z. z ++ rest) d)) ∙ k))) o.refused
        of_first k (broken f rest) o =
            before_broken g check bad r (star r) (star r) turn (joins_turn r) (last, in_last) (relation_of pr) enough also ts f rest o
            (λ us j i c. step_err i also (o.front ++ o.here ∷ us) (broken f (o.here ∷ us)) c
            (ap (λ z. among (first_set g r) z) (same_here g o.front us o.others o.here) ∙ (ap (λ z. among (first_set g r) (first_kind g z)) (sym o.parts) ∙ k)) j)

        behind_stops : (a : Tree T) (us : Lexemes T) → IsRead g check called bad r ts us a → (h : ParseStop T) → Stops g check bad (star r) enough (behind g r a also) us h
            → Stops g check bad (star r) enough also ts h
        behind_stops a us x (unwanted ks rest) o =
            behind_unwanted g known check bad r (star r) (star r) turn (joins_turn r) (last, in_last) plain_parts.0 a (weak g check called bad keep x.0)
            (λ f i b. unbroken g check called bad keep f i x.0 b) enough enough also ts us ks rest x.1 x.2 o
            (λ c d. absurd (turn_full a x.0 c))
            (λ vs off w j i c. step_ok i also a (o.front ++ vs) (Err (unwanted ks vs)) x.0 off c j)
        behind_stops a us x (broken f rest) o =
            behind_broken g check bad r (star r) (star r) turn (joins_turn r) a (weak g check called bad keep x.0) (λ f i b. unbroken g check called bad keep f i x.0 b)
            enough enough (behind g r a also) also ts us f rest x.1 o
            (λ vs j i c. step_ok i also a (o.front ++ o.here ∷ vs) (Err (broken f (o.here ∷ vs))) x.0
            (ap (λ z. among (follow_of g r a) z) (same_here g o.front vs o.others o.here) ∙ (ap (λ z. among (follow_of g r a) (first_kind g z)) (sym o.parts) ∙ x.2)) c j)

        of_later : among (first_set g r) (first_kind g ts) ≡ true → (v : WasRead (pr also ts) (λ a us. wrap (turn a) (turns g r pr n (behind g r a also) us)) (Err h)) → IsRead g check called bad r ts v.rest v.tree
            → ((more : Kinds) (us : Lexemes T) (j : ParseStop T) → length us ≤ n → among more (first_kind g us) ≡ false → turns g r pr n more us ≡ Err j → Stops g check bad (star r) enough more us j)
            → Stops g check bad (star r) enough also ts h
        of_later k v x again =
            behind_stops v.tree v.rest x h (again (behind g r v.tree also) v.rest h (shorter v.tree ts v.rest n x.0 x.1 l)
            (nothing_behind g known r v.tree also _ x.2 (λ d. absurd (turn_full v.tree x.0 (no_lexeme (spell v.tree) d))))
            (wrap_err (turn v.tree) (turns g r pr n (behind g r v.tree also) v.rest) h v.then_was))

    star_stops : (also : Kinds) (ts : Lexemes T) (h : ParseStop T) → Stops g check bad (star r) enough also ts h → Stops g check bad (star r) (relation_of (λ also ts. turns g r pr (length ts) also ts)) also ts h
    star_stops also ts (unwanted ks rest) o =
        wrap_unwanted g check bad check bad (star r) (star r) (λ t. t) (wraps_itself (star r)) enough (relation_of (λ also ts. turns g r pr (length ts) also ts)) also also ts ks rest o
        (λ x d j. inl (d, j)) o.at_front (λ us m f. f (length (o.front ++ us)) (le_refl _))
    star_stops also ts (broken f rest) o =
        wrap_broken g check bad check bad (star r) (star r) (λ t. t) (wraps_itself (star r)) enough (relation_of (λ also ts. turns g r pr (length ts) also ts)) also also ts f rest o
        (λ b. b) (λ us h. h (length (o.front ++ o.here ∷ us)) (le_refl _))

    pub exact_star : IsExact g check called bad (star r) (λ also ts. turns g r pr (length ts) also ts)
    exact_star = record {
      sound = λ also ts t rest e. turns_sound (length ts) also ts t rest (le_refl _) e;
      whole = λ also t rest h m. turns_whole h (length (spell t ++ rest)) also rest (le_refl _) m;
      stops = λ also ts h m e. star_stops also ts h (turns_stops (length ts) also ts h (le_refl _) m e);
    }
