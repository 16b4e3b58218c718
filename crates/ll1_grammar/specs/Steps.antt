-- The law for each way to build a rule but repetition.
use Rattle.std.proofs.Common.{◌≡◌, ℕ, ◌+◌, true, false, [], ◌∷◌, ◌++◌, length, ◌⊎◌, inl, inr, ⊎_elim, refl, sym, ap, subst, ◌∙◌, Ok, Err, append_assoc, arith, ◌&&◌}
use Rattle.ll1_grammar.specs.Lexemes.{Lexeme, Lexemes}
use Rattle.ll1_grammar.specs.Rule.{Kinds, Rule, Tree, Grammar}
use Rattle.ll1_grammar.specs.Rule.Rule.{empty, one, seq}
use Rattle.ll1_grammar.specs.Rule.Tree.{nothing, leaf, pair}
use Rattle.ll1_grammar.specs.Kinds.{among, are_apart, within, spell, is_bare, is_end, first_kind, may_be_empty, first_set, follow_set, follow_of, behind, is_ll1, has_sample}
use Rattle.ll1_grammar.specs.declared.refusal.TokenRefusal.{TokenRefusal}
use Rattle.ll1_grammar.specs.Trees.{Checks, In, Fits, Breaks}
use Rattle.ll1_grammar.specs.Trees.In.{in_one, in_seq}
use Rattle.ll1_grammar.specs.Trees.Fits.{fits_empty, fits_one, fits_seq}
use Rattle.ll1_grammar.specs.Trees.Breaks.{in_first, in_second}
use Rattle.ll1_grammar.specs.Parse.{ParseStop, Answer, Parser, wrap, go_on, one_of}
use Rattle.ll1_grammar.specs.Parse.ParseStop.{unwanted, broken}
use Rattle.ll1_grammar.specs.AnswerParts.{WasRead, go_on_ok, go_on_err, WasWrapped, ok_parts, wrap_ok, wrap_err, not_both, err_is}
use Rattle.ll1_grammar.specs.Exact.{relation_of, Unwanted, Stops, IsRead, IsExact}
use Rattle.ll1_grammar.specs.Among.{among_either, among_left, among_right, among_none, among_neither, within_of, within_out, within_none, when_in, when_out, when_none, no_lexeme, true_false, is_false, apart, by_true, by_false, either_way, and_false}
use Rattle.ll1_grammar.specs.Ll1.{Calls, may_be_bare, begins, seq_ll1, one_ll1}
use Rattle.ll1_grammar.specs.FollowSets.{bound, bare_ends, a_text}
use Rattle.ll1_grammar.specs.KeptLimits.{CallsKeep, weak, unbroken}
use Rattle.ll1_grammar.specs.Stopping.{Joins, before_broken, before_unwanted, behind_broken, behind_unwanted}

module _ {T : Type 0} (g : Grammar T) (known : Calls g) where
  pub sampled : (ks : Kinds) → has_sample g ks ≡ true → (x : Lexeme T) × (among ks (g.kind x.1) ≡ true)
  sampled [] p = absurd (cc)
  sampled (k ∷ ks) p = (g.sample k, by_true _ true (among ks (g.kind (g.sample k).1)) p)

  -- what was reported is not there, and what was read does not go on: so nothing of both comes
  pub nothing_behind : (r : Rule) (a : Tree T) (also : Kinds) (k : ℕ) → among (follow_of g r a) k ≡ false → (is_bare a ≡ true → among also k ≡ false) → among (behind g r a also) k ≡ false
  nothing_behind r a also k e f =
      among_none (within (follow_set g r) (follow_of g r a)) _ k (within_none (follow_set g r) (follow_of g r a) k e) (when_none (may_be_empty g r) _ k (λ d. when_none (is_bare a) also k f))

  -- a text behind the tree begins with no kind with which the tree goes on
  pub parted : (r s : Rule) → is_ll1 g s ≡ true → are_apart (follow_set g r) (first_set g s) ≡ true → (a b : Tree T) → In g s b → (rest : Lexemes T)
      → (spell b ≡ [] → among (follow_of g r a) (first_kind g rest) ≡ false) → among (follow_of g r a) (first_kind g (spell b ++ rest)) ≡ false
  parted r s p q a b h rest none = go (spell b) refl
    where
      go : (u : Lexemes T) → spell b ≡ u → among (follow_of g r a) (first_kind g (u ++ rest)) ≡ false
      go [] d = none d
      go (y ∷ ys) d =
          is_false _ (λ k. true_false _ (begins g known y ys p h d) (apart (follow_set g r) (first_set g s) _ q (bound g known.bound r a _ k)))

module _ {T : Type 0} (g : Grammar T) (known : Calls g) (check : Checks T) (called : ℕ → Tree T → Type 0) (bad : ℕ → TokenRefusal → ℕ → Tree T → Type 0) (keep : CallsKeep g called bad) where
  pub exact_empty : IsExact g check called bad empty (λ also ts. Ok (nothing, ts))
  exact_empty = record {
    sound = λ also ts t rest e. let p = ok_parts nothing t ts rest e in subst (λ z. IsRead g check called bad empty ts rest z) p.0 (fits_empty, p.1, refl);
    whole = λ also t rest h m. whole_of also t rest h;
    stops = λ also ts h m e. absurd (not_both (nothing, ts) h e);
  }
    where
      whole_of : (also : Kinds) (t : Tree T) (rest : Lexemes T) → Fits g check called empty t → let a : Answer T = Ok (nothing, spell t ++ rest) in a ≡ Ok (t, rest)
      whole_of also t rest fits_empty = refl

  pub exact_one : (ks : Kinds) → is_ll1 g (one ks) ≡ true → IsExact g check called bad (one ks) (one_of g ks)
  exact_one ks p = record { sound = sound_of; whole = whole_of; stops = stops_of }
    where
      sound_of : (also : Kinds) (ts : Lexemes T) (t : Tree T) (rest : Lexemes T) → one_of g ks also ts ≡ Ok (t, rest) → IsRead g check called bad (one ks) ts rest t
      sound_of also [] t rest e = absurd (not_both (t, rest) (unwanted (also ++ ks) []) (sym e))
      sound_of also (x ∷ xs) t rest e = go (either_way (among ks (g.kind x.1)))
        where
          go : (among ks (g.kind x.1) ≡ true) ⊎ (among ks (g.kind x.1) ≡ false) → IsRead g check called bad (one ks) (x ∷ xs) rest t
          go (inl m) =
              let q = ok_parts (leaf x) t xs rest (sym (by_true _ _ _ m) ∙ e) in
              subst (λ z. IsRead g check called bad (one ks) (x ∷ xs) rest z) q.0 (fits_one m, ap (λ z. x ∷ z) q.1, refl)
          go (inr m) = absurd (not_both (t, rest) (unwanted (also ++ ks) (x ∷ xs)) (sym e ∙ by_false _ _ _ m))

      whole_of : (also : Kinds) (t : Tree T) (rest : Lexemes T) → Fits g check called (one ks) t → among (follow_of g (one ks) t) (first_kind g rest) ≡ false → one_of g ks also (spell t ++ rest) ≡ Ok (t, rest)
      whole_of also t rest (fits_one m) n = by_true _ _ _ m

      halted : (also : Kinds) (us : Lexemes T) → among ks (first_kind g us) ≡ false → one_of g ks also us ≡ Err (unwanted (also ++ ks) us)
      halted also [] m = refl
      halted also (x ∷ xs) m = by_false _ _ _ m

      halts : (also : Kinds) (ts : Lexemes T) → among also (first_kind g ts) ≡ false → among ks (first_kind g ts) ≡ false
          → Unwanted g check bad (one ks) (relation_of (one_of g ks)) also ts (also ++ ks) ts
      halts also ts m n =
          let x = sampled g known ks (one_ll1 g ks p).1 in
          record {
            front = [];
            parts = refl;
            tree = leaf x.0;
            next = x.0;
            later = [];
            fits = in_one x.1;
            spelled = refl;
            unbroken = λ f i h b. absurd (omega arith);
            wanted = λ y k. ⊎_elim (λ j. inl (refl, j)) (λ j. inr (record { tree = leaf y; more = []; fits = in_one j; spelled = refl })) (among_either also ks _ k);
            at_front = λ d. (refl, λ k j. j);
            refused = among_none also ks _ m n;
            same = λ us k. halted also us (among_neither also ks _ k).1;
          }

      stops_of : (also : Kinds) (ts : Lexemes T) (h : ParseStop T) → among also (first_kind g ts) ≡ false → one_of g ks also ts ≡ Err h → Stops g check bad (one ks) (relation_of (one_of g ks)) also ts h
      stops_of also [] h m e = subst (λ z. Stops g check bad (one ks) (relation_of (one_of g ks)) also [] z) (err_is _ _ e) (halts also [] m (one_ll1 g ks p).0)
      stops_of also (x ∷ xs) h m e = go (either_way (among ks (g.kind x.1)))
        where
          go : (among ks (g.kind x.1) ≡ true) ⊎ (among ks (g.kind x.1) ≡ false) → Stops g check bad (one ks) (relation_of (one_of g ks)) also (x ∷ xs) h
          go (inl n) = absurd (not_both (leaf x, xs) h (sym (by_true _ _ _ n) ∙ e))
          go (inr n) = subst (λ z. Stops g check bad (one ks) (relation_of (one_of g ks)) also (x ∷ xs) z) (err_is _ _ (sym (by_false _ _ _ n) ∙ e)) (halts also (x ∷ xs) m n)

  joins_seq : (r s : Rule) → Joins g check bad r s (seq r s) pair
  joins_seq r s = record {
    keeps = λ a b. refl;
    into = λ a b h k. in_seq h k;
    first = λ f i a b x. in_first x;
    second = λ f i j a b e x. in_second j e x;
    out_of = out;
  }
    where
      out : (f : TokenRefusal) (i : ℕ) (a b : Tree T) → Breaks check bad (seq r s) f i (pair a b) → Breaks check bad r f i a ⊎ ((j : ℕ) × (i ≡ length (spell a) + j) × Breaks check bad s f j b)
      out f i a b (in_first x) = inl x
      out f i a b (in_second j e x) = inr (j, e, x)

  -- a part and what is behind it, by the tree that was read first
  abbrev pub in_turn_of : Rule → (Tree T → Tree T → Tree T) → Parser T → Parser T → Parser T
  in_turn_of r w pr ps also ts = go_on (pr also ts) (λ a us. wrap (w a) (ps (behind g r a also) us))

  module _ (r s : Rule) (p : is_ll1 g (seq r s) ≡ true) (pr ps : Parser T) (er : IsExact g check called bad r pr) (es : IsExact g check called bad s ps) where
    seq_sound : (also : Kinds) (ts : Lexemes T) (t : Tree T) (rest : Lexemes T) → in_turn_of r pair pr ps also ts ≡ Ok (t, rest) → IsRead g check called bad (seq r s) ts rest t
    seq_sound also ts t rest e = of_first (go_on_ok (pr also ts) (λ a us. wrap (pair a) (ps (behind g r a also) us)) (t, rest) e)
      where
        both : (a b : Tree T) (us : Lexemes T) → IsRead g check called bad r ts us a → IsRead g check called bad s us rest b → IsRead g check called bad (seq r s) ts rest (pair a b)
        both a b us x y = (
          fits_seq x.0 y.0,
          x.1 ∙ (ap (λ z. spell a ++ z) y.1 ∙ sym (append_assoc (spell a) (spell b) rest)),
          among_none (within (follow_set g s) (follow_of g s b)) _ _ (within_none (follow_set g s) (follow_of g s b) _ y.2)
              (when_none (may_be_empty g s) _ _ (λ d. when_none (is_bare b) _ _ (λ q. within_none (follow_set g r) (follow_of g r a) _
              (ap (λ z. among (follow_of g r a) (first_kind g z)) (sym (y.1 ∙ ap (λ z. z ++ rest) (no_lexeme (spell b) q))) ∙ x.2)))),
        )

        of_second : (a : Tree T) (us : Lexemes T) → IsRead g check called bad r ts us a → WasWrapped (pair a) (ps (behind g r a also) us) t rest → IsRead g check called bad (seq r s) ts rest t
        of_second a us x v = subst (λ z. IsRead g check called bad (seq r s) ts rest z) (sym v.is) (both a v.tree us x (es.sound _ us v.tree rest v.was))

        of_first : WasRead (pr also ts) (λ a us. wrap (pair a) (ps (behind g r a also) us)) (Ok (t, rest)) → IsRead g check called bad (seq r s) ts rest t
        of_first v = of_second v.tree v.rest (er.sound also ts v.tree v.rest v.was) (wrap_ok (pair v.tree) (ps (behind g r v.tree also) v.rest) t rest v.then_was)

    seq_whole : (also : Kinds) (t : Tree T) (rest : Lexemes T) → Fits g check called (seq r s) t → among (follow_of g (seq r s) t) (first_kind g rest) ≡ false
        → in_turn_of r pair pr ps also (spell t ++ rest) ≡ Ok (t, rest)
    seq_whole also t rest (fits_seq {a} {b} h k) m =
        let q = seq_ll1 g r s p in
        let n = among_neither (within (follow_set g s) (follow_of g s b)) _ _ m in
        let second : among (follow_of g s b) (first_kind g rest) ≡ false = within_out (follow_set g s) (follow_of g s b) _ (bound g known.bound s b _) n.0 in
        let inb : In g s b = weak g check called bad keep k in
        let first : among (follow_of g r a) (first_kind g (spell b ++ rest)) ≡ false = parted g known r s q.1 q.2 a b inb rest (λ d.
        within_out (follow_set g r) (follow_of g r a) _ (bound g known.bound r a _)
        (when_out (is_bare b) _ _ (when_out (may_be_empty g s) _ _ n.1 (may_be_bare g known q.1 inb d)) (ap is_end d))) in
        rw (append_assoc (spell a) (spell b) rest) (ap (λ z. go_on z (λ a us. wrap (pair a) (ps (behind g r a also) us))) (er.whole also a (spell b ++ rest) h first)
        ∙ ap (λ z. wrap (pair a) z) (es.whole (behind g r a also) b rest k second))

    seq_stops : (also : Kinds) (ts : Lexemes T) (h : ParseStop T) → among also (first_kind g ts) ≡ false → in_turn_of r pair pr ps also ts ≡ Err h
        → Stops g check bad (seq r s) (relation_of (in_turn_of r pair pr ps)) also ts h
    seq_stops also ts h m e =
        ⊎_elim (λ d. of_first h (er.stops also ts h m d)) (λ v. of_second v.tree v.rest (er.sound also ts v.tree v.rest v.was) (wrap_err (pair v.tree) (ps (behind g r v.tree also) v.rest) h v.then_was))
        (go_on_err (pr also ts) (λ a us. wrap (pair a) (ps (behind g r a also) us)) h e)
      where
        q : (is_ll1 g r ≡ true) × (is_ll1 g s ≡ true) × (are_apart (follow_set g r) (first_set g s) ≡ true)
        q = seq_ll1 g r s p

        of_first : (h : ParseStop T) → Stops g check bad r (relation_of pr) also ts h → Stops g check bad (seq r s) (relation_of (in_turn_of r pair pr ps)) also ts h
        of_first (unwanted ks rest) o =
            before_unwanted g check bad r s (seq r s) pair (joins_seq r s) (a_text g known.text s q.1) (relation_of pr) (relation_of (in_turn_of r pair pr ps)) also ts ks rest o
            (λ d. let z = o.at_front d in (
              ap (λ z. z && may_be_empty g s) z.0,
              λ k j. ⊎_elim (λ u. z.1 k (among_left also _ k u))
                  (λ u. ⊎_elim (λ v. z.1 k (among_right also _ k v)) (λ v. absurd (true_false _ (when_in (may_be_empty g r) _ k v).0 z.0)) (among_either (first_set g r) _ k u))
                  (among_either also _ k j),
            ))
            (λ us n k. ap (λ z. go_on z (λ a us. wrap (pair a) (ps (behind g r a also) us))) k)
        of_first (broken f rest) o =
            before_broken g check bad r s (seq r s) pair (joins_seq r s) (a_text g known.text s q.1) (relation_of pr) (relation_of (in_turn_of r pair pr ps)) also ts f rest o
            (λ us k. ap (λ z. go_on z (λ a us. wrap (pair a) (ps (behind g r a also) us))) k)

        after_first : (a : Tree T) (us : Lexemes T) → Fits g check called r a → among (follow_of g r a) (first_kind g us) ≡ false → (b : Answer T) → ps (behind g r a also) us ≡ b
            → in_turn_of r pair pr ps also (spell a ++ us) ≡ wrap (pair a) b
        after_first a us f n b k = ap (λ z. go_on z (λ a us. wrap (pair a) (ps (behind g r a also) us))) (er.whole also a us f n) ∙ ap (λ z. wrap (pair a) z) k

        reported : (a : Tree T) (us : Lexemes T) → IsRead g check called bad r ts us a → among (behind g r a also) (first_kind g us) ≡ false
        reported a us x =
            nothing_behind g known r a also _ x.2 (λ d. ap (λ z. among also (first_kind g z)) (sym (x.1 ∙ ap (λ z. z ++ us) (no_lexeme (spell a) d))) ∙ m)

        behind_stops : (a : Tree T) (us : Lexemes T) → IsRead g check called bad r ts us a → (h : ParseStop T) → Stops g check bad s (relation_of ps) (behind g r a also) us h
            → Stops g check bad (seq r s) (relation_of (in_turn_of r pair pr ps)) also ts h
        behind_stops a us x (unwanted ks rest) o =
            behind_unwanted g known check bad r s (seq r s) pair (joins_seq r s) (a_text g known.text s q.1) q.0 a (weak g check called bad keep x.0)
            (λ f i b. unbroken g check called bad keep f i x.0 b) (relation_of ps) (relation_of (in_turn_of r pair pr ps)) also ts us ks rest x.1 x.2 o
            (λ c d. let z = o.at_front d in (
              and_false _ _ z.0,
              λ k j. z.1 k (⊎_elim
                  (λ u. among_left (behind g r a also) _ k (among_right (within (follow_set g r) (follow_of g r a)) _ k
                  (rw (may_be_bare g known q.0 (weak g check called bad keep x.0) c, c) u)))
                  (λ u. ⊎_elim
                  (λ v. let w = bare_ends g known k q.0 (weak g check called bad keep x.0) c v in
                  among_left (behind g r a also) _ k (among_left (within (follow_set g r) (follow_of g r a)) _ k (within_of (follow_set g r) (follow_of g r a) k (bound g known.bound r a k w) w)))
                  (λ v. among_right (behind g r a also) _ k (when_in (may_be_empty g r) _ k v).1)
                  (among_either (first_set g r) _ k u))
                  (among_either also _ k j)),
            ))
            (λ vs n j k. after_first a _ x.0 n _ k)
        behind_stops a us x (broken f rest) o =
            behind_broken g check bad r s (seq r s) pair (joins_seq r s) a (weak g check called bad keep x.0) (λ f i b. unbroken g check called bad keep f i x.0 b)
            (relation_of ps) (relation_of (in_turn_of r pair pr ps)) (behind g r a also) also ts us f rest x.1 o
            (λ vs k. after_first a _ x.0 (same_first o.front vs o.parts) _ k)
          where
            same_first : (front vs : Lexemes T) → us ≡ front ++ o.here ∷ o.others → among (follow_of g r a) (first_kind g (front ++ o.here ∷ vs)) ≡ false
            same_first [] vs d = ap (λ z. among (follow_of g r a) (first_kind g z)) (sym d) ∙ x.2
            same_first (y ∷ ys) vs d = ap (λ z. among (follow_of g r a) (first_kind g z)) (sym d) ∙ x.2

        of_second : (a : Tree T) (us : Lexemes T) → IsRead g check called bad r ts us a → ps (behind g r a also) us ≡ Err h → Stops g check bad (seq r s) (relation_of (in_turn_of r pair pr ps)) also ts h
        of_second a us x d = behind_stops a us x h (es.stops (behind g r a also) us h (reported a us x) d)

    pub exact_seq : IsExact g check called bad (seq r s) (in_turn_of r pair pr ps)
    exact_seq = record { sound = seq_sound; whole = seq_whole; stops = seq_stops }
