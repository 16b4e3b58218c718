-- Every kind that a rule is said to begin with or to go on with does so in some text of it.
use Rattle.std.proofs.Common.{◌≡◌, ℕ, Bool, true, [], ◌∷◌, ◌++◌, if◌then◌else◌, ◌⊎◌, refl, sym, ap, ◌∙◌, inl, inr, append_assoc, append-nil, ⊎_elim}
use Rattle.ll1_grammar.specs.Lexemes.{Lexeme}
use Rattle.ll1_grammar.specs.Rule.{Kinds, Rule, Tree, Grammar}
use Rattle.ll1_grammar.specs.Rule.Rule.{empty, one, seq, alt, star, call, checked}
use Rattle.ll1_grammar.specs.Rule.Tree.{nothing, leaf, pair, left, right, last, turn, node, held}
use Rattle.ll1_grammar.specs.Kinds.{among, within, spell, is_bare, first, second, inside, by_side, of_last, may_be_empty, first_set, follow_set, follow_of, has_sample, is_ll1}
use Rattle.ll1_grammar.specs.Trees.{In, GoesOn}
use Rattle.ll1_grammar.specs.Trees.In.{in_empty, in_one, in_seq, in_left, in_right, in_last, in_turn, in_call, in_checked}
use Rattle.ll1_grammar.specs.Among.{or_true, and_true, among_either, among_left, among_right, within_in, within_bound, when_in, append_none, no_lexeme, by_true, within_of, true_false}
use Rattle.ll1_grammar.specs.Ll1.{Calls, seq_ll1, alt_ll1, star_ll1, call_ll1, one_ll1, checked_ll1, may_be_bare}

pub side_either : {T : Type 0} (x y : Kinds) (t : Tree T) (k : ℕ) → among (by_side x y t) k ≡ true → (among x k ≡ true) ⊎ (among y k ≡ true)
side_either x y (right b) k e = inr e
side_either x y t k e = inl e

pub last_one : {T : Type 0} (f : Tree T → Kinds) (t : Tree T) (k : ℕ) → among (of_last f t) k ≡ true → (a : Tree T) × (among (f a) k ≡ true)
last_one f (turn a last) k e = (a, e)
last_one f (turn a t) k e = last_one f t k e
last_one f t k e = absurd (cc)

pub last_turn : {T : Type 0} (f : Tree T → Kinds) (a t : Tree T) (k : ℕ) → among (of_last f (turn a t)) k ≡ true → ((t ≡ last) × (among (f a) k ≡ true)) ⊎ (among (of_last f t) k ≡ true)
last_turn f a last k e = inl (refl, e)
last_turn f a t k e = inr e

pub later_too : {T : Type 0} (f : Tree T → Kinds) (a t : Tree T) (k : ℕ) → among (of_last f t) k ≡ true → among (of_last f (turn a t)) k ≡ true
later_too f a last k e = absurd (cc)
later_too f a t k e = e

module _ {T : Type 0} (g : Grammar T) (texts : (n : ℕ) → among g.calls n ≡ true → (t : Tree T) × In g (call n) t) where
  -- each rule has a text, if those that it calls have one
  pub a_text : (r : Rule) → is_ll1 g r ≡ true → (t : Tree T) × In g r t
  a_text empty e = (nothing, in_empty)
  a_text (one ks) e = sampled ks (one_ll1 g ks e).1
    where
      sampled : (ks : Kinds) → has_sample g ks ≡ true → (t : Tree T) × In g (one ks) t
      sampled [] p = absurd (cc)
      sampled (k ∷ ks) p = (leaf (g.sample k), in_one (by_true _ true (among ks (g.kind (g.sample k).1)) p))
  a_text (seq r s) e =
      let p = seq_ll1 g r s e in
      let a = a_text r p.0 in
      let b = a_text s p.1 in
      (pair a.0 b.0, in_seq a.1 b.1)
  a_text (alt r s) e = let a = a_text r (alt_ll1 g r s e).0 in (left a.0, in_left a.1)
  a_text (star r) e = (last, in_last)
  a_text (call n) e = texts n (call_ll1 g n e).0
  a_text (checked c r) e = let a = a_text r (checked_ll1 g c r e).0 in (held a.0, in_checked a.1)

module _ {T : Type 0} (g : Grammar T) where
  -- a rule that may be empty has a text with no lexeme
  pub empty_text : (r : Rule) → is_ll1 g r ≡ true → may_be_empty g r ≡ true → (t : Tree T) × In g r t × (spell t ≡ [])
  empty_text empty e m = (nothing, in_empty, refl)
  empty_text (one ks) e m = absurd (cc)
  empty_text (seq r s) e m =
      let p = seq_ll1 g r s e in
      let q = and_true _ _ m in
      let a = empty_text r p.0 q.0 in
      let b = empty_text s p.1 q.1 in
      (pair a.0 b.0, in_seq a.1 b.1, rw (a.2, b.2) refl)
  empty_text (alt r s) e m =
      let p = alt_ll1 g r s e in
      let q : may_be_empty g s ≡ true = ⊎_elim (λ x. absurd (true_false _ x p.2)) (λ x. x) (or_true _ _ m) in
      let b = empty_text s p.1 q in
      (right b.0, in_right b.1, b.2)
  empty_text (star r) e m = (last, in_last, refl)
  empty_text (call n) e m = absurd (cc)
  empty_text (checked c r) e m = let p = checked_ll1 g c r e in let q = p.1 in absurd (cc)

module _ {T : Type 0} (g : Grammar T) (bounds : (n : ℕ) (t : Tree T) (k : ℕ) → among (g.follow_of n t) k ≡ true → among (g.follow_set n) k ≡ true) where
  -- `goes` are all the kinds of `ends`
  pub bound : (r : Rule) (t : Tree T) (k : ℕ) → among (follow_of g r t) k ≡ true → among (follow_set g r) k ≡ true
  bound empty t k m = m
  bound (one ks) t k m = m
  bound (seq r s) t k m =
      ⊎_elim (λ h. among_left (follow_set g s) _ k (within_bound (follow_set g s) (follow_of g s (second t)) k (bound s (second t) k) h))
      (λ h. let w = when_in (may_be_empty g s) _ k h in
      let v = when_in (is_bare (second t)) _ k w.1 in
      among_right (follow_set g s) _ k (by_true_in (may_be_empty g s) (follow_set g r) k w.0 (within_bound (follow_set g r) (follow_of g r (first t)) k (bound r (first t) k) v.1)))
      (among_either (within (follow_set g s) (follow_of g s (second t))) _ k m)
    where
      by_true_in : (b : Bool) (ks : Kinds) (k : ℕ) → b ≡ true → among ks k ≡ true → among (if b then ks else []) k ≡ true
      by_true_in b ks k d h = ap (λ z. among z k) (by_true b ks [] d) ∙ h
  bound (alt r s) t k m =
      ⊎_elim (λ h. among_left (follow_set g r) _ k (bound r (inside t) k h))
      (λ h. among_right (follow_set g r) _ k (⊎_elim (λ j. among_left (follow_set g s) _ k (bound s (inside t) k j))
      (λ j. let w = when_in (may_be_empty g s) _ k j in
      let v = when_in (is_bare t) _ k w.1 in
      among_right (follow_set g s) _ k (ap (λ z. among z k) (by_true (may_be_empty g s) (first_set g r) [] w.0) ∙ v.1))
      (among_either (follow_of g s (inside t)) _ k h)))
      (side_either (follow_of g r (inside t)) _ t k m)
  bound (star r) t k m =
      ⊎_elim (λ h. among_left (first_set g r) _ k h)
      (λ h. among_right (first_set g r) _ k (within_bound (follow_set g r) (of_last (follow_of g r) t) k (λ j. let a = last_one (follow_of g r) t k j in bound r a.0 k a.1) h))
      (among_either (first_set g r) _ k m)
  bound (call n) t k m = within_bound (g.follow_set n) (g.follow_of n t) k (bounds n t k) m
  bound (checked c r) t k m = bound r (inside t) k m

module _ {T : Type 0} (g : Grammar T) (known : Calls g) where
  -- a text of the rule begins with any lexeme of a kind among its starts
  pub may_begin : (r : Rule) (x : Lexeme T) → is_ll1 g r ≡ true → among (first_set g r) (g.kind x.1) ≡ true → GoesOn g r [] x
  may_begin empty x e m = absurd (cc)
  may_begin (one ks) x e m = record { tree = leaf x; more = []; fits = in_one m; spelled = refl }
  may_begin (seq r s) x e m =
      let p = seq_ll1 g r s e in
      ⊎_elim (λ h. in_front (may_begin r x p.0 h) (a_text g known.text s p.1))
      (λ h. let w = when_in (may_be_empty g r) (first_set g s) _ h in behind_nothing (empty_text g r p.0 w.0) (may_begin s x p.1 w.1))
      (among_either (first_set g r) _ _ m)
    where
      in_front : GoesOn g r [] x → ((t : Tree T) × In g s t) → GoesOn g (seq r s) [] x
      in_front o b = record { tree = pair o.tree b.0; more = o.more ++ spell b.0; fits = in_seq o.fits b.1; spelled = ap (λ z. z ++ spell b.0) o.spelled }

      behind_nothing : ((t : Tree T) × In g r t × (spell t ≡ [])) → GoesOn g s [] x → GoesOn g (seq r s) [] x
      behind_nothing a o = record { tree = pair a.0 o.tree; more = o.more; fits = in_seq a.1 o.fits; spelled = ap (λ z. z ++ spell o.tree) a.2 ∙ o.spelled }
  may_begin (alt r s) x e m =
      let p = alt_ll1 g r s e in
      ⊎_elim (λ h. to_left (may_begin r x p.0 h)) (λ h. to_right (may_begin s x p.1 h)) (among_either (first_set g r) _ _ m)
    where
      to_left : GoesOn g r [] x → GoesOn g (alt r s) [] x
      to_left o = record { tree = left o.tree; more = o.more; fits = in_left o.fits; spelled = o.spelled }

      to_right : GoesOn g s [] x → GoesOn g (alt r s) [] x
      to_right o = record { tree = right o.tree; more = o.more; fits = in_right o.fits; spelled = o.spelled }
  may_begin (star r) x e m = a_turn (may_begin r x (star_ll1 g r e).0 m)
    where
      a_turn : GoesOn g r [] x → GoesOn g (star r) [] x
      a_turn o = record { tree = turn o.tree last; more = o.more; fits = in_turn o.fits in_last; spelled = append-nil (spell o.tree) ∙ o.spelled }
  may_begin (call n) x e m = known.may_begin n x (call_ll1 g n e).0 m
  may_begin (checked c r) x e m = hold (may_begin r x (checked_ll1 g c r e).0 m)
    where
      hold : GoesOn g r [] x → GoesOn g (checked c r) [] x
      hold o = record { tree = held o.tree; more = o.more; fits = in_checked o.fits; spelled = o.spelled }

  -- behind a tree with no lexeme may come whatever may come before it
  pub bare_ends : {r : Rule} {t : Tree T} (k : ℕ) → is_ll1 g r ≡ true → In g r t → spell t ≡ [] → among (first_set g r) k ≡ true → among (follow_of g r t) k ≡ true
  bare_ends k e in_empty q m = m
  bare_ends k e (in_one p) q m = absurd (cc)
  bare_ends k e (in_seq {r} {s} {a} {b} h j) q m =
      let p = seq_ll1 g r s e in
      let z = append_none (spell a) (spell b) q in
      let d : may_be_empty g s ≡ true = may_be_bare g known p.1 j z.1 in
      ⊎_elim
      (λ u. let w = bare_ends k p.0 h z.0 u in
      let v = within_of (follow_set g r) (follow_of g r a) k (bound g known.bound r a k w) w in
      among_right (within (follow_set g s) (follow_of g s b)) _ k (rw (d, z.1) v))
      (λ u. let w = bare_ends k p.1 j z.1 (when_in (may_be_empty g r) (first_set g s) k u).1 in
      among_left (within (follow_set g s) (follow_of g s b)) _ k (within_of (follow_set g s) (follow_of g s b) k (bound g known.bound s b k w) w))
      (among_either (first_set g r) _ k m)
  bare_ends k e (in_left {r} {s} {a} h) q m = let p = alt_ll1 g r s e in absurd (true_false _ (may_be_bare g known p.0 h q) p.2)
  bare_ends k e (in_right {r} {s} {b} h) q m =
      let p = alt_ll1 g r s e in
      let d : may_be_empty g s ≡ true = may_be_bare g known p.1 h q in
      ⊎_elim (λ u. among_right (follow_of g s b) _ k (rw (d, q) u)) (λ u. among_left (follow_of g s b) _ k (bare_ends k p.1 h q u)) (among_either (first_set g r) _ k m)
  bare_ends k e (in_last {r}) q m = among_left (first_set g r) _ k m
  bare_ends k e (in_turn {r} {a} {t} h j) q m =
      let p = star_ll1 g r e in absurd (true_false _ (may_be_bare g known p.0 h (append_none (spell a) (spell t) q).0) p.1)
  bare_ends k e (in_call {n} {t} h) q m = absurd (true_false _ (may_be_bare g known e (in_call h) q) refl)
  bare_ends k e (in_checked {c} {r} h) q m = let p = checked_ll1 g c r e in absurd (true_false _ (may_be_bare g known p.0 h q) p.1)

  -- a text goes on behind that of a tree with any lexeme of a kind among the tree's ends
  pub may_go_on : {r : Rule} {t : Tree T} (x : Lexeme T) → is_ll1 g r ≡ true → In g r t → among (follow_of g r t) (g.kind x.1) ≡ true → GoesOn g r (spell t) x
  may_go_on x e in_empty m = absurd (cc)
  may_go_on x e (in_one p) m = absurd (cc)
  may_go_on x e (in_seq {r} {s} {a} {b} h k) m =
      let p = seq_ll1 g r s e in
      ⊎_elim (λ j. in_second (may_go_on x p.1 k (within_in (follow_set g s) (follow_of g s b) _ j)))
      (λ j. let w = when_in (may_be_empty g s) _ _ j in
      let v = when_in (is_bare b) _ _ w.1 in
      in_first (no_lexeme (spell b) v.0) (may_go_on x p.0 h (within_in (follow_set g r) (follow_of g r a) _ v.1)))
      (among_either (within (follow_set g s) (follow_of g s b)) _ _ m)
    where
      in_second : GoesOn g s (spell b) x → GoesOn g (seq r s) (spell a ++ spell b) x
      in_second o = record { tree = pair a o.tree; more = o.more; fits = in_seq h o.fits; spelled = ap (λ z. spell a ++ z) o.spelled ∙ sym (append_assoc (spell a) (spell b) (x ∷ o.more)) }

      in_first : spell b ≡ [] → GoesOn g r (spell a) x → GoesOn g (seq r s) (spell a ++ spell b) x
      in_first d o = record {
        tree = pair o.tree b;
        more = o.more;
        fits = in_seq o.fits k;
        spelled = rw (d, append-nil (spell o.tree), append-nil (spell a)) o.spelled;
      }
  may_go_on x e (in_left {r} {s} {a} h) m = to_left (may_go_on x (alt_ll1 g r s e).0 h m)
    where
      to_left : GoesOn g r (spell a) x → GoesOn g (alt r s) (spell a) x
      to_left o = record { tree = left o.tree; more = o.more; fits = in_left o.fits; spelled = o.spelled }
  may_go_on x e (in_right {r} {s} {b} h) m =
      let p = alt_ll1 g r s e in
      ⊎_elim (λ j. to_right (may_go_on x p.1 h j))
      (λ j. let w = when_in (may_be_empty g s) _ _ j in let v = when_in (is_bare b) _ _ w.1 in to_left (no_lexeme (spell b) v.0) (may_begin r x p.0 v.1))
      (among_either (follow_of g s b) _ _ m)
    where
      to_right : GoesOn g s (spell b) x → GoesOn g (alt r s) (spell b) x
      to_right o = record { tree = right o.tree; more = o.more; fits = in_right o.fits; spelled = o.spelled }

      to_left : spell b ≡ [] → GoesOn g r [] x → GoesOn g (alt r s) (spell b) x
      to_left d o = record { tree = left o.tree; more = o.more; fits = in_left o.fits; spelled = o.spelled ∙ ap (λ z. z ++ x ∷ o.more) (sym d) }
  may_go_on x e (in_last {r}) m =
      ⊎_elim (λ j. may_begin (star r) x e j) (λ j. let w = within_in (follow_set g r) [] (g.kind x.1) j in absurd (cc)) (among_either (first_set g r) _ _ m)
  may_go_on x e (in_turn {r} {a} {t} h k) m =
      let p = star_ll1 g r e in
      ⊎_elim (λ j. later (may_go_on x e k (among_left (first_set g r) _ _ j)))
      (λ j. ⊎_elim (λ w. this w.0 (may_go_on x p.0 h w.1))
      (λ w. let b = last_one (follow_of g r) t _ w in
      later (may_go_on x e k (among_right (first_set g r) _ _ (within_of (follow_set g r) (of_last (follow_of g r) t) _ (bound g known.bound r b.0 _ b.1) w))))
      (last_turn (follow_of g r) a t _ (within_in (follow_set g r) (of_last (follow_of g r) (turn a t)) _ j)))
      (among_either (first_set g r) _ _ m)
    where
      later : GoesOn g (star r) (spell t) x → GoesOn g (star r) (spell a ++ spell t) x
      later o = record { tree = turn a o.tree; more = o.more; fits = in_turn h o.fits; spelled = ap (λ z. spell a ++ z) o.spelled ∙ sym (append_assoc (spell a) (spell t) (x ∷ o.more)) }

      this : t ≡ last → GoesOn g r (spell a) x → GoesOn g (star r) (spell a ++ spell t) x
      this d o = record {
        tree = turn o.tree last;
        more = o.more;
        fits = in_turn o.fits in_last;
        spelled = rw (d, append-nil (spell o.tree), append-nil (spell a)) o.spelled;
      }
  may_go_on x e (in_call {n} {t} h) m = let c = (call_ll1 g n e).0 in called (may_go_on x (known.plain n c).1 h (sym (known.end n t _ c) ∙ m))
    where
      called : GoesOn g (g.body n) (spell t) x → GoesOn g (call n) (spell t) x
      called o = record { tree = node o.tree; more = o.more; fits = in_call o.fits; spelled = o.spelled }
  may_go_on x e (in_checked {c} {r} {t} h) m = hold (may_go_on x (checked_ll1 g c r e).0 h m)
    where
      hold : GoesOn g r (spell t) x → GoesOn g (checked c r) (spell t) x
      hold o = record { tree = held o.tree; more = o.more; fits = in_checked o.fits; spelled = o.spelled }
