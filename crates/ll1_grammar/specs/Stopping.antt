-- Where a reader stops that is made of others: behind what was read, before what is to come, or inside.
use Rattle.std.proofs.Common.{◌≡◌, ℕ, suc, ◌+◌, ◌<◌, true, false, [], ◌∷◌, ◌++◌, length, ◌⊎◌, inl, inr, ⊎_elim, refl, sym, ap, ◌∙◌, Err, append_assoc, append-nil, arith, length-append}
use Rattle.ll1_grammar.specs.Lexemes.{Lexeme, Lexemes}
use Rattle.ll1_grammar.specs.Rule.{Kinds, Rule, Tree, Grammar}
use Rattle.ll1_grammar.specs.Kinds.{among, within, spell, is_bare, first_kind, may_be_empty, first_set, follow_set, follow_of, behind, is_ll1}
use Rattle.ll1_grammar.specs.declared.refusal.TokenRefusal.{TokenRefusal}
use Rattle.ll1_grammar.specs.Trees.{Checks, In, Breaks, GoesOn}
use Rattle.ll1_grammar.specs.Parse.ParseStop.{unwanted, broken}
use Rattle.ll1_grammar.specs.Exact.{ParseRelation, Unwanted, Broken}
use Rattle.ll1_grammar.specs.Among.{among_either, among_left, append_none, within_in, within_out, when_in, no_lexeme, true_false, length_of, is_false}
use Rattle.ll1_grammar.specs.Ll1.{Calls}
use Rattle.ll1_grammar.specs.FollowSets.{bound, may_go_on}

-- A tree made of one other, with its lexemes and its limits.
pub record Wraps {T : Type 0} (g : Grammar T) (check : Checks T) (bad : ℕ → TokenRefusal → ℕ → Tree T → Type 0) (check' : Checks T) (bad' : ℕ → TokenRefusal → ℕ → Tree T → Type 0) (r s : Rule) (w : Tree T → Tree T) : Type 0 where
  pub keeps : (t : Tree T) → spell (w t) ≡ spell t
  pub into : (t : Tree T) → In g r t → In g s (w t)
  pub out_of : (f : TokenRefusal) (i : ℕ) (t : Tree T) → Breaks check' bad' s f i (w t) → suc i < length (spell t) → Breaks check bad r f i t

-- A tree made of two others, the lexemes of the second behind those of the first.
pub record Joins {T : Type 0} (g : Grammar T) (check : Checks T) (bad : ℕ → TokenRefusal → ℕ → Tree T → Type 0) (r s q : Rule) (w : Tree T → Tree T → Tree T) : Type 0 where
  pub keeps : (a b : Tree T) → spell (w a b) ≡ spell a ++ spell b
  pub into : (a b : Tree T) → In g r a → In g s b → In g q (w a b)
  pub first : (f : TokenRefusal) (i : ℕ) (a b : Tree T) → Breaks check bad r f i a → Breaks check bad q f i (w a b)
  pub second : (f : TokenRefusal) (i j : ℕ) (a b : Tree T) → i ≡ length (spell a) + j → Breaks check bad s f j b → Breaks check bad q f i (w a b)
  pub out_of : (f : TokenRefusal) (i : ℕ) (a b : Tree T) → Breaks check bad q f i (w a b) → Breaks check bad r f i a ⊎ ((j : ℕ) × (i ≡ length (spell a) + j) × Breaks check bad s f j b)

module _ {T : Type 0} (g : Grammar T) (check : Checks T) (bad : ℕ → TokenRefusal → ℕ → Tree T → Type 0) where
  -- inside a tree made of one other
  pub wrap_goes : (check' : Checks T) (bad' : ℕ → TokenRefusal → ℕ → Tree T → Type 0) (r s : Rule) (w : Tree T → Tree T) → Wraps g check bad check' bad' r s w → (front : Lexemes T) (x : Lexeme T) → GoesOn g r front x → GoesOn g s front x
  wrap_goes check' bad' r s w ws front x o = record { tree = w o.tree; more = o.more; fits = ws.into o.tree o.fits; spelled = ws.keeps o.tree ∙ o.spelled }

  short_of : (front : Lexemes T) (t : Tree T) (x : Lexeme T) (more : Lexemes T) (i : ℕ) → spell t ≡ front ++ x ∷ more → i < length front → suc i < length (spell t)
  short_of front t x more i e h = omega (arith, length_of front (x ∷ more) e)

  pub wrap_broken : (check' : Checks T) (bad' : ℕ → TokenRefusal → ℕ → Tree T → Type 0) (r s : Rule) (w : Tree T → Tree T) → Wraps g check bad check' bad' r s w → (answers answers' : ParseRelation T) (also also' : Kinds) (ts : Lexemes T) (f : TokenRefusal) (rest : Lexemes T)
      → (o : Broken g check bad r answers also ts f rest)
      → (Breaks check bad r f (length o.front) o.tree → Breaks check' bad' s f (length o.front) (w o.tree))
      → ((us : Lexemes T) → answers also (o.front ++ o.here ∷ us) (Err (broken f (o.here ∷ us))) → answers' also' (o.front ++ o.here ∷ us) (Err (broken f (o.here ∷ us))))
      → Broken g check' bad' s answers' also' ts f rest
  wrap_broken check' bad' r s w ws answers answers' also also' ts f rest o into same = record {
    front = o.front;
    here = o.here;
    others = o.others;
    stands = o.stands;
    parts = o.parts;
    tree = w o.tree;
    later = o.later;
    fits = ws.into o.tree o.fits;
    spelled = ws.keeps o.tree ∙ o.spelled;
    unbroken = λ e i h b. o.unbroken e i h (ws.out_of e i o.tree b (short_of o.front o.tree o.here o.later i o.spelled h));
    breaks = into o.breaks;
    same = λ us. same us (o.same us);
  }

  pub wrap_unwanted : (check' : Checks T) (bad' : ℕ → TokenRefusal → ℕ → Tree T → Type 0) (r s : Rule) (w : Tree T → Tree T) → Wraps g check bad check' bad' r s w → (answers answers' : ParseRelation T) (also also' : Kinds) (ts : Lexemes T) (ks : Kinds) (rest : Lexemes T)
      → (o : Unwanted g check bad r answers also ts ks rest)
      → ((x : Lexeme T) → o.front ≡ [] → among also (g.kind x.1) ≡ true → ((o.front ≡ []) × (among also' (g.kind x.1) ≡ true)) ⊎ GoesOn g s o.front x)
      → (o.front ≡ [] → (may_be_empty g s ≡ false) × ((k : ℕ) → among (also' ++ first_set g s) k ≡ true → among ks k ≡ true))
      → ((us : Lexemes T) → among ks (first_kind g us) ≡ false → answers also (o.front ++ us) (Err (unwanted ks us)) → answers' also' (o.front ++ us) (Err (unwanted ks us)))
      → Unwanted g check' bad' s answers' also' ts ks rest
  wrap_unwanted check' bad' r s w ws answers answers' also also' ts ks rest o reported at same = record {
    front = o.front;
    parts = o.parts;
    tree = w o.tree;
    next = o.next;
    later = o.later;
    fits = ws.into o.tree o.fits;
    spelled = ws.keeps o.tree ∙ o.spelled;
    unbroken = λ e i h b. o.unbroken e i h (ws.out_of e i o.tree b (short_of o.front o.tree o.next o.later i o.spelled h));
    wanted = λ x m. ⊎_elim (λ p. reported x p.0 p.1) (λ v. inr (wrap_goes check' bad' r s w ws o.front x v)) (o.wanted x m);
    at_front = at;
    refused = o.refused;
    same = λ us m. same us m (o.same us m);
  }

  -- before what is to come
  pub before_goes : (r s q : Rule) (w : Tree T → Tree T → Tree T) → Joins g check bad r s q w → ((b : Tree T) × In g s b) → (front : Lexemes T) (x : Lexeme T) → GoesOn g r front x → GoesOn g q front x
  before_goes r s q w js b front x o = record {
    tree = w o.tree b.0;
    more = o.more ++ spell b.0;
    fits = js.into o.tree b.0 o.fits b.1;
    spelled = js.keeps o.tree b.0 ∙ (ap (λ z. z ++ spell b.0) o.spelled ∙ append_assoc front (x ∷ o.more) (spell b.0));
  }

  before_unbroken : (r s q : Rule) (w : Tree T → Tree T → Tree T) → Joins g check bad r s q w → (a b : Tree T) (front more : Lexemes T) → spell a ≡ front ++ more
      → ((f : TokenRefusal) (i : ℕ) → i < length front → Breaks check bad r f i a → ⊥) → (f : TokenRefusal) (i : ℕ) → i < length front → Breaks check bad q f i (w a b) → ⊥
  before_unbroken r s q w js a b front more e u f i h k =
      ⊎_elim (λ v. u f i h v) (λ v. let d : i ≡ length (spell a) + v.0 = v.1 in absurd (omega (arith, length_of front more e))) (js.out_of f i a b k)

  pub before_broken : (r s q : Rule) (w : Tree T → Tree T → Tree T) → Joins g check bad r s q w → ((b : Tree T) × In g s b)
      → (answers answers' : ParseRelation T) (also : Kinds) (ts : Lexemes T) (f : TokenRefusal) (rest : Lexemes T)
      → (o : Broken g check bad r answers also ts f rest)
      → ((us : Lexemes T) → answers also (o.front ++ o.here ∷ us) (Err (broken f (o.here ∷ us))) → answers' also (o.front ++ o.here ∷ us) (Err (broken f (o.here ∷ us))))
      → Broken g check bad q answers' also ts f rest
  before_broken r s q w js b answers answers' also ts f rest o same = record {
    front = o.front;
    here = o.here;
    others = o.others;
    stands = o.stands;
    parts = o.parts;
    tree = w o.tree b.0;
    later = o.later ++ spell b.0;
    fits = js.into o.tree b.0 o.fits b.1;
    spelled = js.keeps o.tree b.0 ∙ (ap (λ z. z ++ spell b.0) o.spelled ∙ append_assoc o.front (o.here ∷ o.later) (spell b.0));
    unbroken = before_unbroken r s q w js o.tree b.0 o.front (o.here ∷ o.later) o.spelled o.unbroken;
    breaks = js.first f (length o.front) o.tree b.0 o.breaks;
    same = λ us. same us (o.same us);
  }

  pub before_unwanted : (r s q : Rule) (w : Tree T → Tree T → Tree T) → Joins g check bad r s q w → ((b : Tree T) × In g s b)
      → (answers answers' : ParseRelation T) (also : Kinds) (ts : Lexemes T) (ks : Kinds) (rest : Lexemes T)
      → (o : Unwanted g check bad r answers also ts ks rest)
      → (o.front ≡ [] → (may_be_empty g q ≡ false) × ((k : ℕ) → among (also ++ first_set g q) k ≡ true → among ks k ≡ true))
      → ((us : Lexemes T) → among ks (first_kind g us) ≡ false → answers also (o.front ++ us) (Err (unwanted ks us)) → answers' also (o.front ++ us) (Err (unwanted ks us)))
      → Unwanted g check bad q answers' also ts ks rest
  before_unwanted r s q w js b answers answers' also ts ks rest o at same = record {
    front = o.front;
    parts = o.parts;
    tree = w o.tree b.0;
    next = o.next;
    later = o.later ++ spell b.0;
    fits = js.into o.tree b.0 o.fits b.1;
    spelled = js.keeps o.tree b.0 ∙ (ap (λ z. z ++ spell b.0) o.spelled ∙ append_assoc o.front (o.next ∷ o.later) (spell b.0));
    unbroken = before_unbroken r s q w js o.tree b.0 o.front (o.next ∷ o.later) o.spelled o.unbroken;
    wanted = λ x m. ⊎_elim (λ p. inl p) (λ v. inr (before_goes r s q w js b o.front x v)) (o.wanted x m);
    at_front = at;
    refused = o.refused;
    same = λ us m. same us m (o.same us m);
  }

  -- behind what was read
  pub behind_goes : (r s q : Rule) (w : Tree T → Tree T → Tree T) → Joins g check bad r s q w → (a : Tree T) → In g r a → (front : Lexemes T) (x : Lexeme T) → GoesOn g s front x → GoesOn g q (spell a ++ front) x
  behind_goes r s q w js a h front x o = record {
    tree = w a o.tree;
    more = o.more;
    fits = js.into a o.tree h o.fits;
    spelled = js.keeps a o.tree ∙ (ap (λ z. spell a ++ z) o.spelled ∙ sym (append_assoc (spell a) front (x ∷ o.more)));
  }

  behind_unbroken : (r s q : Rule) (w : Tree T → Tree T → Tree T) → Joins g check bad r s q w → (a b : Tree T) (front : Lexemes T)
      → ((f : TokenRefusal) (i : ℕ) → Breaks check bad r f i a → ⊥) → ((f : TokenRefusal) (i : ℕ) → i < length front → Breaks check bad s f i b → ⊥)
      → (f : TokenRefusal) (i : ℕ) → i < length (spell a ++ front) → Breaks check bad q f i (w a b) → ⊥
  behind_unbroken r s q w js a b front u v f i h k =
      ⊎_elim (λ z. u f i z) (λ z. let d : i ≡ length (spell a) + z.0 = z.1 in v f z.0 (omega (arith, length-append (spell a) front)) z.2) (js.out_of f i a b k)

  pub behind_broken : (r s q : Rule) (w : Tree T → Tree T → Tree T) → Joins g check bad r s q w → (a : Tree T) → In g r a → ((f : TokenRefusal) (i : ℕ) → Breaks check bad r f i a → ⊥)
      → (answers answers' : ParseRelation T) (also also' : Kinds) (ts us : Lexemes T) (f : TokenRefusal) (rest : Lexemes T) → ts ≡ spell a ++ us
      → (o : Broken g check bad s answers also us f rest)
      → ((vs : Lexemes T) → answers also (o.front ++ o.here ∷ vs) (Err (broken f (o.here ∷ vs))) → answers' also' (spell a ++ (o.front ++ o.here ∷ vs)) (Err (broken f (o.here ∷ vs))))
      → Broken g check bad q answers' also' ts f rest
  behind_broken r s q w js a h unb answers answers' also also' ts us f rest e o same = record {
    front = spell a ++ o.front;
    here = o.here;
    others = o.others;
    stands = o.stands;
    parts = e ∙ (ap (λ z. spell a ++ z) o.parts ∙ sym (append_assoc (spell a) o.front (o.here ∷ o.others)));
    tree = w a o.tree;
    later = o.later;
    fits = js.into a o.tree h o.fits;
    spelled = js.keeps a o.tree ∙ (ap (λ z. spell a ++ z) o.spelled ∙ sym (append_assoc (spell a) o.front (o.here ∷ o.later)));
    unbroken = behind_unbroken r s q w js a o.tree o.front unb o.unbroken;
    breaks = js.second f (length (spell a ++ o.front)) (length o.front) a o.tree (length-append (spell a) o.front) o.breaks;
    same = λ vs. rw (append_assoc (spell a) o.front (o.here ∷ vs)) (same vs (o.same vs));
  }

module _ {T : Type 0} (g : Grammar T) (known : Calls g) (check : Checks T) (bad : ℕ → TokenRefusal → ℕ → Tree T → Type 0) where
  -- what may come behind a tree at the front of a text may come behind it in the whole
  behind_wanted : (r s q : Rule) (w : Tree T → Tree T → Tree T) → Joins g check bad r s q w → ((b : Tree T) × In g s b) → is_ll1 g r ≡ true
      → (a : Tree T) → In g r a → (also : Kinds) (front : Lexemes T) (x : Lexeme T)
      → ((front ≡ []) × (among (behind g r a also) (g.kind x.1) ≡ true)) ⊎ GoesOn g s front x
      → ((spell a ++ front ≡ []) × (among also (g.kind x.1) ≡ true)) ⊎ GoesOn g q (spell a ++ front) x
  behind_wanted r s q w js b p a h also front x (inr o) = inr (behind_goes g check bad r s q w js a h front x o)
  behind_wanted r s q w js b p a h also front x (inl m) =
      ⊎_elim
      (λ k. inr (rw (m.0, append-nil (spell a)) (before_goes g check bad r s q w js b (spell a) x (may_go_on g known x p h (within_in (follow_set g r) (follow_of g r a) _ k)))))
      (λ k. let u = when_in (may_be_empty g r) _ _ k in let v = when_in (is_bare a) also _ u.1 in inl (rw (no_lexeme (spell a) v.0) m.0, v.1))
      (among_either (within (follow_set g r) (follow_of g r a)) _ _ m.1)

  -- what is not wanted behind a tree does not go on with it
  behind_ends : (r s : Rule) → is_ll1 g r ≡ true → (a : Tree T) (also : Kinds) (ks : Kinds) (front rest others : Lexemes T)
      → among (follow_of g r a) (first_kind g (front ++ rest)) ≡ false
      → (front ≡ [] → (k : ℕ) → among (behind g r a also ++ first_set g s) k ≡ true → among ks k ≡ true)
      → among ks (first_kind g others) ≡ false → among (follow_of g r a) (first_kind g (front ++ others)) ≡ false
  behind_ends r s p a also ks [] rest others e all m =
      within_out (follow_set g r) (follow_of g r a) (first_kind g others) (bound g known.bound r a (first_kind g others))
      (is_false _ (λ k. true_false _ (all refl _ (among_left (behind g r a also) _ _ (among_left (within (follow_set g r) (follow_of g r a)) _ _ k))) m))
  behind_ends r s p a also ks (y ∷ front) rest others e all m = e

  pub behind_unwanted : (r s q : Rule) (w : Tree T → Tree T → Tree T) → Joins g check bad r s q w → ((b : Tree T) × In g s b) → is_ll1 g r ≡ true
      → (a : Tree T) → In g r a → ((f : TokenRefusal) (i : ℕ) → Breaks check bad r f i a → ⊥)
      → (answers answers' : ParseRelation T) (also : Kinds) (ts us : Lexemes T) (ks : Kinds) (rest : Lexemes T) → ts ≡ spell a ++ us
      → among (follow_of g r a) (first_kind g us) ≡ false
      → (o : Unwanted g check bad s answers (behind g r a also) us ks rest)
      → (spell a ≡ [] → o.front ≡ [] → (may_be_empty g q ≡ false) × ((k : ℕ) → among (also ++ first_set g q) k ≡ true → among ks k ≡ true))
      → ((vs : Lexemes T) → among (follow_of g r a) (first_kind g (o.front ++ vs)) ≡ false → among ks (first_kind g vs) ≡ false
      → answers (behind g r a also) (o.front ++ vs) (Err (unwanted ks vs)) → answers' also (spell a ++ (o.front ++ vs)) (Err (unwanted ks vs)))
      → Unwanted g check bad q answers' also ts ks rest
  behind_unwanted r s q w js b p a h unb answers answers' also ts us ks rest e off o at same = record {
    front = spell a ++ o.front;
    parts = e ∙ (ap (λ z. spell a ++ z) o.parts ∙ sym (append_assoc (spell a) o.front rest));
    tree = w a o.tree;
    next = o.next;
    later = o.later;
    fits = js.into a o.tree h o.fits;
    spelled = js.keeps a o.tree ∙ (ap (λ z. spell a ++ z) o.spelled ∙ sym (append_assoc (spell a) o.front (o.next ∷ o.later)));
    unbroken = behind_unbroken g check bad r s q w js a o.tree o.front unb o.unbroken;
    wanted = λ x m. behind_wanted r s q w js b p a h also o.front x (o.wanted x m);
    at_front = λ d. let z = append_none (spell a) o.front d in at z.0 z.1;
    refused = o.refused;
    same = λ vs m. rw (append_assoc (spell a) o.front vs)
        (same vs (behind_ends r s p a also ks o.front rest vs (ap (λ z. among (follow_of g r a) (first_kind g z)) (sym o.parts) ∙ off) (λ d. (o.at_front d).1) m) m (o.same vs m));
  }
