-- What holds of every text of a rule that one token decides, in the grammar without limits.
use Rattle.std.proofs.Common.{◌≡◌, ℕ, true, false, [], ◌∷◌, ◌++◌, refl, sym, ap, ◌∙◌, subst}
use Rattle.ll1_grammar.specs.Lexemes.{Lexeme, Lexemes}
use Rattle.ll1_grammar.specs.Rule.{Kinds, Rule, Tree, Grammar}
use Rattle.ll1_grammar.specs.Rule.Rule.{empty, one, seq, alt, star, call, checked}
use Rattle.ll1_grammar.specs.Rule.Tree.{node}
use Rattle.ll1_grammar.specs.Kinds.{among, are_apart, spell, may_be_empty, first_set, follow_set, has_sample, is_ll1, follow_of}
use Rattle.ll1_grammar.specs.Trees.{In, GoesOn}
use Rattle.ll1_grammar.specs.Trees.In.{in_empty, in_one, in_seq, in_left, in_right, in_last, in_turn, in_call, in_checked}
use Rattle.ll1_grammar.specs.Among.{or_left, or_right, and_true, and_of, not_true, among_none, among_left, among_right, when_none, append_none, no_kind, true_false}

-- What a grammar says of the rules that it calls is so.
pub record Calls {T : Type 0} (g : Grammar T) : Type 0 where
  -- one token decides in each, and none has an empty text
  pub plain : (n : ℕ) → among g.calls n ≡ true → (is_ll1 g (call n) ≡ true) × (is_ll1 g (g.body n) ≡ true)
  pub full : (n : ℕ) → among g.calls n ≡ true → may_be_empty g (g.body n) ≡ false
  -- `starts` are the kinds with which a text of its body may begin,
  pub begin : (n : ℕ) → among g.calls n ≡ true → g.first_set n ≡ first_set g (g.body n)
  -- with `ends` one may go on behind this one, and `goes` are all of these
  pub end : (n : ℕ) (t : Tree T) (k : ℕ) → among g.calls n ≡ true → among (follow_of g (call n) (node t)) k ≡ among (follow_of g (g.body n) t) k
  pub bound : (n : ℕ) (t : Tree T) (k : ℕ) → among (g.follow_of n t) k ≡ true → among (g.follow_set n) k ≡ true
  -- each has a text, and one that begins with any lexeme of a kind with which one may
  pub text : (n : ℕ) → among g.calls n ≡ true → (t : Tree T) × In g (call n) t
  pub may_begin : (n : ℕ) (x : Lexeme T) → among g.calls n ≡ true → among (g.first_set n) (g.kind x.1) ≡ true → GoesOn g (call n) [] x

module _ {T : Type 0} (g : Grammar T) where
  pub seq_ll1 : (r s : Rule) → is_ll1 g (seq r s) ≡ true → (is_ll1 g r ≡ true) × (is_ll1 g s ≡ true) × (are_apart (follow_set g r) (first_set g s) ≡ true)
  seq_ll1 r s e = let p = and_true _ _ e in let q = and_true _ _ p.1 in (p.0, q.0, q.1)

  pub alt_ll1 : (r s : Rule) → is_ll1 g (alt r s) ≡ true
      → (is_ll1 g r ≡ true) × (is_ll1 g s ≡ true) × (may_be_empty g r ≡ false) × (are_apart (first_set g r) (first_set g s) ≡ true)
  alt_ll1 r s e = let p = and_true _ _ e in let q = and_true _ _ p.1 in let u = and_true _ _ q.1 in (p.0, q.0, not_true _ u.0, u.1)

  pub star_ll1 : (r : Rule) → is_ll1 g (star r) ≡ true → (is_ll1 g r ≡ true) × (may_be_empty g r ≡ false) × (are_apart (follow_set g r) (first_set g r) ≡ true)
  star_ll1 r e = let p = and_true _ _ e in let q = and_true _ _ p.1 in (p.0, not_true _ q.0, q.1)

  pub call_ll1 : (n : ℕ) → is_ll1 g (call n) ≡ true → (among g.calls n ≡ true) × (among (g.first_set n) (g.kind g.at_end) ≡ false) × (among (g.follow_set n) (g.kind g.at_end) ≡ false)
  call_ll1 n e = let p = and_true _ _ e in let q = and_true _ _ p.1 in (p.0, not_true _ q.0, not_true _ q.1)

  pub one_ll1 : (ks : Kinds) → is_ll1 g (one ks) ≡ true → (among ks (g.kind g.at_end) ≡ false) × (has_sample g ks ≡ true)
  one_ll1 ks e = let p = and_true _ _ e in (not_true _ p.0, p.1)

  pub checked_ll1 : (c : ℕ) (r : Rule) → is_ll1 g (checked c r) ≡ true → (is_ll1 g r ≡ true) × (may_be_empty g r ≡ false) × (follow_set g r ≡ [])
  checked_ll1 c r e = let p = and_true _ _ e in let q = and_true _ _ p.1 in (p.0, not_true _ q.0, no_kind _ q.1)

  -- no rule has the kind of the end
  pub no_start : (r : Rule) → is_ll1 g r ≡ true → among (first_set g r) (g.kind g.at_end) ≡ false
  no_start empty e = refl
  no_start (one ks) e = (one_ll1 ks e).0
  no_start (seq r s) e =
      let p = seq_ll1 r s e in among_none (first_set g r) _ _ (no_start r p.0) (when_none (may_be_empty g r) (first_set g s) _ (λ h. no_start s p.1))
  no_start (alt r s) e = let p = alt_ll1 r s e in among_none (first_set g r) _ _ (no_start r p.0) (no_start s p.1)
  no_start (star r) e = no_start r (star_ll1 r e).0
  no_start (call n) e = (call_ll1 n e).1
  no_start (checked c r) e = no_start r (checked_ll1 c r e).0

  pub no_going : (r : Rule) → is_ll1 g r ≡ true → among (follow_set g r) (g.kind g.at_end) ≡ false
  no_going empty e = refl
  no_going (one ks) e = refl
  no_going (seq r s) e =
      let p = seq_ll1 r s e in among_none (follow_set g s) _ _ (no_going s p.1) (when_none (may_be_empty g s) (follow_set g r) _ (λ h. no_going r p.0))
  no_going (alt r s) e =
      let p = alt_ll1 r s e in
      among_none (follow_set g r) _ _ (no_going r p.0) (among_none (follow_set g s) _ _ (no_going s p.1) (when_none (may_be_empty g s) (first_set g r) _ (λ h. no_start r p.0)))
  no_going (star r) e = let p = star_ll1 r e in among_none (first_set g r) _ _ (no_start r p.0) (no_going r p.0)
  no_going (call n) e = (call_ll1 n e).2
  no_going (checked c r) e = no_going r (checked_ll1 c r e).0

module _ {T : Type 0} (g : Grammar T) (known : Calls g) where
  -- only a rule that may be empty has an empty text
  pub may_be_bare : {r : Rule} {t : Tree T} → is_ll1 g r ≡ true → In g r t → spell t ≡ [] → may_be_empty g r ≡ true
  may_be_bare e in_empty q = refl
  may_be_bare e (in_one p) q = absurd (cc)
  may_be_bare e (in_seq {r} {s} {a} {b} h k) q =
      let p = seq_ll1 g r s e in let z = append_none (spell a) (spell b) q in and_of _ _ (may_be_bare p.0 h z.0) (may_be_bare p.1 k z.1)
  may_be_bare e (in_left {r} {s} h) q = or_left _ _ (may_be_bare (alt_ll1 g r s e).0 h q)
  may_be_bare e (in_right {r} {s} h) q = or_right _ _ (may_be_bare (alt_ll1 g r s e).1 h q)
  may_be_bare e in_last q = refl
  may_be_bare e (in_turn h k) q = refl
  may_be_bare e (in_call {n} {t} h) q = let c = (call_ll1 g n e).0 in absurd (true_false _ (may_be_bare (known.plain n c).1 h q) (known.full n c))
  may_be_bare e (in_checked {c} {r} h) q = may_be_bare (checked_ll1 g c r e).0 h q

  -- `starts` are the kinds with which its texts begin
  pub begins : {r : Rule} {t : Tree T} (x : Lexeme T) (xs : Lexemes T) → is_ll1 g r ≡ true → In g r t → spell t ≡ x ∷ xs → among (first_set g r) (g.kind x.1) ≡ true
  begins x xs e in_empty q = absurd (cc)
  begins x xs e (in_one {ks} {x = y} p) q = let d : y ≡ x = cc in ap (λ z. among ks (g.kind z.1)) (sym d) ∙ p
  begins x xs e (in_seq {r} {s} {a} {b} h k) q =
      let p = seq_ll1 g r s e in first_of_two (spell a) refl p (λ z zs d. begins z zs p.0 h d) (λ d. may_be_bare p.0 h d) (λ d. begins x xs p.1 k d) q
    where
      first_of_two : (u : Lexemes T) → spell a ≡ u → (is_ll1 g r ≡ true) × (is_ll1 g s ≡ true) × (are_apart (follow_set g r) (first_set g s) ≡ true)
          → ((z : Lexeme T) (zs : Lexemes T) → spell a ≡ z ∷ zs → among (first_set g r) (g.kind z.1) ≡ true) → (spell a ≡ [] → may_be_empty g r ≡ true)
          → (spell b ≡ x ∷ xs → among (first_set g s) (g.kind x.1) ≡ true) → spell a ++ spell b ≡ x ∷ xs → among (first_set g (seq r s)) (g.kind x.1) ≡ true
      first_of_two [] d p here bare there q =
          let w : spell b ≡ x ∷ xs = sym (ap (λ z. z ++ spell b) d) ∙ q in
          among_right (first_set g r) _ _ (rw (bare d) (there w))
      first_of_two (z ∷ zs) d p here bare there q =
          let w : z ∷ (zs ++ spell b) ≡ x ∷ xs = sym (ap (λ z. z ++ spell b) d) ∙ q in
          let v : z ≡ x = cc in among_left (first_set g r) _ _ (ap (λ z. among (first_set g r) (g.kind z.1)) (sym v) ∙ here z zs d)
  begins x xs e (in_left {r} {s} h) q = among_left (first_set g r) _ _ (begins x xs (alt_ll1 g r s e).0 h q)
  begins x xs e (in_right {r} {s} h) q = among_right (first_set g r) _ _ (begins x xs (alt_ll1 g r s e).1 h q)
  begins x xs e in_last q = absurd (cc)
  begins x xs e (in_turn {r} {a} {t} h k) q =
      let p = star_ll1 g r e in first_turn (spell a) refl p (λ z zs d. begins z zs p.0 h d) (λ d. may_be_bare p.0 h d) q
    where
      first_turn : (u : Lexemes T) → spell a ≡ u → (is_ll1 g r ≡ true) × (may_be_empty g r ≡ false) × (are_apart (follow_set g r) (first_set g r) ≡ true)
          → ((z : Lexeme T) (zs : Lexemes T) → spell a ≡ z ∷ zs → among (first_set g r) (g.kind z.1) ≡ true) → (spell a ≡ [] → may_be_empty g r ≡ true)
          → spell a ++ spell t ≡ x ∷ xs → among (first_set g r) (g.kind x.1) ≡ true
      first_turn [] d p here bare q = let w = bare d in let v = p.1 in absurd (cc)
      first_turn (z ∷ zs) d p here bare q =
          let w : z ∷ (zs ++ spell t) ≡ x ∷ xs = sym (ap (λ z. z ++ spell t) d) ∙ q in
          let v : z ≡ x = cc in ap (λ z. among (first_set g r) (g.kind z.1)) (sym v) ∙ here z zs d
  begins x xs e (in_call {n} {t} h) q =
      let c = (call_ll1 g n e).0 in subst (λ z. among z (g.kind x.1) ≡ true) (sym (known.begin n c)) (begins x xs (known.plain n c).1 h q)
  begins x xs e (in_checked {c} {r} h) q = begins x xs (checked_ll1 g c r e).0 h q
