-- What a grammar says of the rules that it calls, from what can be computed: for rules that begin with a token of
-- their own and do not go on.
use Rattle.std.proofs.Common.{◌≡◌, ℕ, Bool, true, false, [], ◌++◌, ◌&&◌, if◌then◌else◌, refl, sym, ap, subst, ◌∙◌, ⊎_elim, append-nil}
use Rattle.ll1_grammar.specs.Lexemes.{Lexeme}
use Rattle.ll1_grammar.specs.Rule.{Kinds, Rule, Tree, Grammar}
use Rattle.ll1_grammar.specs.Rule.Rule.{empty, one, seq, alt, star, call, checked}
use Rattle.ll1_grammar.specs.Rule.Tree.{leaf, pair, left, right, last, turn, node, held}
use Rattle.ll1_grammar.specs.Kinds.{among, spell, may_be_empty, first_set, follow_set, follow_of, is_ll1}
use Rattle.ll1_grammar.specs.Trees.{In, GoesOn}
use Rattle.ll1_grammar.specs.Trees.In.{in_one, in_seq, in_left, in_right, in_last, in_turn, in_call, in_checked}
use Rattle.ll1_grammar.specs.Among.{is_false, true_false, and_true, among_either, when_in}
use Rattle.ll1_grammar.specs.Ll1.{Calls, seq_ll1, alt_ll1, star_ll1, checked_ll1}
use Rattle.ll1_grammar.specs.FollowSets.{a_text, empty_text, bound}

-- no called rule stands where the rule begins
abbrev pub begins_itself : {T : Type 0} → Grammar T → Rule → Bool
begins_itself g empty = true
begins_itself g (one ks) = true
begins_itself g (seq r s) = begins_itself g r && (if may_be_empty g r then begins_itself g s else true)
begins_itself g (alt r s) = begins_itself g r && begins_itself g s
begins_itself g (star r) = begins_itself g r
begins_itself g (call n) = false
begins_itself g (checked c r) = begins_itself g r

module _ {T : Type 0} (g : Grammar T) (texts : (n : ℕ) → among g.calls n ≡ true → (t : Tree T) × In g (call n) t) where
  -- such a rule has a text that begins with any lexeme of a kind among its starts
  pub itself_begins : (r : Rule) (x : Lexeme T) → is_ll1 g r ≡ true → begins_itself g r ≡ true → among (first_set g r) (g.kind x.1) ≡ true → GoesOn g r [] x
  itself_begins empty x e b m = absurd (cc)
  itself_begins (one ks) x e b m = record { tree = leaf x; more = []; fits = in_one m; spelled = refl }
  itself_begins (seq r s) x e b m =
      let p = seq_ll1 g r s e in
      let q = and_true _ _ b in
      ⊎_elim (λ h. in_front (itself_begins r x p.0 q.0 h) (a_text g texts s p.1))
      (λ h. let w = when_in (may_be_empty g r) (first_set g s) _ h in
      behind_nothing (empty_text g r p.0 w.0) (itself_begins s x p.1 (also_second (may_be_empty g r) (begins_itself g s) w.0 q.1) w.1))
      (among_either (first_set g r) _ _ m)
    where
      also_second : (a c : Bool) → a ≡ true → (if a then c else true) ≡ true → c ≡ true
      also_second true c d h = h
      also_second false c d h = absurd (cc)

      in_front : GoesOn g r [] x → ((t : Tree T) × In g s t) → GoesOn g (seq r s) [] x
      in_front o c = record { tree = pair o.tree c.0; more = o.more ++ spell c.0; fits = in_seq o.fits c.1; spelled = ap (λ z. z ++ spell c.0) o.spelled }

      behind_nothing : ((t : Tree T) × In g r t × (spell t ≡ [])) → GoesOn g s [] x → GoesOn g (seq r s) [] x
      behind_nothing a o = record { tree = pair a.0 o.tree; more = o.more; fits = in_seq a.1 o.fits; spelled = ap (λ z. z ++ spell o.tree) a.2 ∙ o.spelled }
  itself_begins (alt r s) x e b m =
      let p = alt_ll1 g r s e in
      let q = and_true _ _ b in
      ⊎_elim (λ h. to_left (itself_begins r x p.0 q.0 h)) (λ h. to_right (itself_begins s x p.1 q.1 h)) (among_either (first_set g r) _ _ m)
    where
      to_left : GoesOn g r [] x → GoesOn g (alt r s) [] x
      to_left o = record { tree = left o.tree; more = o.more; fits = in_left o.fits; spelled = o.spelled }

      to_right : GoesOn g s [] x → GoesOn g (alt r s) [] x
      to_right o = record { tree = right o.tree; more = o.more; fits = in_right o.fits; spelled = o.spelled }
  itself_begins (star r) x e b m = a_turn (itself_begins r x (star_ll1 g r e).0 b m)
    where
      a_turn : GoesOn g r [] x → GoesOn g (star r) [] x
      a_turn o = record { tree = turn o.tree last; more = o.more; fits = in_turn o.fits in_last; spelled = append-nil (spell o.tree) ∙ o.spelled }
  itself_begins (call n) x e b m = absurd (cc)
  itself_begins (checked c r) x e b m = hold (itself_begins r x (checked_ll1 g c r e).0 b m)
    where
      hold : GoesOn g r [] x → GoesOn g (checked c r) [] x
      hold o = record { tree = held o.tree; more = o.more; fits = in_checked o.fits; spelled = o.spelled }

-- What is computed of each rule that is called.
pub record ClosedCall {T : Type 0} (g : Grammar T) (n : ℕ) : Type 0 where
  pub plain : (is_ll1 g (call n) ≡ true) × (is_ll1 g (g.body n) ≡ true)
  pub full : may_be_empty g (g.body n) ≡ false
  pub itself : begins_itself g (g.body n) ≡ true
  pub begin : g.first_set n ≡ first_set g (g.body n)
  pub closed : (g.follow_set n ≡ []) × (follow_set g (g.body n) ≡ [])

-- So what the grammar says of them is so.
pub closed_calls : {T : Type 0} (g : Grammar T) → ((n : ℕ) → among g.calls n ≡ true → (t : Tree T) × In g (call n) t)
    → ((n : ℕ) (t : Tree T) (k : ℕ) → among (g.follow_of n t) k ≡ true → among (g.follow_set n) k ≡ true) → ((n : ℕ) → among g.calls n ≡ true → ClosedCall g n) → Calls g
closed_calls {T} g texts bound_of so = record {
  plain = λ n c. (so n c).plain;
  full = λ n c. (so n c).full;
  begin = λ n c. (so n c).begin;
  end = λ n t k c. none (g.follow_set n) (follow_of g (call n) (node t)) k (so n c).closed.0 (bound g bound_of (call n) (node t) k) ∙ sym (none (follow_set g (g.body n)) (follow_of g (g.body n) t) k (so n c).closed.1 (bound g bound_of (g.body n) t k));
  bound = bound_of;
  text = texts;
  may_begin = λ n x c m. called n (itself_begins g texts (g.body n) x (so n c).plain.1 (so n c).itself (subst (λ z. among z (g.kind x.1) ≡ true) (so n c).begin m));
}
  where
    none : (ks js : Kinds) (k : ℕ) → ks ≡ [] → (among js k ≡ true → among ks k ≡ true) → among js k ≡ false
    none ks js k e h = is_false _ (λ m. true_false _ (h m) (ap (λ z. among z k) e))

    called : (n : ℕ) {x : Lexeme T} → GoesOn g (g.body n) [] x → GoesOn g (call n) [] x
    called n o = record { tree = node o.tree; more = o.more; fits = in_call o.fits; spelled = o.spelled }
