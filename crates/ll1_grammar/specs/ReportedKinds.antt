-- The kinds that were reported matter only where a reader does not begin: behind its first lexeme it answers the same.
use Rattle.std.proofs.Common.{◌≡◌, ℕ, Bool, true, false, [], ◌∷◌, ◌++◌, length, if◌then◌else◌, refl, sym, ap, ◌∙◌, ◌⊎◌, inl, inr, ⊎_elim, Ok, Err}
use Rattle.ll1_grammar.specs.Lexemes.{Lexeme, Lexemes}
use Rattle.ll1_grammar.specs.Rule.{Kinds, Rule, Tree, Grammar}
use Rattle.ll1_grammar.specs.Rule.Rule.{empty, one, seq, alt, star, call, checked}
use Rattle.ll1_grammar.specs.Rule.Tree.{pair, left, right, turn}
use Rattle.ll1_grammar.specs.Kinds.{among, within, spell, is_bare, first_kind, may_be_empty, first_set, follow_set, follow_of, behind, is_ll1}
use Rattle.ll1_grammar.specs.declared.refusal.TokenRefusal.{TokenRefusal}
use Rattle.ll1_grammar.specs.Trees.{Checks, In}
use Rattle.ll1_grammar.specs.Parse.{ParseStop, Answer, Parser, wrap, go_on, turns, parse, checked_by}
use Rattle.ll1_grammar.specs.Parse.ParseStop.{unwanted, broken}
use Rattle.ll1_grammar.specs.Among.{among_either, by_true, by_false, true_false, is_false, when_in, no_lexeme}
use Rattle.ll1_grammar.specs.Ll1.{Calls, seq_ll1, alt_ll1, star_ll1, call_ll1, checked_ll1, one_ll1, begins}
use Rattle.ll1_grammar.specs.FollowSets.{bare_ends}
use Rattle.ll1_grammar.specs.KeptLimits.{CallsKeep, weak}
use Rattle.ll1_grammar.specs.Exact.{relation_of, Unwanted, Stops, IsRead, IsExact}
use Rattle.ll1_grammar.specs.Law.{exact_rule}

pub go_on_same : {T : Type 0} (x : Answer T) (k j : Tree T → Lexemes T → Answer T) → ((a : Tree T) (us : Lexemes T) → x ≡ Ok (a, us) → k a us ≡ j a us) → go_on x k ≡ go_on x j
go_on_same (Ok x) k j f = f x.0 x.1 refl
go_on_same (Err h) k j f = refl

module _ {T : Type 0} (g : Grammar T) (known : Calls g) (check : Checks T) (called : ℕ → Tree T → Type 0) (bad : ℕ → TokenRefusal → ℕ → Tree T → Type 0) (keep : CallsKeep g called bad)
    (env : ℕ → Parser T) (envs : (n : ℕ) → among g.calls n ≡ true → IsExact g check called bad (call n) (env n))
    (begun : (n : ℕ) → among g.calls n ≡ true → (also reported : Kinds) (ts : Lexemes T) → among (g.first_set n) (first_kind g ts) ≡ true → env n also ts ≡ env n reported ts) where
  er : (r : Rule) → is_ll1 g r ≡ true → IsExact g check called bad r (parse g check env r)
  er r e = exact_rule g known check called bad keep env envs r e

  -- a reader that begins reads something
  not_bare : (r : Rule) (e : is_ll1 g r ≡ true) (also : Kinds) (ts : Lexemes T) (a : Tree T) (us : Lexemes T) → among (first_set g r) (first_kind g ts) ≡ true → parse g check env r also ts ≡ Ok (a, us)
      → is_bare a ≡ false
  not_bare r e also ts a us m d =
      let x = (er r e).sound also ts a us d in
      is_false _ (λ b. let q = no_lexeme (spell a) b in
      true_false _ (bare_ends g known _ e (weak g check called bad keep x.0) q m)
      (ap (λ z. among (follow_of g r a) (first_kind g z)) (x.1 ∙ ap (λ z. z ++ us) q) ∙ x.2))

  same_behind : (r : Rule) (a : Tree T) (also reported : Kinds) → is_bare a ≡ false → behind g r a also ≡ behind g r a reported
  same_behind r a also reported b =
      ap (λ z. within (follow_set g r) (follow_of g r a) ++ (if may_be_empty g r then z else [])) (by_false (is_bare a) also [] b ∙ sym (by_false (is_bare a) reported [] b))

  -- a reader that does not begin and may read nothing, reads nothing
  reads_nothing : (r : Rule) (e : is_ll1 g r ≡ true) → may_be_empty g r ≡ true → (ts : Lexemes T) → among (first_set g r) (first_kind g ts) ≡ false
      → (a : Tree T) × ((also : Kinds) → parse g check env r also ts ≡ Ok (a, ts))
  reads_nothing r e n ts m = of (parse g check env r [] ts) refl
    where
      read : (a : Tree T) (us : Lexemes T) → IsRead g check called bad r ts us a → (u : Lexemes T) → spell a ≡ u → (a : Tree T) × ((also : Kinds) → parse g check env r also ts ≡ Ok (a, ts))
      read a us x [] d =
          let s : us ≡ ts = sym (x.1 ∙ ap (λ z. z ++ us) d) in
          (a, λ also. ap (λ z. parse g check env r also z) x.1 ∙ ((er r e).whole also a us x.0 x.2 ∙ ap (λ z. Ok (a, z)) s))
      read a us x (y ∷ ys) d =
          absurd (true_false _ (begins g known y ys e (weak g check called bad keep x.0) d) (ap (λ z. among (first_set g r) (first_kind g z)) (sym (x.1 ∙ ap (λ z. z ++ us) d)) ∙ m))

      begins_with : (front : Lexemes T) (y : Lexeme T) (rest later : Lexemes T) (t : Tree T) → In g r t → spell t ≡ front ++ y ∷ later → ts ≡ front ++ y ∷ rest → ⊥
      begins_with [] y rest later t h d q = true_false _ (begins g known y later e h d) (ap (λ z. among (first_set g r) (first_kind g z)) (sym q) ∙ m)
      begins_with (z ∷ zs) y rest later t h d q = true_false _ (begins g known z (zs ++ y ∷ later) e h d) (ap (λ z. among (first_set g r) (first_kind g z)) (sym q) ∙ m)

      no_unwanted : (ks : Kinds) (rest : Lexemes T) → (o : Unwanted g check bad r (relation_of (parse g check env r)) [] ts ks rest) → (front : Lexemes T) → o.front ≡ front → ⊥
      no_unwanted ks rest o [] d = true_false _ n (o.at_front d).0
      no_unwanted ks rest o (z ∷ zs) d =
          true_false _ (begins g known z (zs ++ o.next ∷ o.later) e o.fits (o.spelled ∙ ap (λ w. w ++ o.next ∷ o.later) d))
          (ap (λ z. among (first_set g r) (first_kind g z)) (sym (o.parts ∙ ap (λ w. w ++ rest) d)) ∙ m)

      refused : (h : ParseStop T) → Stops g check bad r (relation_of (parse g check env r)) [] ts h → ⊥
      refused (unwanted ks rest) o = no_unwanted ks rest o o.front refl
      refused (broken f rest) o = begins_with o.front o.here o.others o.later o.tree o.fits o.spelled o.parts

      of : (x : Answer T) → parse g check env r [] ts ≡ x → (a : Tree T) × ((also : Kinds) → parse g check env r also ts ≡ Ok (a, ts))
      of (Ok x) d = let s = (er r e).sound [] ts x.0 x.1 d in read x.0 x.1 s (spell x.0) refl
      of (Err h) d = absurd (refused h ((er r e).stops [] ts h refl d))

  pub parse_begun : (r : Rule) → is_ll1 g r ≡ true → (also reported : Kinds) (ts : Lexemes T) → among (first_set g r) (first_kind g ts) ≡ true → parse g check env r also ts ≡ parse g check env r reported ts
  parse_begun empty e also reported ts m = refl
  parse_begun (one ks) e also reported [] m = absurd (true_false _ m (one_ll1 g ks e).0)
  parse_begun (one ks) e also reported (x ∷ xs) m = by_true _ _ _ m ∙ sym (by_true _ _ _ m)
  parse_begun (seq r s) e also reported ts m =
      let p = seq_ll1 g r s e in
      ⊎_elim (λ k. first_begun p.0 k (parse_begun r p.0 also reported ts k))
      (λ k. second_begun p.0 (reads_nothing r p.0 (when_in (may_be_empty g r) (first_set g s) _ k.1).0 ts k.0) (λ more others. parse_begun s p.1 more others ts (when_in (may_be_empty g r) (first_set g s) _ k.1).1))
      (first_or_second (among (first_set g r) (first_kind g ts)) refl)
    where
      first_or_second : (b : Bool) → among (first_set g r) (first_kind g ts) ≡ b
          → (among (first_set g r) (first_kind g ts) ≡ true) ⊎ ((among (first_set g r) (first_kind g ts) ≡ false) × (among (if may_be_empty g r then first_set g s else []) (first_kind g ts) ≡ true))
      first_or_second true d = inl d
      first_or_second false d = inr (d, ⊎_elim (λ w. absurd (true_false _ w d)) (λ w. w) (among_either (first_set g r) _ _ m))

      first_begun : is_ll1 g r ≡ true → among (first_set g r) (first_kind g ts) ≡ true → parse g check env r also ts ≡ parse g check env r reported ts → parse g check env (seq r s) also ts ≡ parse g check env (seq r s) reported ts
      first_begun p k d =
          ap (λ z. go_on z (λ a us. wrap (pair a) (parse g check env s (behind g r a also) us))) d
          ∙ go_on_same (parse g check env r reported ts) (λ a us. wrap (pair a) (parse g check env s (behind g r a also) us)) (λ a us. wrap (pair a) (parse g check env s (behind g r a reported) us))
          (λ a us q. ap (λ z. wrap (pair a) (parse g check env s z us)) (same_behind r a also reported (not_bare r p reported ts a us k q)))

      second_begun : is_ll1 g r ≡ true → ((a : Tree T) × ((also : Kinds) → parse g check env r also ts ≡ Ok (a, ts))) → ((more others : Kinds) → parse g check env s more ts ≡ parse g check env s others ts)
          → parse g check env (seq r s) also ts ≡ parse g check env (seq r s) reported ts
      second_begun p a again =
          ap (λ z. go_on z (λ a us. wrap (pair a) (parse g check env s (behind g r a also) us))) (a.1 also)
          ∙ (ap (λ z. wrap (pair a.0) z) (again (behind g r a.0 also) (behind g r a.0 reported))
          ∙ sym (ap (λ z. go_on z (λ a us. wrap (pair a) (parse g check env s (behind g r a reported) us))) (a.1 reported)))
  parse_begun (alt r s) e also reported ts m =
      let p = alt_ll1 g r s e in
      choice (among (first_set g r) (first_kind g ts)) refl (λ k. parse_begun r p.0 also reported ts k) (λ k. parse_begun s p.1 (first_set g r ++ also) (first_set g r ++ reported) ts k)
    where
      choice : (b : Bool) → among (first_set g r) (first_kind g ts) ≡ b → (among (first_set g r) (first_kind g ts) ≡ true → parse g check env r also ts ≡ parse g check env r reported ts)
          → (among (first_set g s) (first_kind g ts) ≡ true → parse g check env s (first_set g r ++ also) ts ≡ parse g check env s (first_set g r ++ reported) ts)
          → (if b then wrap left (parse g check env r also ts) else wrap right (parse g check env s (first_set g r ++ also) ts))
          ≡ (if b then wrap left (parse g check env r reported ts) else wrap right (parse g check env s (first_set g r ++ reported) ts))
      choice true d x y = ap (λ z. wrap left z) (x d)
      choice false d x y = ap (λ z. wrap right z) (y (⊎_elim (λ w. absurd (true_false _ w d)) (λ w. w) (among_either (first_set g r) _ _ m)))
  parse_begun (star r) e also reported [] m = refl
  parse_begun (star r) e also reported (x ∷ xs) m =
      let p = star_ll1 g r e in
      by_true _ _ _ m ∙ (ap (λ z. go_on z (λ a us. wrap (turn a) (turns g r (parse g check env r) (length xs) (behind g r a also) us))) (parse_begun r p.0 also reported (x ∷ xs) m)
      ∙ (go_on_same (parse g check env r reported (x ∷ xs)) (λ a us. wrap (turn a) (turns g r (parse g check env r) (length xs) (behind g r a also) us))
      (λ a us. wrap (turn a) (turns g r (parse g check env r) (length xs) (behind g r a reported) us))
      (λ a us q. ap (λ z. wrap (turn a) (turns g r (parse g check env r) (length xs) z us)) (same_behind r a also reported (not_bare r p.0 reported (x ∷ xs) a us m q)))
      ∙ sym (by_true _ _ _ m)))
  parse_begun (call n) e also reported ts m = begun n (call_ll1 g n e).0 also reported ts m
  parse_begun (checked c r) e also reported ts m = ap (λ z. go_on z (λ t us. checked_by (check c t) t us)) (parse_begun r (checked_ll1 g c r e).0 also reported ts m)
