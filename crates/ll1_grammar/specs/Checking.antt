-- The law for a checked rule.
use Rattle.std.proofs.Common.{◌≡◌, ℕ, zero, suc, ◌<◌, true, false, [], ◌∷◌, ◌++◌, length, inl, ⊎_elim, refl, sym, ap, subst, ◌∙◌, Ok, Err, append_assoc, arith}
use Rattle.ll1_grammar.specs.Lexemes.{Lexeme, Lexemes, first_place}
use Rattle.ll1_grammar.specs.Rule.{Kinds, Rule, Tree, Grammar}
use Rattle.ll1_grammar.specs.Rule.Rule.{checked}
use Rattle.ll1_grammar.specs.Rule.Tree.{held}
use Rattle.ll1_grammar.specs.Kinds.{among, spell, first_kind, may_be_empty, follow_set, follow_of, is_ll1}
use Rattle.ll1_grammar.specs.declared.refusal.TokenRefusal.{TokenRefusal}
use Rattle.ll1_grammar.specs.Trees.{Checks, Fits, Breaks}
use Rattle.ll1_grammar.specs.Trees.In.{in_checked}
use Rattle.ll1_grammar.specs.Trees.Fits.{fits_checked}
use Rattle.ll1_grammar.specs.Trees.Breaks.{within_checked, by_check}
use Rattle.ll1_grammar.specs.Parse.{ParseStop, Parser, go_on, from_last, checked_by}
use Rattle.ll1_grammar.specs.Parse.ParseStop.{unwanted, broken}
use Rattle.ll1_grammar.specs.AnswerParts.{WasRead, go_on_ok, go_on_err, ok_parts, not_both, err_is}
use Rattle.ll1_grammar.specs.Exact.{relation_of, Broken, Stops, IsRead, IsExact}
use Rattle.ll1_grammar.specs.Among.{true_false, length_of, is_false}
use Rattle.ll1_grammar.specs.Ll1.{Calls, may_be_bare, checked_ll1}
use Rattle.ll1_grammar.specs.FollowSets.{bound}
use Rattle.ll1_grammar.specs.KeptLimits.{CallsKeep, weak, unbroken}
use Rattle.ll1_grammar.specs.Stopping.{Wraps, wrap_broken, wrap_unwanted}

-- what a check's answer says
pub checked_ok : {T : Type 0} (j : ℕ) (t u : Tree T) (us rest : Lexemes T) → checked_by j t us ≡ Ok (u, rest) → (j ≡ 0) × (held t ≡ u) × (us ≡ rest)
checked_ok zero t u us rest e = let p = ok_parts (held t) u us rest e in (refl, p.0, p.1)
checked_ok (suc j) t u us rest e = absurd (not_both (u, rest) (broken (record { number = suc j; at = first_place (spell t) }) (from_last (spell t) us)) (sym e))

pub checked_good : {T : Type 0} (j : ℕ) (t : Tree T) (us : Lexemes T) → j ≡ 0 → checked_by j t us ≡ Ok (held t, us)
checked_good zero t us e = refl
checked_good (suc j) t us e = absurd (omega (arith, e))

pub checked_bad : {T : Type 0} (j : ℕ) (t : Tree T) (us : Lexemes T) → (j ≡ 0 → ⊥) → checked_by j t us ≡ Err (broken (record { number = j; at = first_place (spell t) }) (from_last (spell t) us))
checked_bad zero t us n = absurd (n refl)
checked_bad (suc j) t us n = refl

pub checked_err : {T : Type 0} (j : ℕ) (t : Tree T) (us : Lexemes T) (h : ParseStop T) → checked_by j t us ≡ Err h
    → (j ≡ 0 → ⊥) × (broken (record { number = j; at = first_place (spell t) }) (from_last (spell t) us) ≡ h)
checked_err zero t us h e = absurd (not_both (held t, us) h e)
checked_err (suc j) t us h e = ((λ d. omega (arith, d)), err_is _ h e)

-- a list that is not empty has a last lexeme
pub record HasLast {T : Type 0} (u : Lexemes T) : Type 0 where
  pub front : Lexemes T
  pub here : Lexeme T
  pub is : u ≡ front ++ here ∷ []
  pub from : (us : Lexemes T) → from_last u us ≡ here ∷ us

pub has_last : {T : Type 0} (u : Lexemes T) → (u ≡ [] → ⊥) → HasLast u
has_last [] n = absurd (n refl)
has_last (x ∷ []) n = record { front = []; here = x; is = refl; from = λ us. refl }
has_last (x ∷ y ∷ z) n = more (has_last (y ∷ z) (λ d. cc))
  where
    more : HasLast (y ∷ z) → HasLast (x ∷ y ∷ z)
    more l = record { front = x ∷ l.front; here = l.here; is = ap (λ z. x ∷ z) l.is; from = l.from }

module _ {T : Type 0} (g : Grammar T) (known : Calls g) (check : Checks T) (called : ℕ → Tree T → Type 0) (bad : ℕ → TokenRefusal → ℕ → Tree T → Type 0) (keep : CallsKeep g called bad) where
  wraps_held : (c : ℕ) (r : Rule) → Wraps g check bad check bad r (checked c r) held
  wraps_held c r = record { keeps = λ t. refl; into = λ t h. in_checked h; out_of = out }
    where
      out : (f : TokenRefusal) (i : ℕ) (t : Tree T) → Breaks check bad (checked c r) f i (held t) → suc i < length (spell t) → Breaks check bad r f i t
      out f i t (within_checked b) l = b
      out f i t (by_check e n d) l = absurd (omega (arith, e))

  abbrev pub with_check : ℕ → Parser T → Parser T
  with_check c p also ts = go_on (p also ts) (λ t us. checked_by (check c t) t us)

  module _ (c : ℕ) (r : Rule) (p : is_ll1 g (checked c r) ≡ true) (pr : Parser T) (er : IsExact g check called bad r pr) where
    checked_sound : (also : Kinds) (ts : Lexemes T) (t : Tree T) (rest : Lexemes T) → with_check c pr also ts ≡ Ok (t, rest) → IsRead g check called bad (checked c r) ts rest t
    checked_sound also ts t rest e = of (go_on_ok (pr also ts) (λ t us. checked_by (check c t) t us) (t, rest) e)
      where
        of : WasRead (pr also ts) (λ t us. checked_by (check c t) t us) (Ok (t, rest)) → IsRead g check called bad (checked c r) ts rest t
        of v =
            let x = er.sound also ts v.tree v.rest v.was in
            let y = checked_ok (check c v.tree) v.tree t v.rest rest v.then_was in
            subst (λ z. IsRead g check called bad (checked c r) ts rest z) y.1
            (fits_checked x.0 y.0, x.1 ∙ ap (λ z. spell v.tree ++ z) y.2, ap (λ z. among (follow_of g r v.tree) (first_kind g z)) (sym y.2) ∙ x.2)

    checked_whole : (also : Kinds) (t : Tree T) (rest : Lexemes T) → Fits g check called (checked c r) t → among (follow_of g (checked c r) t) (first_kind g rest) ≡ false
        → with_check c pr also (spell t ++ rest) ≡ Ok (t, rest)
    checked_whole also t rest (fits_checked {t = u} h q) m =
        ap (λ z. go_on z (λ t us. checked_by (check c t) t us)) (er.whole also u rest h m) ∙ checked_good (check c u) u rest q

    checked_stops : (also : Kinds) (ts : Lexemes T) (h : ParseStop T) → among also (first_kind g ts) ≡ false → with_check c pr also ts ≡ Err h
        → Stops g check bad (checked c r) (relation_of (with_check c pr)) also ts h
    checked_stops also ts h m e =
        ⊎_elim (λ d. inner h (er.stops also ts h m d)) (λ v. own v.tree v.rest (er.sound also ts v.tree v.rest v.was) (checked_err (check c v.tree) v.tree v.rest h v.then_was))
        (go_on_err (pr also ts) (λ t us. checked_by (check c t) t us) h e)
      where
        q : (is_ll1 g r ≡ true) × (may_be_empty g r ≡ false) × (follow_set g r ≡ [])
        q = checked_ll1 g c r p

        inner : (h : ParseStop T) → Stops g check bad r (relation_of pr) also ts h → Stops g check bad (checked c r) (relation_of (with_check c pr)) also ts h
        inner (unwanted ks rest) o =
            wrap_unwanted g check bad check bad r (checked c r) held (wraps_held c r) (relation_of pr) (relation_of (with_check c pr)) also also ts ks rest o
            (λ x d j. inl (d, j)) o.at_front
            (λ us n k. ap (λ z. go_on z (λ t us. checked_by (check c t) t us)) k)
        inner (broken f rest) o =
            wrap_broken g check bad check bad r (checked c r) held (wraps_held c r) (relation_of pr) (relation_of (with_check c pr)) also also ts f rest o
            (λ b. within_checked b)
            (λ us k. ap (λ z. go_on z (λ t us. checked_by (check c t) t us)) k)

        refused : (t : Tree T) (us : Lexemes T) → IsRead g check called bad r ts us t → (check c t ≡ 0 → ⊥) → HasLast (spell t)
            → Broken g check bad (checked c r) (relation_of (with_check c pr)) also ts (record { number = check c t; at = first_place (spell t) }) (from_last (spell t) us)
        refused t us x n l = record {
          front = l.front;
          here = l.here;
          others = us;
          stands = l.from us;
          parts = x.1 ∙ (ap (λ z. z ++ us) l.is ∙ append_assoc l.front (l.here ∷ []) us);
          tree = held t;
          later = [];
          fits = in_checked (weak g check called bad keep x.0);
          spelled = l.is;
          unbroken = λ f i k b. earlier f i k b;
          breaks = by_check sized n refl;
          same = λ vs. ap (λ z. with_check c pr also z) (sym (ap (λ z. z ++ vs) l.is ∙ append_assoc l.front (l.here ∷ []) vs))
              ∙ (ap (λ z. go_on z (λ t us. checked_by (check c t) t us)) (er.whole also t vs x.0 (no_more vs))
              ∙ (checked_bad (check c t) t vs n ∙ ap (λ z. Err (broken (record { number = check c t; at = first_place (spell t) }) z)) (l.from vs)));
        }
          where
            sized : length (spell t) ≡ suc (length l.front)
            sized = omega (arith, length_of l.front (l.here ∷ []) l.is)

            earlier : (f : TokenRefusal) (i : ℕ) → i < length l.front → Breaks check bad (checked c r) f i (held t) → ⊥
            earlier f i k (within_checked b) = unbroken g check called bad keep f i x.0 b
            earlier f i k (by_check e w d) = omega (arith, sized, e)

            no_more : (vs : Lexemes T) → among (follow_of g r t) (first_kind g vs) ≡ false
            no_more vs = is_false _ (λ k. let w = bound g known.bound r t _ k in true_false _ w (ap (λ z. among z (first_kind g vs)) q.2))

        own : (t : Tree T) (us : Lexemes T) → IsRead g check called bad r ts us t
            → (check c t ≡ 0 → ⊥) × (broken (record { number = check c t; at = first_place (spell t) }) (from_last (spell t) us) ≡ h)
            → Stops g check bad (checked c r) (relation_of (with_check c pr)) also ts h
        own t us x y =
            subst (λ z. Stops g check bad (checked c r) (relation_of (with_check c pr)) also ts z) y.1
            (refused t us x y.0 (has_last (spell t) (λ d. true_false _ (may_be_bare g known q.0 (weak g check called bad keep x.0) d) q.1)))

    pub exact_checked : IsExact g check called bad (checked c r) (with_check c pr)
    exact_checked = record { sound = checked_sound; whole = checked_whole; stops = checked_stops }
