-- The law for whole texts and for texts with something behind them: found, only, refused.
use Rattle.std.proofs.Common.{◌≡◌, ℕ, ◌+◌, ◌<◌, ◌≤◌, true, false, [], ◌∷◌, ◌++◌, length, ⊎_elim, arith, subst, refl, sym, ap, ◌∙◌, append-nil, length-append, Result, Ok, Err, Some}
use Rattle.ll1_grammar.specs.Lexemes.{Lexeme, Lexemes, first_place}
use Rattle.ll1_grammar.specs.Rule.{Kinds, Rule, Tree, Grammar}
use Rattle.ll1_grammar.specs.Rule.Rule.{call}
use Rattle.ll1_grammar.specs.Kinds.{among, spell, first_kind, may_be_empty, first_set, follow_of, is_ll1}
use Rattle.ll1_grammar.specs.declared.refusal.TokenRefusal.{TokenRefusal}
use Rattle.ll1_grammar.specs.Trees.{Checks, In, Fits, GoesOn}
use Rattle.ll1_grammar.specs.Parse.{ParseStop, Answer, Parser, parse, refusal_of}
use Rattle.ll1_grammar.specs.Parse.ParseStop.{unwanted, broken}
use Rattle.ll1_grammar.specs.AnswerParts.{ok_parts, not_both}
use Rattle.ll1_grammar.specs.Exact.{relation_of, Unwanted, Broken, Stops, IsExact}
use Rattle.ll1_grammar.specs.Among.{either_way, is_false, true_false}
use Rattle.ll1_grammar.specs.Ll1.{Calls, no_going, may_be_bare}
use Rattle.ll1_grammar.specs.FollowSets.{bound, may_go_on}
use Rattle.ll1_grammar.specs.KeptLimits.{CallsKeep, weak, unbroken}
use Rattle.ll1_grammar.specs.Law.{exact_rule}
use Rattle.ll1_grammar.specs.ReportedKinds.{parse_begun}
use Rattle.ll1_grammar.specs.WithoutLimits.{no_check, Agrees, parse_agrees}
use Rattle.ll1_grammar.specs.AnyDepth.{free, FreeFrom, free_exact, free_from}
use Rattle.ll1_grammar.specs.Readers.{Read, Reader, refused, read_to_end}
use Rattle.ll1_grammar.specs.Bridge.{read_of, Implements, AreReported}
use Rattle.ll1_grammar.specs.Texts.{IsText, NoneGoesOn, AllThatCome, StopsAt}
use Rattle.ll1_grammar.specs.Texts.Why.{no_text, past_limit}

-- What the law needs of the readers of called rules: they are exact, and answer as those without limits do.
pub record Readable {T : Type 0} (g : Grammar T) (check : Checks T) (called : ℕ → Tree T → Type 0) (bad : ℕ → TokenRefusal → ℕ → Tree T → Type 0) (env : ℕ → Parser T) : Type 0 where
  pub known : Calls g
  pub keep : CallsKeep g called bad
  pub exact : (n : ℕ) → among g.calls n ≡ true → IsExact g check called bad (call n) (env n)
  pub depth : ℕ
  pub agree : (d : ℕ) → depth ≤ d → (n : ℕ) → among g.calls n ≡ true → (also : Kinds) (ts : Lexemes T) → among also (first_kind g ts) ≡ false
      → Agrees g (env n also ts) (free g d n also ts)
  pub begun : (n : ℕ) → among g.calls n ≡ true → (also reported : Kinds) (ts : Lexemes T) → among (g.first_set n) (first_kind g ts) ≡ true → env n also ts ≡ env n reported ts

module _ {T : Type 0} (g : Grammar T) (check : Checks T) (called : ℕ → Tree T → Type 0) (bad : ℕ → TokenRefusal → ℕ → Tree T → Type 0) (env : ℕ → Parser T) (all : Readable g check called bad env)
    (r : Rule) (p : is_ll1 g r ≡ true) where
  pub exact : IsExact g check called bad r (parse g check env r)
  exact = exact_rule g all.known check called bad all.keep env all.exact r p

  -- what else may stand there matters to no text that begins
  pub begins_alike : (also : Kinds) (ts : Lexemes T) → among (first_set g r) (first_kind g ts) ≡ true → parse g check env r also ts ≡ parse g check env r [] ts
  begins_alike also ts m = parse_begun g all.known check called bad all.keep env all.exact all.begun r p also [] ts m

  -- the first lexeme that was there is the first of the tree
  pub first_there : may_be_empty g r ≡ false → (also : Kinds) (ts : Lexemes T) (t : Tree T) (us : Lexemes T) → parse g check env r also ts ≡ Ok (t, us) → first_place ts ≡ first_place (spell t)
  first_there n also ts t us e = let s = exact.sound also ts t us e in of s.0 s.1 (spell t) refl
    where
      of : Fits g check called r t → ts ≡ spell t ++ us → (u : Lexemes T) → spell t ≡ u → first_place ts ≡ first_place (spell t)
      of h d [] q = absurd (true_false _ (may_be_bare g all.known p (weak g check called bad all.keep h) q) n)
      of h d (y ∷ ys) q = ap first_place (d ∙ ap (λ z. z ++ us) q) ∙ ap first_place (sym q)

  -- no text goes on with the end
  pub ends_at_end : (t : Tree T) → among (follow_of g r t) (g.kind g.at_end) ≡ false
  ends_at_end t = is_false _ (λ k. true_false _ (bound g all.known.bound r t _ k) (no_going g r p))

  -- The reader without limits reads each text of the grammar without limits, and answers as this one does.
  record AlsoFree (t : Tree T) : Type 0 where
    depth : ℕ
    reads : parse g no_check (free g depth) r [] (spell t) ≡ Ok (t, [])
    agrees : (ts : Lexemes T) → Agrees g (parse g check env r [] ts) (parse g no_check (free g depth) r [] ts)

  also_free : (t : Tree T) → In g r t → AlsoFree t
  also_free t h = of (free_from g all.known p h)
    where
      of : FreeFrom g r t → AlsoFree t
      of x = record {
        depth = all.depth + x.depth;
        reads = subst (λ z. parse g no_check (free g (all.depth + x.depth)) r [] z ≡ Ok (t, [])) (append-nil (spell t))
            ((free_exact g all.known (all.depth + x.depth) r p).whole [] t [] (x.fits (all.depth + x.depth) (omega arith)) (ends_at_end t));
        agrees = λ ts. parse_agrees g all.known check called bad all.keep env (free g (all.depth + x.depth)) all.exact (all.agree (all.depth + x.depth) (omega arith)) r p [] ts refl;
      }

  -- so this one refuses none of these texts,
  refuses_none : (t : Tree T) → In g r t → (ks : Kinds) (rest : Lexemes T) → parse g check env r [] (spell t) ≡ Err (unwanted ks rest) → ⊥
  refuses_none t h ks rest e = of (also_free t h)
    where
      of : AlsoFree t → ⊥
      of x =
          let a = subst (λ z. Agrees g z (parse g no_check (free g x.depth) r [] (spell t))) e (x.agrees (spell t)) in
          not_both (t, []) (unwanted a.0 rest) (sym x.reads ∙ a.1)

  -- and stops before the end of none
  leaves_none : (t : Tree T) → In g r t → (u : Tree T) (y : Lexeme T) (rest : Lexemes T) → parse g check env r [] (spell t) ≡ Ok (u, y ∷ rest) → ⊥
  leaves_none t h u y rest e = of (also_free t h)
    where
      of : AlsoFree t → ⊥
      of x =
          let a = subst (λ z. Agrees g z (parse g no_check (free g x.depth) r [] (spell t))) e (x.agrees (spell t)) in
          let q = (ok_parts t u [] (y ∷ rest) (sym x.reads ∙ a)).1 in
          cc

  -- behind the text of a tree a text goes on with the kinds of the tree's ends
  pub behind_tree : (t : Tree T) → Fits g check called r t → AllThatCome g r (spell t) (follow_of g r t)
  behind_tree t h x = (
    (λ m. may_go_on g all.known x p (weak g check called bad all.keep h) m),
    (λ o. ⊎_elim (λ m. m)
        (λ m. absurd (leaves_none o.tree o.fits t x o.more (ap (λ z. parse g check env r [] z) o.spelled ∙ exact.whole [] t (x ∷ o.more) h m)))
        (either_way (among (follow_of g r t) (g.kind x.1)))),
  )

  unwanted_stops : (ts : Lexemes T) (ks : Kinds) (rest : Lexemes T) → Unwanted g check bad r (relation_of (parse g check env r)) [] ts ks rest → StopsAt g check bad r ts (refused g ks rest)
  unwanted_stops ts ks rest o = record {
    front = o.front;
    rest = rest;
    parts = o.parts;
    begins = record { tree = o.tree; more = o.next ∷ o.later; fits = o.fits; spelled = o.spelled; unbroken = o.unbroken };
    why = no_text ks (λ x. (to x, from x)) (none rest o.refused) refl;
  }
    where
      to : (x : Lexeme T) → among ks (g.kind x.1) ≡ true → GoesOn g r o.front x
      to x m = ⊎_elim (λ w. absurd (true_false _ w.1 refl)) (λ w. w) (o.wanted x m)

      from : (x : Lexeme T) → GoesOn g r o.front x → among ks (g.kind x.1) ≡ true
      from x w =
          ⊎_elim (λ m. m) (λ m. absurd (refuses_none w.tree w.fits ks (x ∷ w.more) (ap (λ z. parse g check env r [] z) w.spelled ∙ o.same (x ∷ w.more) m)))
          (either_way (among ks (g.kind x.1)))

      none : (us : Lexemes T) → among ks (first_kind g us) ≡ false → NoneGoesOn g r o.front us
      none [] m = λ t h e. refuses_none t h ks [] (ap (λ z. parse g check env r [] z) (e ∙ sym (append-nil o.front)) ∙ o.same [] m)
      none (x ∷ us) m = λ w. true_false _ (from x w) m

  broken_stops : (ts : Lexemes T) (f : TokenRefusal) (rest : Lexemes T) → Broken g check bad r (relation_of (parse g check env r)) [] ts f rest → StopsAt g check bad r ts f
  broken_stops ts f rest o = record {
    front = o.front;
    rest = o.here ∷ o.others;
    parts = o.parts;
    begins = record { tree = o.tree; more = o.here ∷ o.later; fits = o.fits; spelled = o.spelled; unbroken = o.unbroken };
    why = past_limit o.here o.others refl (record { tree = o.tree; more = o.later; fits = o.fits; spelled = o.spelled; breaks = o.breaks });
  }

  halt_stops : (ts : Lexemes T) (h : ParseStop T) → Stops g check bad r (relation_of (parse g check env r)) [] ts h → StopsAt g check bad r ts (refusal_of g h)
  halt_stops ts (unwanted ks rest) o = unwanted_stops ts ks rest o
  halt_stops ts (broken f rest) o = broken_stops ts f rest o

  -- a reader that stops, stops there
  pub parse_refused : (ts : Lexemes T) (h : ParseStop T) → parse g check env r [] ts ≡ Err h → StopsAt g check bad r ts (refusal_of g h)
  parse_refused ts h e = halt_stops ts h (exact.stops [] ts h refl e)

  -- and so does one that is not at the end behind a text
  pub longer_refused : (ts : Lexemes T) (t : Tree T) (x : Lexeme T) (us : Lexemes T) → parse g check env r [] ts ≡ Ok (t, x ∷ us) → StopsAt g check bad r ts (refused g (follow_of g r t) (x ∷ us))
  longer_refused ts t x us e =
      let s = exact.sound [] ts t (x ∷ us) e in
      record {
        front = spell t;
        rest = x ∷ us;
        parts = s.1;
        begins = record {
          tree = t;
          more = [];
          fits = weak g check called bad all.keep s.0;
          spelled = sym (append-nil (spell t));
          unbroken = λ f i l b. unbroken g check called bad all.keep f i s.0 b;
        };
        why = no_text (follow_of g r t) (behind_tree t s.0) (λ w. true_false _ ((behind_tree t s.0 x).1 w) s.2) refl;
      }

-- The lexemes are a text of the rule, and the value is that of its tree.
pub record IsTextOf {T A : Type 0} (g : Grammar T) (check : Checks T) (called : ℕ → Tree T → Type 0) (r : Rule) (value : Tree T → A) (ts : Lexemes T) (a : A) : Type 0 where
  pub tree : Tree T
  pub text : IsText g check called r ts tree
  pub is : a ≡ value tree

-- A text of the rule stands first, as long as it goes.
pub record IsFrontOf {T A : Type 0} (g : Grammar T) (check : Checks T) (called : ℕ → Tree T → Type 0) (r : Rule) (value : Tree T → A) (ts : Lexemes T) (a : A) (rest : Lexemes T) : Type 0 where
  pub tree : Tree T
  pub fits : Fits g check called r tree
  pub parts : ts ≡ spell tree ++ rest
  pub goes_no_further : among (follow_of g r tree) (first_kind g rest) ≡ false
  pub is : a ≡ value tree

pub ok_value : {T A : Type 0} (a b : A) (x y : Lexemes T) → let u : Read T A = Ok (a, x) in let v : Read T A = Ok (b, y) in u ≡ v → (a ≡ b) × (x ≡ y)
ok_value {T = T} {A = A} a b x y e = let q : (a, x) ≡ (b, y) = same (a, x) (b, y) e in (ap (λ z. z.0) q, ap (λ z. z.1) q)
  where
    same : (c d : A × Lexemes T) → let u : Read T A = Ok c in let v : Read T A = Ok d in u ≡ v → c ≡ d
    same c d e = cc

module _ {T A : Type 0} (g : Grammar T) (check : Checks T) (called : ℕ → Tree T → Type 0) (bad : ℕ → TokenRefusal → ℕ → Tree T → Type 0) (env : ℕ → Parser T) (all : Readable g check called bad env)
    (r : Rule) (p : is_ll1 g r ≡ true) (value : Tree T → A) (read : Reader T A) (sees : Implements g check env read value r []) where
  -- a reader of what stands first: its value is that of a text of the rule,
  pub front_found : (ts : Lexemes T) (a : A) (rest : Lexemes T) → read ts ≡ Ok (a, rest) → IsFrontOf g check called r value ts a rest
  front_found ts a rest e = of (parse g check env r [] ts) refl (sym (sees.at ts) ∙ e)
    where
      of : (x : Answer T) → parse g check env r [] ts ≡ x → read_of g value x ≡ Ok (a, rest) → IsFrontOf g check called r value ts a rest
      of (Ok x) d q =
          let s = (exact g check called bad env all r p).sound [] ts x.0 x.1 d in
          let v = ok_value (value x.0) a x.1 rest q in
          record { tree = x.0; fits = s.0; parts = s.1 ∙ ap (λ z. spell x.0 ++ z) v.1; goes_no_further = ap (λ z. among (follow_of g r x.0) (first_kind g z)) (sym v.1) ∙ s.2; is = sym v.0 }
      of (Err h) d q = absurd (cc)

  -- which takes lexemes away if no text of the rule is empty,
  pub front_shorter : may_be_empty g r ≡ false → (ts : Lexemes T) (a : A) (rest : Lexemes T) → read ts ≡ Ok (a, rest) → length rest < length ts
  front_shorter n ts a rest e = let o = front_found ts a rest e in of o (spell o.tree) refl
    where
      of : (o : IsFrontOf g check called r value ts a rest) → (u : Lexemes T) → spell o.tree ≡ u → length rest < length ts
      of o [] q = absurd (true_false _ (may_be_bare g all.known p (weak g check called bad all.keep o.fits) q) n)
      of o (y ∷ ys) q = omega (arith, ap length (o.parts ∙ ap (λ z. z ++ rest) q), length-append ys rest)

  -- it reads each,
  pub front_only : (ts : Lexemes T) (a : A) (rest : Lexemes T) → IsFrontOf g check called r value ts a rest → read ts ≡ Ok (a, rest)
  front_only ts a rest o =
      sees.at ts ∙ (ap (λ z. read_of g value z) (ap (λ z. parse g check env r [] z) o.parts ∙ (exact g check called bad env all r p).whole [] o.tree rest o.fits o.goes_no_further)
      ∙ ap (λ z. Ok (z, rest)) (sym o.is))

  -- and refuses all else where it stops to be one
  pub front_refused : (ts : Lexemes T) (f : TokenRefusal) → read ts ≡ Err f → StopsAt g check bad r ts f
  front_refused ts f e = of (parse g check env r [] ts) refl (sym (sees.at ts) ∙ e)
    where
      fault_is : (a b : TokenRefusal) → let u : Read T A = Err a in let v : Read T A = Err b in u ≡ v → a ≡ b
      fault_is a b q = cc

      of : (x : Answer T) → parse g check env r [] ts ≡ x → read_of g value x ≡ Err f → StopsAt g check bad r ts f
      of (Ok x) d q = absurd (cc)
      of (Err h) d q = subst (λ z. StopsAt g check bad r ts z) (fault_is (refusal_of g h) f q) (parse_refused g check called bad env all r p ts h d)

  module _ (wanted : Kinds) (reported : (t : Tree T) → AreReported g wanted (follow_of g r t)) where
    -- a reader of a whole text: its value is that of the text,
    pub found : (ts : Lexemes T) (a : A) → read_to_end g wanted (read ts) ≡ Ok a → IsTextOf g check called r value ts a
    found ts a e = of (read ts) refl e
      where
        ok_is : (b : A) → let u : Result A TokenRefusal = Ok b in let v : Result A TokenRefusal = Ok a in u ≡ v → b ≡ a
        ok_is b q = cc

        whole : (b : A) (us : Lexemes T) → IsFrontOf g check called r value ts b us → read_to_end g wanted (Ok (b, us)) ≡ Ok a → IsTextOf g check called r value ts a
        whole b [] o q = record { tree = o.tree; text = (o.fits, o.parts ∙ append-nil (spell o.tree)); is = sym (ok_is b q) ∙ o.is }
        whole b (y ∷ us) o q = absurd (cc)

        of : (x : Read T A) → read ts ≡ x → read_to_end g wanted x ≡ Ok a → IsTextOf g check called r value ts a
        of (Ok x) d q = whole x.0 x.1 (front_found ts x.0 x.1 d) q
        of (Err h) d q = absurd (cc)

    -- it reads each,
    pub only : (ts : Lexemes T) (a : A) → IsTextOf g check called r value ts a → read_to_end g wanted (read ts) ≡ Ok a
    only ts a o =
        ap (λ z. read_to_end g wanted z) (front_only ts a [] (record {
          tree = o.tree;
          fits = o.text.0;
          parts = o.text.1 ∙ sym (append-nil (spell o.tree));
          goes_no_further = ends_at_end g check called bad env all r p o.tree;
          is = o.is;
        }))

    -- and refuses all else where it stops to be one
    pub stops : (ts : Lexemes T) (f : TokenRefusal) → read_to_end g wanted (read ts) ≡ Err f → StopsAt g check bad r ts f
    stops ts f e = of (parse g check env r [] ts) refl (ap (λ z. read_to_end g wanted z) (sym (sees.at ts)) ∙ e)
      where
        fault_is : (a b : TokenRefusal) → let u : Result A TokenRefusal = Err a in let v : Result A TokenRefusal = Err b in u ≡ v → a ≡ b
        fault_is a b q = cc

        longer : (t : Tree T) (us : Lexemes T) → parse g check env r [] ts ≡ Ok (t, us) → read_to_end g wanted (Ok (value t, us)) ≡ Err f → StopsAt g check bad r ts f
        longer t [] d q = absurd (cc)
        longer t (y ∷ us) d q =
            let n : refused g (follow_of g r t) (y ∷ us) ≡ refused g wanted (y ∷ us) = ap (λ z. record { number = z; at = Some y.0.0 }) (sym ((reported t).same y.1)) in
            subst (λ z. StopsAt g check bad r ts z) (n ∙ fault_is (refused g wanted (y ∷ us)) f q) (longer_refused g check called bad env all r p ts t y us d)

        of : (x : Answer T) → parse g check env r [] ts ≡ x → read_to_end g wanted (read_of g value x) ≡ Err f → StopsAt g check bad r ts f
        of (Ok x) d q = longer x.0 x.1 d q
        of (Err h) d q = subst (λ z. StopsAt g check bad r ts z) (fault_is (refusal_of g h) f q) (parse_refused g check called bad env all r p ts h d)
