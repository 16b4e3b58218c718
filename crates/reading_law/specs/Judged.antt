-- Other forms of the same texts, judgements of what was read, readers that are given their place, and readers of one of two forms.
use Rattle.std.proofs.Common.{◌≡◌, ℕ, Bool, true, false, [], ◌++◌, ◌⊎◌, Option, None, Ok, Err, inl, inr, refl, sym, ◌∙◌, ap, subst}
use Rattle.std.proofs.lemmas.List.{append-nil}
use Rattle.ll1_grammar.specs.Lexemes.{Lexeme, Lexemes, first_place}
use Rattle.ll1_grammar.specs.Readers.{Read, Reader, and_then, ◌>>=◌}
use Rattle.ll1_grammar.specs.declared.refusal.TokenRefusal.{TokenRefusal}
use Rattle.reading_law.specs.Chained.{same_head, next_ok, next_err}
use Rattle.reading_law.specs.Combined.{Passing, Either, by_first, by_second, on, judged, from_here}
use Rattle.reading_law.specs.Exact.{Form, head_of, token_of, Exact}
use Rattle.reading_law.specs.OneToken.{ok_is, err_no_ok, ok_no_err, place_by_head}

-- a test has one of two answers
pub answers : (b : Bool) → (b ≡ true) ⊎ (b ≡ false)
answers true = inl refl
answers false = inr refl

-- the same texts, said otherwise
module _ {T A : Type 0} {early : ℕ → Bool} {p : Reader T A} {form loose : Form T A} {stops : Option (Lexeme T) → Bool} (other_form other_loose : Form T A) where
  pub exact_as : Exact early p form loose stops
      → ((a : A) (w : Lexemes T) → form a w → other_form a w) → ((a : A) (w : Lexemes T) → other_form a w → form a w) → ((a : A) (w : Lexemes T) → loose a w → other_loose a w)
      → Exact early p other_form other_loose stops
  exact_as e to from weaken = record {
    sound = λ ts a us h. let t = e.sound ts a us h in record { part = t.part; parts = t.parts; written = to a t.part t.written; stands = t.stands };
    whole = λ a w us h s. e.whole a w us (from a w h) s;
    refused = λ ts f h. let s = e.refused ts f h in record { front = s.front; behind = s.behind; more = s.more; value = s.value; parts = s.parts; goes_on = weaken s.value (s.front ++ s.more) s.goes_on; same = s.same; place = s.place };
    weak = λ a w h. weaken a w (e.weak a w (from a w h));
  }

-- What was read is judged: where it does not pass, it is refused at a place that was known before.
module _ {T A : Type 0} (early : ℕ → Bool) (p : Reader T A) (form loose : Form T A) (stops : Option (Lexeme T) → Bool) (test : A → Bool) (f : TokenRefusal)
    (first : Exact early p form loose stops) (is_early : early f.number ≡ true) where
  judged_ok : (a b : A) (us vs : Lexemes T) → judged test f a us ≡ Ok (b, vs) → (test a ≡ true) × (a ≡ b) × (us ≡ vs)
  judged_ok a b us vs e = elim (answers (test a)) [
    | inl t ↦ (let s : judged test f a us ≡ Ok (a, us) = rw t refl in let q = ok_is {T = T} a b us vs (sym s ∙ e) in (t, q.0, q.1))
    | inr t ↦ absurd (let s : judged test f a us ≡ Err f = rw t refl in err_no_ok {T = T} b vs f (sym s ∙ e))
  ]

  judged_err : (a : A) (us : Lexemes T) (g : TokenRefusal) → judged test f a us ≡ Err g → (test a ≡ false) × (g ≡ f)
  judged_err a us g e = elim (answers (test a)) [
    | inl t ↦ absurd (let s : judged test f a us ≡ Ok (a, us) = rw t refl in ok_no_err {T = T} a us g (sym s ∙ e))
    | inr t ↦ (t, (let s : judged test f a us ≡ Err f = rw t refl in same_err f g (sym s ∙ e)))
  ]
    where
      same_err : (x y : TokenRefusal) → let r : Read T A = Err x in let s : Read T A = Err y in r ≡ s → y ≡ x
      same_err x y e = cc

  pub exact_judged : Exact early (p >>= judged test f) (Passing form test) loose stops
  exact_judged = record {
    sound = λ ts b us e.
        (let d = next_ok (p ts) (judged test f) b us e in
        let j = judged_ok d.0 b d.1 us d.3 in
        let t = first.sound ts d.0 d.1 d.2 in
        record {
          part = t.part;
          parts = t.parts ∙ ap (λ z. t.part ++ z) j.2;
          written = record { written = subst (λ a. form a t.part) j.1 t.written; passes = subst (λ a. test a ≡ true) j.1 j.0 };
          stands = subst (λ z. stops (head_of z) ≡ true) j.2 t.stands;
        });
    whole = λ a w us h s. ap (λ z. and_then z (judged test f)) (first.whole a w us h.written s) ∙ rw h.passes refl;
    refused = λ ts g e. elim (next_err (p ts) (judged test f) g e) [
      | inl d ↦ (let s = first.refused ts g d in
          record { front = s.front; behind = s.behind; more = s.more; value = s.value; parts = s.parts; goes_on = s.goes_on; same = λ others h. ap (λ z. and_then z (judged test f)) (s.same others h); place = s.place })
      | inr d ↦ (let t = first.sound ts d.value d.left d.first in
          let j = judged_err d.value d.left g d.next in
          record {
            front = t.part;
            behind = d.left;
            more = [];
            value = d.value;
            parts = t.parts;
            goes_on = subst (loose d.value) (sym (append-nil t.part)) (first.weak d.value t.part t.written);
            same = λ others h.
                ap (λ z. and_then z (judged test f)) (first.whole d.value t.part others t.written (subst (λ o. stops o ≡ true) (sym h) t.stands))
                ∙ (let refuses : judged test f d.value others ≡ Err f = rw j.0 refl in refuses ∙ ap Err (sym j.1));
            place = inr (subst (λ (x : TokenRefusal). early x.number ≡ true) (sym j.1) is_early);
          })
    ];
    weak = λ a w h. first.weak a w h.written;
  }

-- a reader that is given the place where it begins
module _ {T A : Type 0} (early : ℕ → Bool) (p : Option ℕ → Reader T A) (form loose : Form T A) (stops : Option (Lexeme T) → Bool)
    (at_each : (at : Option ℕ) → Exact early (p at) form loose stops) where
  pub exact_here : Exact early (from_here p) form loose stops
  exact_here = record {
    sound = λ ts a us e. (at_each (first_place ts)).sound ts a us e;
    whole = λ a w us h s. (at_each (first_place (w ++ us))).whole a w us h s;
    refused = λ ts f e.
        (let s = (at_each (first_place ts)).refused ts f e in
        record {
          front = s.front;
          behind = s.behind;
          more = s.more;
          value = s.value;
          parts = s.parts;
          goes_on = s.goes_on;
          place = s.place;
          same = λ others h.
              (let heads : head_of (s.front ++ others) ≡ head_of ts = same_head s.front others s.behind h ∙ ap head_of (sym s.parts) in
              ap (λ at. p at (s.front ++ others)) (place_by_head (s.front ++ others) ts heads) ∙ s.same others h);
        });
    weak = λ a w h. (at_each None).weak a w h;
  }

-- one of two readers, by the token that stands there
module _ {T A : Type 0} (early : ℕ → Bool) (end : T) (test : T → Bool) (p q : Reader T A) (form form_loose next next_loose : Form T A) (stops : Option (Lexeme T) → Bool)
    (first : Exact early p form form_loose stops) (second : Exact early q next next_loose stops)
    (leads : (a : A) (w us : Lexemes T) → form a w → stops (head_of us) ≡ true → test (token_of end (head_of (w ++ us))) ≡ true)
    (leads_not : (a : A) (w us : Lexemes T) → next a w → stops (head_of us) ≡ true → test (token_of end (head_of (w ++ us))) ≡ false) where
  on_first : (ts : Lexemes T) → test (token_of end (head_of ts)) ≡ true → on end test p q ts ≡ p ts
  on_first ts t = rw t refl

  on_second : (ts : Lexemes T) → test (token_of end (head_of ts)) ≡ false → on end test p q ts ≡ q ts
  on_second ts t = rw t refl

  -- the test sees the first lexeme alone
  same_test : (front others behind ts : Lexemes T) (b : Bool) → ts ≡ front ++ behind → head_of others ≡ head_of behind → test (token_of end (head_of ts)) ≡ b → test (token_of end (head_of (front ++ others))) ≡ b
  same_test front others behind ts b parts h t = ap (λ o. test (token_of end o)) (same_head front others behind h ∙ ap head_of (sym parts)) ∙ t

  pub exact_on : Exact early (on end test p q) (Either form next) (Either form_loose next_loose) stops
  exact_on = record {
    sound = λ ts a us e. elim (answers (test (token_of end (head_of ts)))) [
      | inl t ↦ (let s = first.sound ts a us (sym (on_first ts t) ∙ e) in record { part = s.part; parts = s.parts; written = by_first s.written; stands = s.stands })
      | inr t ↦ (let s = second.sound ts a us (sym (on_second ts t) ∙ e) in record { part = s.part; parts = s.parts; written = by_second s.written; stands = s.stands })
    ];
    whole = λ a w us h s. elim h [
      | by_first f ↦ on_first (w ++ us) (leads a w us f s) ∙ first.whole a w us f s
      | by_second f ↦ on_second (w ++ us) (leads_not a w us f s) ∙ second.whole a w us f s
    ];
    refused = λ ts f e. elim (answers (test (token_of end (head_of ts)))) [
      | inl t ↦ (let s = first.refused ts f (sym (on_first ts t) ∙ e) in
          record {
            front = s.front;
            behind = s.behind;
            more = s.more;
            value = s.value;
            parts = s.parts;
            place = s.place;
            goes_on = by_first s.goes_on;
            same = λ others h. on_first (s.front ++ others) (same_test s.front others s.behind ts true s.parts h t) ∙ s.same others h;
          })
      | inr t ↦ (let s = second.refused ts f (sym (on_second ts t) ∙ e) in
          record {
            front = s.front;
            behind = s.behind;
            more = s.more;
            value = s.value;
            parts = s.parts;
            place = s.place;
            goes_on = by_second s.goes_on;
            same = λ others h. on_second (s.front ++ others) (same_test s.front others s.behind ts false s.parts h t) ∙ s.same others h;
          })
    ];
    weak = λ a w h. elim h [ by_first f ↦ by_first (first.weak a w f) | by_second f ↦ by_second (second.weak a w f) ];
  }
