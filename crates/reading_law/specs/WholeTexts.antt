-- Whole texts: an exact reader reads exactly those of its form, and refuses each other one at the first token with which none goes on.
use Rattle.std.proofs.Common.{◌≡◌, ℕ, Bool, true, [], ◌∷◌, ◌++◌, ◌⊎◌, Option, Some, None, Ok, Err, inl, inr, refl, sym, ◌∙◌, ap, subst}
use Rattle.std.proofs.lemmas.List.{append-nil}
use Rattle.ll1_grammar.specs.Lexemes.{Lexeme, Lexemes, first_place}
use Rattle.ll1_grammar.specs.Readers.{Read, Reader}
use Rattle.ll1_grammar.specs.declared.refusal.TokenRefusal.{TokenRefusal}
use Rattle.reading_law.specs.Combined.{to_end}
use Rattle.reading_law.specs.Exact.{Form, head_of, Exact}
use Rattle.reading_law.specs.OneToken.{ok_is, ok_no_err}

-- A text is refused at a token, or at its end: what stands before goes on to a text of the loose form, and no text of the form goes
-- on with that token.
pub record Refused {T A : Type 0} (early : ℕ → Bool) (form loose : Form T A) (ts : Lexemes T) (f : TokenRefusal) : Type 0 where
  pub front : Lexemes T
  pub behind : Lexemes T
  pub more : Lexemes T
  pub value : A
  pub parts : ts ≡ front ++ behind
  pub goes_on : loose value (front ++ more)
  pub none : (a : A) (others : Lexemes T) → head_of others ≡ head_of behind → form a (front ++ others) → ⊥
  pub place : (f.at ≡ first_place behind) ⊎ (early f.number ≡ true)

module _ {T A : Type 0} (early : ℕ → Bool) (number : T → ℕ) (p : Reader T A) (form loose : Form T A) (stops : Option (Lexeme T) → Bool)
    (exact : Exact early p form loose stops) (may_end : stops None ≡ true) where
  whole_ok : (r : Read T A) (a : A) → to_end number r ≡ Ok a → r ≡ Ok (a, [])
  whole_ok (Ok (b, [])) a e = let same : b ≡ a = cc in ap {B = Read T A} (λ (z : A). Ok (z, [])) same
  whole_ok (Ok (b, x ∷ us)) a e = absurd (cc)
  whole_ok (Err f) a e = absurd (cc)

  -- what stands behind a text that was read
  record More (r : Read T A) (f : TokenRefusal) : Type 0 where
    value : A
    first : Lexeme T
    left : Lexemes T
    is : r ≡ Ok (value, first ∷ left)
    place : f.at ≡ Some first.0.0

  whole_err : (r : Read T A) (f : TokenRefusal) → to_end number r ≡ Err f → (r ≡ Err f) ⊎ More r f
  whole_err (Ok (b, [])) f e = absurd (cc)
  whole_err (Ok (b, x ∷ us)) f e = inr (record { value = b; first = x; left = us; is = refl; place = (let same : f ≡ record { number = number x.1; at = Some x.0.0 } = cc in ap (λ (g : TokenRefusal). g.at) same) })
  whole_err (Err g) f e = inl (let same : g ≡ f = cc in ap Err same)

  pub found : (ts : Lexemes T) (a : A) → to_end number (p ts) ≡ Ok a → form a ts
  found ts a e =
      let t = exact.sound ts a [] (whole_ok (p ts) a e) in
      subst (form a) (sym (t.parts ∙ append-nil t.part)) t.written

  read_whole : (ts : Lexemes T) (a : A) → form a ts → p ts ≡ Ok (a, [])
  read_whole ts a h = ap p (sym (append-nil ts)) ∙ exact.whole a ts [] h may_end

  pub only : (ts : Lexemes T) (a : A) → form a ts → to_end number (p ts) ≡ Ok a
  only ts a h = ap (to_end number) (read_whole ts a h)

  no_head : (x : Lexeme T) (us : Lexemes T) → us ≡ [] → head_of us ≡ Some x → ⊥
  no_head x [] e h = cc
  no_head x (y ∷ us) e h = cc

  pub refused : (ts : Lexemes T) (f : TokenRefusal) → to_end number (p ts) ≡ Err f → Refused early form loose ts f
  refused ts f e = elim (whole_err (p ts) f e) [
    | inl d ↦ (let s = exact.refused ts f d in
        record {
          front = s.front;
          behind = s.behind;
          more = s.more;
          value = s.value;
          parts = s.parts;
          goes_on = s.goes_on;
          place = s.place;
          none = λ a others h w. ok_no_err {T = T} a [] f (sym (read_whole (s.front ++ others) a w) ∙ s.same others h);
        })
    | inr m ↦ (let t = exact.sound ts m.value (m.first ∷ m.left) m.is in
        record {
          front = t.part;
          behind = m.first ∷ m.left;
          more = [];
          value = m.value;
          parts = t.parts;
          place = inl m.place;
          goes_on = subst (loose m.value) (sym (append-nil t.part)) (exact.weak m.value t.part t.written);
          none = λ a others h w.
              (let stands : stops (head_of others) ≡ true = subst (λ o. stops o ≡ true) (sym h) t.stands in
              let both = ok_is {T = T} m.value a others [] (sym (exact.whole m.value t.part others t.written stands) ∙ read_whole (t.part ++ others) a w) in
              no_head m.first others both.1 h);
        })
  ]
