-- A reader behind another is exact.
use Rattle.std.proofs.Common.{◌≡◌, ℕ, Bool, true, [], ◌∷◌, ◌++◌, ◌⊎◌, Option, Ok, Err, inl, inr, refl, sym, ◌∙◌, ap, subst, append_assoc}
use Rattle.ll1_grammar.specs.Lexemes.{Lexeme, Lexemes}
use Rattle.ll1_grammar.specs.Readers.{Read, Reader, and_then, ◌>>=◌}
use Rattle.ll1_grammar.specs.declared.refusal.TokenRefusal.{TokenRefusal}
use Rattle.reading_law.specs.Combined.{Chain}
use Rattle.reading_law.specs.Exact.{Form, head_of, Taken, Stopped, Exact, Opens}

-- what stands behind a front has the same first lexeme where it has
pub same_head : {T : Type 0} (front others behind : Lexemes T) → head_of others ≡ head_of behind → head_of (front ++ others) ≡ head_of (front ++ behind)
same_head [] others behind h = h
same_head (x ∷ front) others behind h = refl

module _ {T A B : Type 0} where
  pub next_ok : (r : Read T A) (k : A → Reader T B) (b : B) (us : Lexemes T) → and_then r k ≡ Ok (b, us) → (a : A) × (vs : Lexemes T) × (r ≡ Ok (a, vs)) × (k a vs ≡ Ok (b, us))
  next_ok (Ok x) k b us e = (x.0, x.1, refl, e)
  next_ok (Err f) k b us e = absurd (cc)

  -- which of the two refused
  pub record Second (r : Read T A) (k : A → Reader T B) (f : TokenRefusal) : Type 0 where
    pub value : A
    pub left : Lexemes T
    pub first : r ≡ Ok (value, left)
    pub next : k value left ≡ Err f

  pub next_err : (r : Read T A) (k : A → Reader T B) (f : TokenRefusal) → and_then r k ≡ Err f → (r ≡ Err f) ⊎ Second r k f
  next_err (Ok x) k f e = inr (record { value = x.0; left = x.1; first = refl; next = e })
  next_err (Err g) k f e = inl (let q : g ≡ f = cc in ap Err q)

  module _ (early : ℕ → Bool) (p : Reader T A) (k : A → Reader T B) (form loose : Form T A) (next next_loose : A → Form T B) (stops stops_next : Option (Lexeme T) → Bool)
      (first : Exact early p form loose stops) (second : (a : A) (w : Lexemes T) → form a w → Exact early (k a) (next a) (next_loose a) stops_next)
      (opens : (a : A) (w : Lexemes T) → loose a w → Opens (next_loose a))
      (follows : (a : A) (w us : Lexemes T) (b : B) (v : Lexemes T) → form a v → next a b w → stops_next (head_of us) ≡ true → stops (head_of (w ++ us)) ≡ true) where
    chain_whole : (b : B) (w us : Lexemes T) → Chain form next b w → stops_next (head_of us) ≡ true → (p >>= k) (w ++ us) ≡ Ok (b, us)
    chain_whole b w us c s =
        ap (λ z. and_then (p (z ++ us)) k) c.is
        ∙ ap (λ z. and_then (p z) k) (append_assoc c.front c.behind us)
        ∙ ap (λ z. and_then z k) (first.whole c.first c.front (c.behind ++ us) c.one (follows c.first c.behind us b c.front c.one c.two s))
        ∙ (second c.first c.front c.one).whole b c.behind us c.two s

    chain_sound : (ts : Lexemes T) (b : B) (us : Lexemes T) → (p >>= k) ts ≡ Ok (b, us) → Taken (Chain form next) stops_next ts b us
    chain_sound ts b us e =
        let d = next_ok (p ts) k b us e in
        let t = first.sound ts d.0 d.1 d.2 in
        let u = (second d.0 t.part t.written).sound d.1 b us d.3 in
        record {
          part = t.part ++ u.part;
          parts = t.parts ∙ ap (λ z. t.part ++ z) u.parts ∙ sym (append_assoc t.part u.part us);
          written = record { first = d.0; front = t.part; behind = u.part; is = refl; one = t.written; two = u.written };
          stands = u.stands;
        }

    chain_refused : (ts : Lexemes T) (f : TokenRefusal) → (p >>= k) ts ≡ Err f → Stopped early (p >>= k) (Chain loose next_loose) ts f
    chain_refused ts f e = elim (next_err (p ts) k f e) [
      | inl d ↦ (let s = first.refused ts f d in
          let o = opens s.value (s.front ++ s.more) s.goes_on in
          record {
            front = s.front;
            behind = s.behind;
            more = s.more ++ o.text;
            place = s.place;
            value = o.value;
            parts = s.parts;
            goes_on = record { first = s.value; front = s.front ++ s.more; behind = o.text; is = sym (append_assoc s.front s.more o.text); one = s.goes_on; two = o.is };
            same = λ others h. ap (λ z. and_then z k) (s.same others h);
          })
      | inr d ↦ (let t = first.sound ts d.value d.left d.first in
          let s = (second d.value t.part t.written).refused d.left f d.next in
          record {
            front = t.part ++ s.front;
            behind = s.behind;
            more = s.more;
            place = s.place;
            value = s.value;
            parts = t.parts ∙ ap (λ z. t.part ++ z) s.parts ∙ sym (append_assoc t.part s.front s.behind);
            goes_on = record { first = d.value; front = t.part; behind = s.front ++ s.more; is = append_assoc t.part s.front s.more; one = first.weak d.value t.part t.written; two = s.goes_on };
            same = λ others h.
                ap (λ z. and_then (p z) k) (append_assoc t.part s.front others)
                ∙ ap (λ z. and_then z k) (first.whole d.value t.part (s.front ++ others) t.written
                (subst (λ o. stops o ≡ true) (sym (same_head s.front others s.behind h ∙ ap head_of (sym s.parts))) t.stands))
                ∙ s.same others h;
          })
    ]

    pub exact_chain : ((a : A) (w : Lexemes T) → form a w → (b : B) (v : Lexemes T) → next a b v → next_loose a b v) → Exact early (p >>= k) (Chain form next) (Chain loose next_loose) stops_next
    exact_chain weaker = record {
      sound = chain_sound;
      whole = chain_whole;
      refused = chain_refused;
      weak = λ b w c. record { first = c.first; front = c.front; behind = c.behind; is = c.is; one = first.weak c.first c.front c.one; two = weaker c.first c.front c.one b c.behind c.two };
    }
