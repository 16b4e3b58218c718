-- Items are read exactly, each by its number, as long as one begins.
use Rattle.std.proofs.Common.{◌≡◌, ◌<◌, ◌≤◌, ◌+◌, ℕ, zero, suc, Bool, true, false, not, List, [], ◌∷◌, ◌++◌, ◌⊎◌, length, Option, Ok, Err, inl, inr, refl, sym, ◌∙◌, ap, subst, arith, append_assoc, length-append}
use Rattle.std.proofs.lemmas.List.{append-nil, length_push}
use Rattle.ll1_grammar.specs.Lexemes.{Lexeme, Lexemes, first_place}
use Rattle.ll1_grammar.specs.Readers.{Reader, and_then}
use Rattle.ll1_grammar.specs.declared.refusal.TokenRefusal.{TokenRefusal}
use Rattle.reading_law.specs.Chained.{same_head, next_ok, next_err}
use Rattle.reading_law.specs.Combined.{many}
use Rattle.reading_law.specs.Exact.{Form, head_of, token_of, anything, Exact}
use Rattle.reading_law.specs.Judged.{answers}
use Rattle.reading_law.specs.OneToken.{ok_is, ok_no_err}

-- one text behind another
pub record Parts {T : Type 0} (first others : Lexemes T → Type 0) (w : Lexemes T) : Type 0 where
  pub front : Lexemes T
  pub behind : Lexemes T
  pub is : w ≡ front ++ behind
  pub one : first front
  pub two : others behind

-- items one behind another, each by its number
abbrev pub Items : {T A : Type 0} → (ℕ → Form T A) → ℕ → List A → Lexemes T → Type 0
Items form n [] w = w ≡ []
Items form n (a ∷ xs) w = Parts (form n a) (Items form (suc n) xs) w

-- no item begins there
abbrev pub none_begins : {T : Type 0} → T → (T → Bool) → Option (Lexeme T) → Bool
none_begins end begins head = not (begins (token_of end head))

-- all items of a text
abbrev pub all_items : {T A : Type 0} → T → (T → Bool) → (ℕ → Reader T A) → Reader T (List A)
all_items end begins step ts = many end begins step (length ts) [] ts

is_false : (b : Bool) → not b ≡ true → b ≡ false
is_false true e = absurd (cc)
is_false false e = refl

bare : {T : Type 0} (us : Lexemes T) → length us ≤ 0 → us ≡ []
bare [] h = refl
bare (x ∷ us) h = absurd (omega arith)

module _ {T A : Type 0} (early : ℕ → Bool) (end : T) (begins : T → Bool) (step : ℕ → Reader T A) (form loose : ℕ → Form T A)
    (one : (n : ℕ) → Exact early (step n) (form n) (loose n) anything) (some : (n : ℕ) (a : A) (w : Lexemes T) → form n a w → 0 < length w)
    (leads : (n : ℕ) (a : A) (w us : Lexemes T) → form n a w → begins (token_of end (head_of (w ++ us))) ≡ true) (ends : begins end ≡ false) where
  turn : (count : ℕ) (xs : List A) (ts : Lexemes T) → begins (token_of end (head_of ts)) ≡ true
      → many end begins step (suc count) xs ts ≡ and_then (step (length xs) ts) (λ a. many end begins step count (xs ++ a ∷ []))
  unfolding many
  turn count xs ts b = rw b refl

  stop : (count : ℕ) (xs : List A) (ts : Lexemes T) → begins (token_of end (head_of ts)) ≡ false → many end begins step (suc count) xs ts ≡ Ok (xs, ts)
  unfolding many
  stop count xs ts b = rw b refl

  at_zero : (xs : List A) (ts : Lexemes T) → many end begins step zero xs ts ≡ Ok (xs, ts)
  unfolding many
  at_zero xs ts = refl

  -- the number of the next item
  pushed : (xs : List A) (a : A) → suc (length xs) ≡ length (xs ++ a ∷ [])
  pushed xs a = omega (arith, length_push xs a)

  -- what is left is shorter
  shorter : (count : ℕ) (w front behind : Lexemes T) → w ≡ front ++ behind → 0 < length front → length w ≤ suc count → length behind ≤ count
  shorter count w front behind is h k = let size : length w ≡ length front + length behind = ap length is ∙ length-append front behind in omega arith

  items_whole : (count : ℕ) (xs zs : List A) (w us : Lexemes T) → Items form (length xs) zs w → none_begins end begins (head_of us) ≡ true → length (w ++ us) ≤ count
      → many end begins step count xs (w ++ us) ≡ Ok (xs ++ zs, us)
  items_whole zero xs [] w us h s fits = rw (h) (at_zero xs us ∙ ap (λ (z : List A). Ok (z, us)) (sym (append-nil xs)))
  items_whole zero xs (a ∷ zs) w us h s fits =
      absurd (let size : length (w ++ us) ≡ length h.front + length h.behind + length us = ap (λ z. length (z ++ us)) h.is ∙ (length-append (h.front ++ h.behind) us ∙ ap (λ n. n + length us) (length-append h.front h.behind)) in
      let first = some (length xs) a h.front h.one in omega arith)
  items_whole (suc count) xs [] w us h s fits = rw (h) (stop count xs us (is_false (begins (token_of end (head_of us))) s) ∙ ap (λ (z : List A). Ok (z, us)) (sym (append-nil xs)))
  items_whole (suc count) xs (a ∷ zs) w us h s fits =
      let whole : w ++ us ≡ h.front ++ (h.behind ++ us) = ap (λ z. z ++ us) h.is ∙ append_assoc h.front h.behind us in
      let left : length (h.behind ++ us) ≤ count = shorter count (w ++ us) h.front (h.behind ++ us) whole (some (length xs) a h.front h.one) fits in
      ap (many end begins step (suc count) xs) whole
      ∙ (turn count xs (h.front ++ (h.behind ++ us)) (leads (length xs) a h.front (h.behind ++ us) h.one)
      ∙ (ap (λ z. and_then z (λ b. many end begins step count (xs ++ b ∷ []))) ((one (length xs)).whole a h.front (h.behind ++ us) h.one refl)
      ∙ (items_whole count (xs ++ a ∷ []) zs h.behind us (subst (λ n. Items form n zs h.behind) (pushed xs a) h.two) s left
      ∙ ap (λ (z : List A). Ok (z, us)) (append_assoc xs (a ∷ []) zs))))

  -- what was read so far, and the items behind it
  record Read_items (xs : List A) (ts : Lexemes T) (ys : List A) (us : Lexemes T) : Type 0 where
    items : List A
    part : Lexemes T
    all : ys ≡ xs ++ items
    parts : ts ≡ part ++ us
    written : Items form (length xs) items part
    stands : none_begins end begins (head_of us) ≡ true

  items_sound : (count : ℕ) (xs : List A) (ts : Lexemes T) (ys : List A) (us : Lexemes T) → length ts ≤ count → many end begins step count xs ts ≡ Ok (ys, us) → Read_items xs ts ys us
  items_sound zero xs ts ys us h e =
      let p = ok_is {T = T} xs ys ts us (sym (at_zero xs ts) ∙ e) in
      let none : us ≡ [] = sym p.1 ∙ bare ts h in
      record { items = []; part = []; all = sym p.0 ∙ sym (append-nil xs); parts = p.1; written = refl; stands = rw (none, ends) refl }
  items_sound (suc count) xs ts ys us h e = elim (answers (begins (token_of end (head_of ts)))) [
    | inr b ↦ (let p = ok_is {T = T} xs ys ts us (sym (stop count xs ts b) ∙ e) in
        record { items = []; part = []; all = sym p.0 ∙ sym (append-nil xs); parts = p.1; written = refl; stands = subst (λ z. none_begins end begins (head_of z) ≡ true) p.1 (rw b refl) })
    | inl b ↦ (let d = next_ok (step (length xs) ts) (λ a. many end begins step count (xs ++ a ∷ [])) ys us (sym (turn count xs ts b) ∙ e) in
        let t = (one (length xs)).sound ts d.0 d.1 d.2 in
        let r = items_sound count (xs ++ d.0 ∷ []) d.1 ys us (shorter count ts t.part d.1 t.parts (some (length xs) d.0 t.part t.written) h) d.3 in
        record {
          items = d.0 ∷ r.items;
          part = t.part ++ r.part;
          all = r.all ∙ append_assoc xs (d.0 ∷ []) r.items;
          parts = t.parts ∙ (ap (λ z. t.part ++ z) r.parts ∙ sym (append_assoc t.part r.part us));
          written = record { front = t.part; behind = r.part; is = refl; one = t.written; two = subst (λ n. Items form n r.items r.part) (sym (pushed xs d.0)) r.written };
          stands = r.stands;
        })
  ]

  -- where it stops, whatever count is enough
  record Stopped_items (xs : List A) (ts : Lexemes T) (f : TokenRefusal) : Type 0 where
    front : Lexemes T
    behind : Lexemes T
    more : Lexemes T
    items : List A
    parts : ts ≡ front ++ behind
    goes_on : Items loose (length xs) items (front ++ more)
    same : (count : ℕ) (others : Lexemes T) → head_of others ≡ head_of behind → length (front ++ others) ≤ count → many end begins step count xs (front ++ others) ≡ Err f
    place : (f.at ≡ first_place behind) ⊎ (early f.number ≡ true)

  -- a count is enough for a text that begins
  turns : (count : ℕ) (xs : List A) (ts : Lexemes T) → length ts ≤ count → begins (token_of end (head_of ts)) ≡ true → (less : ℕ) × (count ≡ suc less)
  turns zero xs ts h b = absurd (let none : begins (token_of end (head_of ts)) ≡ false = rw (bare ts h) ends in no_both (begins (token_of end (head_of ts))) b none)
    where
      no_both : (c : Bool) → c ≡ true → c ≡ false → ⊥
      no_both true e f = cc
      no_both false e f = cc
  turns (suc count) xs ts h b = (count, refl)

  items_refused : (count : ℕ) (xs : List A) (ts : Lexemes T) (f : TokenRefusal) → length ts ≤ count → many end begins step count xs ts ≡ Err f → Stopped_items xs ts f
  items_refused zero xs ts f h e = absurd (ok_no_err {T = T} xs ts f (sym (at_zero xs ts) ∙ e))
  items_refused (suc count) xs ts f h e = elim (answers (begins (token_of end (head_of ts)))) [
    | inr b ↦ absurd (ok_no_err {T = T} xs ts f (sym (stop count xs ts b) ∙ e))
    | inl b ↦ elim (next_err (step (length xs) ts) (λ a. many end begins step count (xs ++ a ∷ [])) f (sym (turn count xs ts b) ∙ e)) [
      | inl d ↦ (let s = (one (length xs)).refused ts f d in
          record {
            front = s.front;
            behind = s.behind;
            more = s.more;
            items = s.value ∷ [];
            parts = s.parts;
            place = s.place;
            goes_on = record { front = s.front ++ s.more; behind = []; is = sym (append-nil (s.front ++ s.more)); one = s.goes_on; two = refl };
            same = λ n others g k.
                (let begun : begins (token_of end (head_of (s.front ++ others))) ≡ true = ap (λ o. begins (token_of end o)) (same_head s.front others s.behind g ∙ ap head_of (sym s.parts)) ∙ b in
                let t = turns n xs (s.front ++ others) k begun in
                ap (λ m. many end begins step m xs (s.front ++ others)) t.1 ∙ (turn t.0 xs (s.front ++ others) begun ∙ ap (λ z. and_then z (λ a. many end begins step t.0 (xs ++ a ∷ []))) (s.same others g)));
          })
      | inr d ↦ (let t = (one (length xs)).sound ts d.value d.left d.first in
          let first = some (length xs) d.value t.part t.written in
          let s = items_refused count (xs ++ d.value ∷ []) d.left f (shorter count ts t.part d.left t.parts first h) d.next in
          record {
            front = t.part ++ s.front;
            behind = s.behind;
            more = s.more;
            items = d.value ∷ s.items;
            place = s.place;
            parts = t.parts ∙ (ap (λ z. t.part ++ z) s.parts ∙ sym (append_assoc t.part s.front s.behind));
            goes_on = record {
              front = t.part;
              behind = s.front ++ s.more;
              is = append_assoc t.part s.front s.more;
              one = (one (length xs)).weak d.value t.part t.written;
              two = subst (λ n. Items loose n s.items (s.front ++ s.more)) (sym (pushed xs d.value)) s.goes_on;
            };
            same = λ n others g k.
                (let whole : (t.part ++ s.front) ++ others ≡ t.part ++ (s.front ++ others) = append_assoc t.part s.front others in
                let begun : begins (token_of end (head_of (t.part ++ (s.front ++ others)))) ≡ true = leads (length xs) d.value t.part (s.front ++ others) t.written in
                let r = turns n xs (t.part ++ (s.front ++ others)) (subst (λ z. length z ≤ n) whole k) begun in
                let left : length (s.front ++ others) ≤ r.0 = shorter r.0 (t.part ++ (s.front ++ others)) t.part (s.front ++ others) refl first (subst (λ m. length (t.part ++ (s.front ++ others)) ≤ m) r.1 (subst (λ z. length z ≤ n) whole k)) in
                ap (many end begins step n xs) whole
                ∙ (ap (λ m. many end begins step m xs (t.part ++ (s.front ++ others))) r.1
                ∙ (turn r.0 xs (t.part ++ (s.front ++ others)) begun
                ∙ (ap (λ z. and_then z (λ a. many end begins step r.0 (xs ++ a ∷ []))) ((one (length xs)).whole d.value t.part (s.front ++ others) t.written refl)
                ∙ s.same r.0 others g left))));
          })
    ]
  ]

  items_weak : (n : ℕ) (zs : List A) (w : Lexemes T) → Items form n zs w → Items loose n zs w
  items_weak n [] w h = h
  items_weak n (a ∷ zs) w h = record { front = h.front; behind = h.behind; is = h.is; one = (one n).weak a h.front h.one; two = items_weak (suc n) zs h.behind h.two }

  pub exact_items : Exact early (all_items end begins step) (Items form 0) (Items loose 0) (none_begins end begins)
  exact_items = record {
    sound = λ ts ys us e. (let r = items_sound (length ts) [] ts ys us (omega arith) e in record { part = r.part; parts = r.parts; written = subst (λ z. Items form 0 z r.part) (sym r.all) r.written; stands = r.stands });
    whole = λ zs w us h s. items_whole (length (w ++ us)) [] zs w us h s (omega arith);
    refused = λ ts f e. (let s = items_refused (length ts) [] ts f (omega arith) e in
        record { front = s.front; behind = s.behind; more = s.more; value = s.items; parts = s.parts; goes_on = s.goes_on; place = s.place; same = λ others g. s.same (length (s.front ++ others)) others g (omega arith) });
    weak = λ zs w h. items_weak 0 zs w h;
  }
