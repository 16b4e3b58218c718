-- Readers of one token, or of none, are exact.
use Rattle.std.proofs.Common.{◌≡◌, ℕ, Bool, true, List, [], ◌∷◌, ◌++◌, ◌⊎◌, Option, Some, None, Ok, Err, inl, inr, refl, sym, ◌∙◌, ap}
use Rattle.ll1_grammar.specs.Lexemes.{Lexemes, first_place, rest}
use Rattle.ll1_grammar.specs.Readers.{Read, pure}
use Rattle.ll1_grammar.specs.declared.refusal.TokenRefusal.{TokenRefusal}
use Rattle.reading_law.specs.Combined.{seen, token, Views, toks, Writes, Known}
use Rattle.reading_law.specs.Exact.{Form, head_of, token_of, anything, Taken, Stopped, Exact}

-- one answer of two
ok_both : {T A : Type 0} (x y : A × Lexemes T) → let r : Read T A = Ok x in let s : Read T A = Ok y in r ≡ s → x ≡ y
ok_both x y e = cc

pub ok_is : {T A : Type 0} (a b : A) (us vs : Lexemes T) → let r : Read T A = Ok (a, us) in let s : Read T A = Ok (b, vs) in r ≡ s → (a ≡ b) × (us ≡ vs)
ok_is {T} {A} a b us vs e = let p = ok_both (a, us) (b, vs) e in (ap (λ (z : A × Lexemes T). z.0) p, ap (λ (z : A × Lexemes T). z.1) p)

pub ok_no_err : {T A : Type 0} (a : A) (us : Lexemes T) (f : TokenRefusal) → let r : Read T A = Ok (a, us) in let s : Read T A = Err f in r ≡ s → ⊥
ok_no_err a us f e = cc

pub err_no_ok : {T A : Type 0} (a : A) (us : Lexemes T) (f : TokenRefusal) → let r : Read T A = Err f in let s : Read T A = Ok (a, us) in r ≡ s → ⊥
err_no_ok a us f e = cc

-- nothing is written with no token but the empty text
pub bare_is : {T : Type 0} (w : Lexemes T) → toks w ≡ [] → w ≡ []
bare_is [] e = refl
bare_is (x ∷ w) e = absurd (cc)

-- the place of the first token is that of the first lexeme
pub place_by_head : {T : Type 0} (us vs : Lexemes T) → head_of us ≡ head_of vs → first_place us ≡ first_place vs
place_by_head [] [] h = refl
place_by_head [] (y ∷ vs) h = absurd (cc)
place_by_head (x ∷ us) [] h = absurd (cc)
place_by_head (x ∷ us) (y ∷ vs) h = let same : x ≡ y = cc in ap (λ z. Some z.0.0) same

-- a view sees a token or does not
pub some_or_none : {A : Type 0} (o : Option A) → ((a : A) × (o ≡ Some a)) ⊎ (o ≡ None)
some_or_none (Some a) = inl (a, refl)
some_or_none None = inr refl

-- a reader of no token
module _ {T A : Type 0} (early : ℕ → Bool) (a : A) where
  pub exact_pure : Exact {T = T} early (pure a) (Known a) (Known a) anything
  exact_pure = record {
    sound = λ ts b us e. let p = ok_is {T = T} a b ts us e in record { part = []; parts = p.1; written = record { is = sym p.0; none = refl }; stands = refl };
    whole = λ b w us k s. rw (k.is, k.none) refl;
    refused = λ ts f e. absurd (ok_no_err {T = T} a ts f e);
    weak = λ b w k. k;
  }

-- a reader of one token that has a view
module _ {T A : Type 0} (early : ℕ → Bool) (end : T) (number : T → ℕ) (view : T → Option A) (good fair : A → Type 0) (print : A → T)
    (views : Views view good print) (ends : view end ≡ None) (weaker : (a : A) → good a → fair a) (sample : A) (is_fair : fair sample) where
  One : (A → Type 0) → Form T A
  One kept = Writes kept (λ a. print a ∷ [])

  seen_ok : (o : Option A) (n : ℕ) (ts : Lexemes T) (a : A) (us : Lexemes T) → seen o n ts ≡ Ok (a, us) → (o ≡ Some a) × (us ≡ rest ts)
  seen_ok (Some b) n ts a us e = let p = ok_is {T = T} b a (rest ts) us e in (ap Some p.0, sym p.1)
  seen_ok None n ts a us e = absurd (err_no_ok {T = T} a us (record { number = n; at = first_place ts }) e)

  seen_err : (o : Option A) (n : ℕ) (ts : Lexemes T) (f : TokenRefusal) → seen o n ts ≡ Err f → (o ≡ None) × (f ≡ record { number = n; at = first_place ts })
  seen_err (Some b) n ts f e = absurd (ok_no_err {T = T} b (rest ts) f e)
  seen_err None n ts f e = (refl, cc)

  token_sound : (ts : Lexemes T) (a : A) (us : Lexemes T) → token end number view ts ≡ Ok (a, us) → Taken (One good) anything ts a us
  unfolding One
  token_sound [] a us e =
      let p = seen_ok (view end) (number end) [] a us e in
      absurd (none_or_some (view end) a ends p.0)
    where
      none_or_some : (o : Option A) (a : A) → o ≡ None → o ≡ Some a → ⊥
      none_or_some None a e f = cc
      none_or_some (Some b) a e f = cc
  token_sound (x ∷ ts) a us e =
      let p = seen_ok (view x.1) (number x.1) (x ∷ ts) a us e in
      let t = views.there x.1 a p.0 in
      record { part = x ∷ []; parts = ap (λ z. x ∷ z) (sym p.1); written = record { keeps = t.1; tokens = ap (λ z. z ∷ []) t.0 }; stands = refl }

  token_whole : (a : A) (w us : Lexemes T) → One good a w → anything (head_of us) ≡ true → token end number view (w ++ us) ≡ Ok (a, us)
  unfolding One
  token_whole a [] us h s = absurd (let e : ◌≡◌ {A = List T} [] (print a ∷ []) = h.tokens in cc)
  token_whole a (x ∷ w) us h s =
      let is : x.1 ≡ print a = (let e : x.1 ∷ toks w ≡ print a ∷ [] = h.tokens in cc) in
      let none : toks w ≡ [] = (let e : x.1 ∷ toks w ≡ print a ∷ [] = h.tokens in cc) in
      let seen_so : view x.1 ≡ Some a = ap view is ∙ views.back a h.keeps in
      rw (seen_so, bare_is w none) refl

  token_refused : (ts : Lexemes T) (f : TokenRefusal) → token end number view ts ≡ Err f → Stopped early (token end number view) (One fair) ts f
  unfolding One
  token_refused ts f e =
      let p = seen_err (view (token_of end (head_of ts))) (number (token_of end (head_of ts))) ts f e in
      record {
        front = [];
        behind = ts;
        more = ((0, 0), print sample) ∷ [];
        value = sample;
        parts = refl;
        goes_on = record { keeps = is_fair; tokens = refl };
        same = λ others h. rw (h, p.0, place_by_head others ts h) (ap Err (sym p.1));
        place = inl (ap (λ (g : TokenRefusal). g.at) p.1);
      }

  pub exact_token : Exact early (token end number view) (Writes good (λ a. print a ∷ [])) (Writes fair (λ a. print a ∷ [])) anything
  unfolding One
  exact_token = record { sound = token_sound; whole = token_whole; refused = token_refused; weak = λ a w h. record { keeps = weaker a h.keeps; tokens = h.tokens } }
