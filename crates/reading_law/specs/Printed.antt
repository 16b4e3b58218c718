-- Readers of texts that are printed: a form says what is good of a value and which tokens are printed of it.
use Rattle.std.proofs.Common.{◌≡◌, ℕ, Bool, List, [], ◌∷◌, ◌++◌, Option, None, refl, sym, ◌∙◌, ap, subst}
use Rattle.std.proofs.lemmas.List.{append-nil}
use Rattle.ll1_grammar.specs.Lexemes.{Lexeme, Lexemes}
use Rattle.ll1_grammar.specs.Readers.{Reader, ◌>>=◌, pure}
use Rattle.reading_law.specs.Chained.{exact_chain}
use Rattle.reading_law.specs.Combined.{token, Views, toks, Writes, Known}
use Rattle.reading_law.specs.Exact.{anything, Exact, Opens}
use Rattle.reading_law.specs.Judged.{exact_as}
use Rattle.reading_law.specs.OneToken.{exact_pure, exact_token}

-- the tokens of one text behind another
pub toks_append : {T : Type 0} (v w : Lexemes T) → toks (v ++ w) ≡ toks v ++ toks w
toks_append [] w = refl
toks_append (x ∷ v) w = ap (λ z. x.1 ∷ z) (toks_append v w)

-- lexemes whose tokens are those of two lists are parted between them
pub record Parted {T : Type 0} (w : Lexemes T) (xs ys : List T) : Type 0 where
  pub front : Lexemes T
  pub behind : Lexemes T
  pub is : w ≡ front ++ behind
  pub one : toks front ≡ xs
  pub two : toks behind ≡ ys

pub parted : {T : Type 0} (w : Lexemes T) (xs ys : List T) → toks w ≡ xs ++ ys → Parted w xs ys
parted w [] ys h = record { front = []; behind = w; is = refl; one = refl; two = h }
parted [] (x ∷ xs) ys h = absurd (cc)
parted {T} (y ∷ w) (x ∷ xs) ys h =
    let e : ◌≡◌ {A = List T} (y.1 ∷ toks w) (x ∷ (xs ++ ys)) = h in
    let same : y.1 ≡ x = cc in
    let left : toks w ≡ xs ++ ys = cc in
    let p = parted w xs ys left in
    record { front = y ∷ p.front; behind = p.behind; is = ap (λ z. y ∷ z) p.is; one = rw (same, p.one) refl; two = p.two }

-- how a value is of two parts, of which the second may depend on the first
pub record Splits {T A B : Type 0} (good : A → Type 0) (print : A → List T) (next : A → B → Type 0) (print_next : A → B → List T) (all : List T) (b : B) : Type 0 where
  pub first : A
  pub one : good first
  pub two : next first b
  pub is : all ≡ print first ++ print_next first b

-- a text that is printed can be written
pub opens_writes : {T B : Type 0} (good : B → Type 0) (print : B → List T) (b : B) → good b → Opens (Writes good print)
opens_writes {T} good print b h = record { value = b; text = placed (print b); is = record { keeps = h; tokens = printed (print b) } }
  where
    placed : List T → Lexemes T
    placed [] = []
    placed (t ∷ ts) = ((0, 0), t) ∷ placed ts

    printed : (ts : List T) → toks (placed ts) ≡ ts
    printed [] = refl
    printed (t ∷ ts) = ap (λ z. t ∷ z) (printed ts)

-- a printed text behind a printed text
module _ {T A B : Type 0} (early : ℕ → Bool) (p : Reader T A) (k : A → Reader T B) (good fair : A → Type 0) (print : A → List T) (next next_fair : A → B → Type 0) (print_next : A → B → List T)
    (stops : Option (Lexeme T) → Bool) (whole whole_fair : B → Type 0) (print_whole : B → List T)
    (first : Exact early p (Writes good print) (Writes fair print) anything)
    (second : (a : A) → good a → Exact early (k a) (Writes (next a) (print_next a)) (Writes (next_fair a) (print_next a)) stops)
    (opens : (a : A) → fair a → Opens (Writes (next_fair a) (print_next a)))
    (to : (a : A) (b : B) → good a → next a b → whole b)
    (to_fair : (a : A) (b : B) → fair a → next_fair a b → whole_fair b × (print_whole b ≡ print a ++ print_next a b))
    (weaker : (a : A) → good a → fair a) (weaker_next : (a : A) (b : B) → next a b → next_fair a b)
    (splits : (b : B) → whole b → Splits good print next print_next (print_whole b) b) where
  pub exact_then : Exact early (p >>= k) (Writes whole print_whole) (Writes whole_fair print_whole) stops
  exact_then =
      exact_as (Writes whole print_whole) (Writes whole_fair print_whole)
      (exact_chain early p k (Writes good print) (Writes fair print) (λ a. Writes (next a) (print_next a)) (λ a. Writes (next_fair a) (print_next a)) anything stops
      first (λ a w h. second a h.keeps) (λ a w h. opens a h.keeps) (λ a w us b v f g s. refl)
      (λ a w h b v n. record { keeps = weaker_next a b n.keeps; tokens = n.tokens }))
      (λ b w c. record {
        keeps = to c.first b c.one.keeps c.two.keeps;
        tokens = ap toks c.is ∙ (toks_append c.front c.behind ∙ (ap (λ z. z ++ toks c.behind) c.one.tokens ∙ (ap (λ z. print c.first ++ z) c.two.tokens
            ∙ sym (to_fair c.first b (weaker c.first c.one.keeps) (weaker_next c.first b c.two.keeps)).1)));
      })
      (λ b w h.
      (let s = splits b h.keeps in
      let q = parted w (print s.first) (print_next s.first b) (h.tokens ∙ s.is) in
      record { first = s.first; front = q.front; behind = q.behind; is = q.is; one = record { keeps = s.one; tokens = q.one }; two = record { keeps = s.two; tokens = q.two } }))
      (λ b w c.
      (let f = to_fair c.first b c.one.keeps c.two.keeps in
      record { keeps = f.0; tokens = ap toks c.is ∙ (toks_append c.front c.behind ∙ (ap (λ z. z ++ toks c.behind) c.one.tokens ∙ (ap (λ z. print c.first ++ z) c.two.tokens ∙ sym f.1))) }))

-- a token that is due, and a printed text behind it
module _ {T B : Type 0} (early : ℕ → Bool) (end : T) (number : T → ℕ) (view : T → Option (Unit {0})) (t : T) (q : Reader T B) (whole fair : B → Type 0) (print : B → List T)
    (stops : Option (Lexeme T) → Bool) (due : Views view (λ u. Unit {0}) (λ u. t)) (ends : view end ≡ None)
    (behind : Exact early q (Writes whole print) (Writes fair print) stops) (weaker : (b : B) → whole b → fair b) (sample : B) (is_fair : fair sample) where
  pub exact_due : Exact early (token end number view >>= λ u. q) (Writes whole (λ b. t ∷ print b)) (Writes fair (λ b. t ∷ print b)) stops
  exact_due = exact_then early (token end number view) (λ u. q) (λ u. Unit {0}) (λ u. Unit {0}) (λ u. t ∷ []) (λ u. whole) (λ u. fair) (λ u. print) stops whole fair (λ b. t ∷ print b)
      (exact_token early end number view (λ u. Unit {0}) (λ u. Unit {0}) (λ u. t) due ends (λ a g. g) tt tt)
      (λ u g. behind)
      (λ u g. opens_writes fair print sample is_fair)
      (λ u b g h. h)
      (λ u b g h. (h, refl))
      (λ u g. g)
      (λ u b h. weaker b h)
      (λ b h. record { first = tt; one = tt; two = h; is = refl })

-- a value that is made of what was read
module _ {T A B : Type 0} (early : ℕ → Bool) (p : Reader T A) (f : A → B) (good fair : A → Type 0) (print : A → List T) (whole whole_fair : B → Type 0) (print_whole : B → List T)
    (stops : Option (Lexeme T) → Bool) (first : Exact early p (Writes good print) (Writes fair print) anything)
    (to : (a : A) → good a → whole (f a)) (to_fair : (a : A) → fair a → whole_fair (f a)) (printed : (a : A) → print_whole (f a) ≡ print a)
    (back : (b : B) → whole b → (a : A) × good a × (b ≡ f a)) where
  pub exact_made : Exact early (p >>= λ a. pure (f a)) (Writes whole print_whole) (Writes whole_fair print_whole) anything
  exact_made =
      exact_as (Writes whole print_whole) (Writes whole_fair print_whole)
      (exact_chain early p (λ a. pure (f a)) (Writes good print) (Writes fair print) (λ a. Known (f a)) (λ a. Known (f a)) anything anything
      first (λ a w h. exact_pure early (f a)) (λ a w h. record { value = f a; text = []; is = record { is = refl; none = refl } }) (λ a w us b v g h s. refl) (λ a w h b v n. n))
      (λ b w c. record { keeps = subst whole (sym c.two.is) (to c.first c.one.keeps); tokens = written b w c.first c.front c.behind c.is c.two.is c.two.none c.one.tokens })
      (λ b w h.
      (let s = back b h.keeps in
      record { first = s.0; front = w; behind = []; is = sym (append-nil w); one = record { keeps = s.1; tokens = h.tokens ∙ (ap print_whole s.2 ∙ printed s.0) }; two = record { is = s.2; none = refl } }))
      (λ b w c. record { keeps = subst whole_fair (sym c.two.is) (to_fair c.first c.one.keeps); tokens = written b w c.first c.front c.behind c.is c.two.is c.two.none c.one.tokens })
    where
      written : (b : B) (w : Lexemes T) (a : A) (front behind : Lexemes T) → w ≡ front ++ behind → b ≡ f a → behind ≡ [] → toks front ≡ print a → toks w ≡ print_whole b
      written b w a front behind is made none is_printed =
          ap toks (is ∙ (ap (λ z. front ++ z) none ∙ append-nil front)) ∙ (is_printed ∙ (sym (printed a) ∙ ap print_whole (sym made)))
