-- Readers of lexemes as do-blocks: a value and what is left, or a refusal.
use Rattle.std.specs.Prelude.{ℕ, zero, suc, List, [], ◌∷◌, ◌++◌, length, if◌then◌else◌, ◌==◌, Option, Result, Ok, Err}
use Rattle.ll1_grammar.specs.Lexemes.{Lexeme, Lexemes, first_place, rest}
use Rattle.ll1_grammar.specs.Rule.{Kinds, Grammar}
use Rattle.ll1_grammar.specs.Kinds.{among, first_token, first_lexeme}
use Rattle.ll1_grammar.specs.declared.refusal.TokenRefusal.{TokenRefusal}

abbrev pub Read : Type 0 → Type 0 → Type 0
Read T A = Result (A × Lexemes T) TokenRefusal

abbrev pub Reader : Type 0 → Type 0 → Type 0
Reader T A = Lexemes T → Read T A

abbrev pub and_then : {T A B : Type 0} → Read T A → (A → Reader T B) → Read T B
and_then (Ok x) k = k x.0 x.1
and_then (Err f) k = Err f

infixl 20 ◌>>=◌ ◌>>◌
abbrev pub ◌>>=◌ : {T A B : Type 0} → Reader T A → (A → Reader T B) → Reader T B
(p >>= k) ts = and_then (p ts) k

abbrev pub ◌>>◌ : {T A B : Type 0} → Reader T A → Reader T B → Reader T B
(p >> q) ts = and_then (p ts) (λ a. q)

abbrev pub pure : {T A : Type 0} → A → Reader T A
pure a ts = Ok (a, ts)

-- what was read is refused at its first octet where its number is not 0
abbrev pub checked_at : {T A : Type 0} → (A → ℕ) → Option ℕ → A → Reader T A
checked_at number at a ts = if number a == 0 then Ok (a, ts) else Err (record { number = number a; at = at })

abbrev pub checking : {T A : Type 0} → (A → ℕ) → Reader T A → Reader T A
checking number p ts = and_then (p ts) (checked_at number (first_place ts))

module _ {T : Type 0} (g : Grammar T) where
  -- the refusal of the token that stands first, where these kinds may stand
  abbrev pub refused : Kinds → Lexemes T → TokenRefusal
  refused wanted ts = record { number = g.refusal wanted (first_token g ts); at = first_place ts }

  abbrev pub refuse : {A : Type 0} → Kinds → Reader T A
  refuse wanted ts = Err (refused wanted ts)

  -- one token of the kind, seen by its lexeme; the kinds are all that may stand there
  unfoldable pub take_token : {A : Type 0} → Kinds → ℕ → (Lexeme T → A) → Reader T A
  take_token wanted k view ts = if g.kind (first_token g ts) == k then Ok (view (first_lexeme g ts), rest ts) else Err (refused wanted ts)

  -- one token of several kinds
  unfoldable pub take_any_token : {A : Type 0} → Kinds → Kinds → (Lexeme T → A) → Reader T A
  take_any_token wanted ks view ts = if among ks (g.kind (first_token g ts)) then Ok (view (first_lexeme g ts), rest ts) else Err (refused wanted ts)

  -- the place behind one token of the kind, where no other may stand
  abbrev pub expect : ℕ → Reader T ℕ
  expect k = take_token (k ∷ []) k (λ x. x.0.1)

  -- the first reader where a token of the kind stands, else the second
  abbrev pub on : {A : Type 0} → ℕ → Reader T A → Reader T A → Reader T A
  on k p q ts = if g.kind (first_token g ts) == k then p ts else q ts

  abbrev pub on_any : {A : Type 0} → Kinds → Reader T A → Reader T A → Reader T A
  on_any ks p q ts = if among ks (g.kind (first_token g ts)) then p ts else q ts

  -- Steps from what was read so far, as long as a token of the kinds stands there, and at most that many. What
  -- was read so far stands in an argument, so a loop's invariant is an equation of two calls.
  unfoldable pub onto : {S : Type 0} → Kinds → (S → Reader T S) → ℕ → S → Reader T S
  onto ks step zero s ts = Ok (s, ts)
  onto ks step (suc n) s ts = if among ks (g.kind (first_token g ts)) then and_then (step s ts) (onto ks step n) else Ok (s, ts)

  abbrev pub all_onto : {S : Type 0} → Kinds → (S → Reader T S) → S → Reader T S
  all_onto ks step s ts = onto ks step (length ts) s ts

  -- one thing more behind a separator
  abbrev pub one_more : {A : Type 0} → ℕ → Reader T A → List A → Reader T (List A)
  one_more k item front = expect k >>= λ end. item >>= λ a. pure (front ++ a ∷ [])

  -- the whole text: behind it stands nothing, or else what does is refused
  abbrev pub nothing_left : {A : Type 0} → Kinds → A → Lexemes T → Result A TokenRefusal
  nothing_left wanted a [] = Ok a
  nothing_left wanted a (y ∷ us) = Err (refused wanted (y ∷ us))

  abbrev pub read_to_end : {A : Type 0} → Kinds → Read T A → Result A TokenRefusal
  read_to_end wanted (Ok x) = nothing_left wanted x.0 x.1
  read_to_end wanted (Err f) = Err f
