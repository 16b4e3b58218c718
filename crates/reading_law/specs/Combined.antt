-- Readers made of readers, and the forms of their texts.
use Rattle.std.specs.Prelude.{length, zero, ◌≡◌, ℕ, suc, Bool, true, List, [], ◌∷◌, ◌++◌, if◌then◌else◌, Option, Some, None, Result, Ok, Err}
use Rattle.ll1_grammar.specs.Lexemes.{Lexemes, first_place, rest}
use Rattle.ll1_grammar.specs.Readers.{and_then, Read, Reader, ◌>>=◌, pure}
use Rattle.ll1_grammar.specs.declared.refusal.TokenRefusal.{TokenRefusal}
use Rattle.reading_law.specs.Exact.{Form, head_of, token_of}

-- One token that has a view; else the number that the token has, or the end.
abbrev pub seen : {T A : Type 0} → Option A → ℕ → Reader T A
seen (Some a) number ts = Ok (a, rest ts)
seen None number ts = Err (record { number = number; at = first_place ts })

abbrev pub token : {T A : Type 0} → T → (T → ℕ) → (T → Option A) → Reader T A
token end number view ts = seen (view (token_of end (head_of ts))) (number (token_of end (head_of ts))) ts

-- which values a view has, and the token of each
pub record Views {T A : Type 0} (view : T → Option A) (good : A → Type 0) (print : A → T) : Type 0 where
  pub there : (t : T) (a : A) → view t ≡ Some a → (t ≡ print a) × good a
  pub back : (a : A) → good a → view (print a) ≡ Some a

-- a value is written with the tokens that are printed of it
abbrev pub toks : {T : Type 0} → Lexemes T → List T
toks [] = []
toks (x ∷ xs) = x.1 ∷ toks xs

pub record Writes {T A : Type 0} (good : A → Type 0) (print : A → List T) (a : A) (w : Lexemes T) : Type 0 where
  pub keeps : good a
  pub tokens : toks w ≡ print a

-- One reader behind another, which may depend on what the first one read.
pub record Chain {T A B : Type 0} (form : Form T A) (next : A → Form T B) (b : B) (w : Lexemes T) : Type 0 where
  pub first : A
  pub front : Lexemes T
  pub behind : Lexemes T
  pub is : w ≡ front ++ behind
  pub one : form first front
  pub two : next first b behind

-- a value that is known takes no token
pub record Known {T A : Type 0} (a b : A) (w : Lexemes T) : Type 0 where
  pub is : b ≡ a
  pub none : w ≡ []

-- what is written passes the test
pub record Passing {T A : Type 0} (form : Form T A) (test : A → Bool) (a : A) (w : Lexemes T) : Type 0 where
  pub written : form a w
  pub passes : test a ≡ true

-- one of two forms
pub data Either {T A : Type 0} (first second : Form T A) (a : A) (w : Lexemes T) : Type 0 where
  by_first : first a w → Either first second a w
  by_second : second a w → Either first second a w

-- the first reader where the token that stands there passes the test, else the second
abbrev pub on : {T A : Type 0} → T → (T → Bool) → Reader T A → Reader T A → Reader T A
on end test p q ts = if test (token_of end (head_of ts)) then p ts else q ts

-- what was read passes the test, or is refused so
abbrev pub judged : {T A : Type 0} → (A → Bool) → TokenRefusal → A → Reader T A
judged test f a ts = if test a then Ok (a, ts) else Err f

-- a reader that is given the place where it begins
abbrev pub from_here : {T A : Type 0} → (Option ℕ → Reader T A) → Reader T A
from_here p ts = p (first_place ts) ts

-- one item for each of a list, by its number
abbrev pub each : {T D A : Type 0} → (ℕ → D → Reader T A) → ℕ → List D → Reader T (List A)
each step n [] = pure []
each step n (d ∷ ds) = step n d >>= λ a. each step (suc n) ds >>= λ xs. pure (a ∷ xs)

-- items, each by its number, as long as one begins, and at most that many
unfoldable pub many : {T A : Type 0} → T → (T → Bool) → (ℕ → Reader T A) → ℕ → List A → Reader T (List A)
many end begins step zero xs ts = Ok (xs, ts)
many end begins step (suc count) xs ts =
    if begins (token_of end (head_of ts)) then and_then (step (length xs) ts) (λ a. many end begins step count (xs ++ a ∷ [])) else Ok (xs, ts)

-- the whole text: what stands behind it is refused
abbrev pub to_end : {T A : Type 0} → (T → ℕ) → Read T A → Result A TokenRefusal
to_end number (Ok (a, [])) = Ok a
to_end number (Ok (a, x ∷ us)) = Err (record { number = number x.1; at = Some x.0.0 })
to_end number (Err f) = Err f
