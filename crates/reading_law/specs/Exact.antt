-- What a reader promises whose next step may depend on what it has read so far: it reads exactly the texts of a form, and stops at
-- the first token with which no such text goes on.
use Rattle.std.specs.Prelude.{◌≡◌, ℕ, Bool, true, [], ◌∷◌, ◌++◌, Option, Some, None, Ok, Err, ◌⊎◌}
use Rattle.ll1_grammar.specs.Lexemes.{Lexeme, Lexemes, first_place}
use Rattle.ll1_grammar.specs.Readers.{Reader}
use Rattle.ll1_grammar.specs.declared.refusal.TokenRefusal.{TokenRefusal}

-- how a value is written in lexemes
abbrev pub Form : Type 0 → Type 0 → Type 1
Form T A = A → Lexemes T → Type 0

-- the first lexeme
abbrev pub head_of : {T : Type 0} → Lexemes T → Option (Lexeme T)
head_of [] = None
head_of (x ∷ xs) = Some x

-- the first token, or what stands for the end
abbrev pub token_of : {T : Type 0} → T → Option (Lexeme T) → T
token_of end (Some x) = x.1
token_of end None = end

-- a text may go on with every token
abbrev pub anything : {T : Type 0} → Option (Lexeme T) → Bool
anything head = true

-- What was read is a text of the form, and may end where it does.
pub record Taken {T A : Type 0} (form : Form T A) (stops : Option (Lexeme T) → Bool) (ts : Lexemes T) (a : A) (us : Lexemes T) : Type 0 where
  pub part : Lexemes T
  pub parts : ts ≡ part ++ us
  pub written : form a part
  pub stands : stops (head_of us) ≡ true

-- The reader stops at a token, or at the end. `early` are the rules that are told at an earlier place than the token by which they
-- are broken.
pub record Stopped {T A : Type 0} (early : ℕ → Bool) (p : Reader T A) (loose : Form T A) (ts : Lexemes T) (f : TokenRefusal) : Type 0 where
  pub front : Lexemes T
  pub behind : Lexemes T
  pub more : Lexemes T
  pub value : A
  pub parts : ts ≡ front ++ behind
  -- what stands before it goes on to a text of the loose form
  pub goes_on : loose value (front ++ more)
  -- the answer is the same whatever stands behind that token
  pub same : (others : Lexemes T) → head_of others ≡ head_of behind → p (front ++ others) ≡ Err f
  pub place : (f.at ≡ first_place behind) ⊎ (early f.number ≡ true)

pub record Exact {T A : Type 0} (early : ℕ → Bool) (p : Reader T A) (form loose : Form T A) (stops : Option (Lexeme T) → Bool) : Type 0 where
  pub sound : (ts : Lexemes T) (a : A) (us : Lexemes T) → p ts ≡ Ok (a, us) → Taken form stops ts a us
  -- each text of the form is read whole
  pub whole : (a : A) (w us : Lexemes T) → form a w → stops (head_of us) ≡ true → p (w ++ us) ≡ Ok (a, us)
  pub refused : (ts : Lexemes T) (f : TokenRefusal) → p ts ≡ Err f → Stopped early p loose ts f
  pub weak : (a : A) (w : Lexemes T) → form a w → loose a w

-- some text of the form exists
pub record Opens {T B : Type 0} (form : Form T B) : Type 0 where
  pub value : B
  pub text : Lexemes T
  pub is : form value text
