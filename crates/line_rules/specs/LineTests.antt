-- The rules of a line, each as a test of one of its parts, and what a line means that is judged by them.
use Rattle.std.specs.Prelude.{ℕ, ◌≡◌, ◌<◌, ◌≤◌, ◌⊎◌, Bool, true, Result, Ok, Err, List, [], ◌∷◌, if◌then◌else◌}
use Rattle.esi_base.specs.declared.place.Refusal.{Refusal}
use Rattle.small_text.specs.Lines.{Part, Line, place_of}

-- A rule of a line, by its number: the part of the line at which it is reported, and whether the line breaks it.
pub record LineTest : Type 0 where
  pub number : ℕ
  pub part : Part
  pub broken : Bool

-- The rule with a number is broken at a part where this holds.
abbrev pub broken_at : ℕ → Part → Bool → LineTest
broken_at number part broken = record { number = number; part = part; broken = broken }

-- A test is of this number and this part, and says that the rule is broken.
pub record IsBroken (test : LineTest) (number : ℕ) (part : Part) : Type 0 where
  pub number_is : test.number ≡ number
  pub part_is : test.part ≡ part
  pub broken : test.broken ≡ true

-- A line with these tests breaks the rule with a number at a part.
abbrev pub Breaks : List LineTest → ℕ → Part → Type 0
Breaks [] number part = ⊥
Breaks (test ∷ rest) number part = IsBroken test number part ⊎ Breaks rest number part

-- A line with these tests breaks no rule.
abbrev pub BreaksNone : List LineTest → Type 0
BreaksNone tests = (number : ℕ) (part : Part) → Breaks tests number part → ⊥

-- One break is reported before another: at a smaller column, or at the same one with a smaller number.
abbrev pub NoLater : ℕ → ℕ → ℕ → ℕ → Type 0
NoLater column number other_column other = (column < other_column) ⊎ ((column ≡ other_column) × (number ≤ other))

-- What a refusal of a line says: it reports the first break of a line with these tests.
pub record ReportsFirst (tests : List LineTest) (line : Line) (refusal : Refusal) : Type 0 where
  pub part : Part
  pub breaks : Breaks tests refusal.number part
  pub place : refusal.place ≡ place_of line.number part
  pub first : (number : ℕ) (other : Part) → Breaks tests number other → NoLater part.column refusal.number other.column number

-- How a broken rule is reported.
abbrev pub refusal_of : Line → LineTest → Refusal
refusal_of line test = record { number = test.number; place = place_of line.number test.part }

-- A line says a value, unless one of its tests says that a rule is broken: then the first of these is reported.
abbrev pub judged : {A : Type 0} → Line → List LineTest → A → Result A Refusal
judged line [] value = Ok value
judged line (test ∷ rest) value = if test.broken then Err (refusal_of line test) else judged line rest value

-- Tests stand in the order in which they are reported, from a column and a number on.
abbrev pub InOrder : ℕ → ℕ → List LineTest → Type 0
InOrder column number [] = Unit {0}
InOrder column number (test ∷ rest) = NoLater column number test.part.column test.number × InOrder test.part.column test.number rest
