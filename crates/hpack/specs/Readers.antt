-- Octets as a sequence of parts, and readers that find them.
use Rattle.std.specs.Prelude.{◌≡◌, List, ℕ, ◌++◌, ◌⊎◌, Result, Ok, Err}
use Rattle.hpack.specs.declared.stop.BlockRule.{BlockRule}

-- a first part that is a value, and after it a second one, which may speak of that value
pub record IsSequence {A B : Type 0} (First : List ℕ → A → Type 0) (Second : A → List ℕ → B → Type 0) (octets : List ℕ) (value : B) : Type 0 where
  pub front : List ℕ
  pub rest : List ℕ
  pub first : A
  pub whole : octets ≡ front ++ rest
  pub is_first : First front first
  pub is_second : Second first rest value

-- octets that begin with a part that is a value, where a fact holds of the value and of what follows
pub record HoldsAfter {A : Type 0} (First : List ℕ → A → Type 0) (Fact : A → List ℕ → Type 0) (octets : List ℕ) : Type 0 where
  pub front : List ℕ
  pub rest : List ℕ
  pub first : A
  pub whole : octets ≡ front ++ rest
  pub is_first : First front first
  pub fact : Fact first rest

-- the first part breaks a rule, or it stands and what is after it breaks the rule
abbrev pub BreaksSequence : {A : Type 0} → (BlockRule → List ℕ → Type 0) → (List ℕ → A → Type 0) → (A → BlockRule → List ℕ → Type 0) → BlockRule → List ℕ → Type 0
BreaksSequence BreaksFirst First BreaksSecond rule octets = BreaksFirst rule octets ⊎ HoldsAfter First (λ a rest. BreaksSecond a rule rest) octets

-- the octets begin with a part that is the value, and the other octets are after it
pub record BeginsWith {A : Type 0} (Is : List ℕ → A → Type 0) (octets : List ℕ) (found : A × List ℕ) : Type 0 where
  pub front : List ℕ
  pub whole : octets ≡ front ++ found.1
  pub is_value : Is front found.0

-- A reader of a part is exact: what it reads is the part, what is the part it reads, whatever follows,
-- and it refuses exactly where a rule is broken, by that rule.
pub record IsExact {A : Type 0} (read : List ℕ → Result (A × List ℕ) BlockRule) (Is : List ℕ → A → Type 0) (Breaks : BlockRule → List ℕ → Type 0) : Type 0 where
  pub sound : (octets : List ℕ) (found : A × List ℕ) → read octets ≡ Ok found → BeginsWith Is octets found
  pub whole : (front rest : List ℕ) (value : A) → Is front value → read (front ++ rest) ≡ Ok (value, rest)
  pub refuses : (octets : List ℕ) (rule : BlockRule) → read octets ≡ Err rule → Breaks rule octets
  pub broken : (octets : List ℕ) (rule : BlockRule) → Breaks rule octets → read octets ≡ Err rule
