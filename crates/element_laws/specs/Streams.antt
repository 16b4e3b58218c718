-- Lists of words, and what elements make of them.
use Rattle.std.specs.Prelude.{◌≡◌, List, [], ◌∷◌, ◌++◌}
use Rattle.element_laws.specs.Signals.{Bits}

-- the one list is the beginning of the other
pub record IsPrefix {A : Type 0} (front whole : List A) : Type 0 where
  pub rest : List A
  pub is : front ++ rest ≡ whole

-- the two parts of a pair as one word: the left part has the more significant bits
abbrev pub pair : Bits → Bits → Bits
pair left right = right ++ left

-- pairs, up to the shorter list
abbrev pub pairs : List Bits → List Bits → List Bits
pairs [] rights = []
pairs (left ∷ lefts) [] = []
pairs (left ∷ lefts) (right ∷ rights) = pair left right ∷ pairs lefts rights

-- the running states from a first one on: each is made of the one before it and a word
abbrev pub running : (Bits → Bits → Bits) → Bits → List Bits → List Bits
running step state [] = []
running step state (word ∷ words) = step state word ∷ running step (step state word) words

-- the last of them, or the first state where there are no words
abbrev pub last_state : (Bits → Bits → Bits) → Bits → List Bits → Bits
last_state step state [] = state
last_state step state (word ∷ words) = last_state step (step state word) words
