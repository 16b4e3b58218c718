-- What a walk in element order keeps: which elements need each one, and how many sources each one still waits for.
use Rattle.std.specs.Prelude.{◌≡◌, ℕ, ◌+◌, ◌-◌, ◌<◌, ◌≤◌, ◌==◌, ◌&&◌, nat_lt, true, not, if◌then◌else◌, List, [], ◌∷◌, ◌++◌, length, get_or, eqb, set}
use Rattle.std.specs.List.{IsDistinct}
use Rattle.std.specs.Ordering.{nat_cmp}
use Rattle.std.specs.BTreeSet.{insert_key}
use Rattle.element_order.specs.Orders.{AllBelow, among, needs_of, ordered, ordered_from}

-- how often a number stands there
unfoldable pub times : ℕ → List ℕ → ℕ
times k [] = 0
times k (x ∷ xs) = (if k == x then 1 else 0) + times k xs

-- how many of these are not placed
unfoldable pub waiting : List ℕ → List ℕ → ℕ
waiting placed [] = 0
waiting placed (d ∷ ds) = (if among d placed then 0 else 1) + waiting placed ds

-- The lists say how often each element needs each other one.
pub record IsFeeds (needs feeds : List (List ℕ)) : Type 0 where
  pub many : length feeds ≡ length needs
  pub each : (j k : ℕ) → j < length needs → k < length needs → times j (get_or feeds k []) ≡ times k (needs_of needs j)
  pub inside : (k : ℕ) → AllBelow (length needs) (get_or feeds k [])

-- The same of the first `n` elements: what they need is noted.
pub record AreNoted (needs : List (List ℕ)) (n : ℕ) (feeds : List (List ℕ)) : Type 0 where
  pub many : length feeds ≡ length needs
  pub each : (j k : ℕ) → k < length needs → times j (get_or feeds k []) ≡ (if nat_lt j n then times k (needs_of needs j) else 0)
  pub inside : (k : ℕ) → AllBelow (length needs) (get_or feeds k [])

-- an element is put into the lists of those that it needs
abbrev pub noted : List (List ℕ) → ℕ → ℕ → List (List ℕ)
noted feeds d i = set feeds d (get_or feeds d [] ++ i ∷ [])

abbrev pub all_noted : List (List ℕ) → List ℕ → ℕ → List (List ℕ)
all_noted feeds [] i = feeds
all_noted feeds (d ∷ ds) i = all_noted (noted feeds d i) ds i

-- what is told: an element waits for one source less, and is ready where that was the last
abbrev pub told_waits : List ℕ → ℕ → List ℕ
told_waits waits f = set waits f (get_or waits f 0 - 1)

abbrev pub told_keys : List ℕ → List ℕ → ℕ → List ℕ
told_keys keys waits f = if get_or (told_waits waits f) f 1 == 0 then insert_key nat_cmp keys f else keys

-- The ready ones are those that are not placed and wait for nothing.
pub record AreReady (placed keys waits : List ℕ) : Type 0 where
  pub known : (j : ℕ) → among j keys ≡ (not (among j placed) && (get_or waits j 1 == 0))

-- Each element waits for what is not placed, and for what has just been placed and is not told yet (`more`). What is
-- placed waits for nothing.
pub record Placing (needs : List (List ℕ)) (placed more keys waits : List ℕ) : Type 0 where
  pub sized : length waits ≡ length needs
  pub counted : (j : ℕ) → j < length needs → get_or waits j 1 ≡ waiting placed (needs_of needs j) + times j more
  pub ready : AreReady placed keys waits
  pub closed : (j : ℕ) → among j placed ≡ true → get_or waits j 1 ≡ 0
  pub within : AllBelow (length needs) more

-- a walk: what is placed so far, and what is left of the order
pub record Walk (needs feeds : List (List ℕ)) (placed keys waits : List ℕ) : Type 0 where
  pub fed : IsFeeds needs feeds
  pub placing : Placing needs placed [] keys waits
  pub distinct : IsDistinct eqb placed
  pub below : (q : ℕ) → among q placed ≡ true → q < length needs
  pub same : ordered_from needs (length needs - length placed) placed ≡ ordered needs

-- of the first elements, those that wait for nothing
pub record AreFound (first : ℕ) (waits keys : List ℕ) : Type 0 where
  pub known : (j : ℕ) → among j keys ≡ (nat_lt j first && (get_or waits j 1 == 0))

-- the same of several, one after another
abbrev pub all_told_waits : List ℕ → List ℕ → List ℕ
all_told_waits waits [] = waits
all_told_waits waits (f ∷ fs) = all_told_waits (told_waits waits f) fs

abbrev pub all_told_keys : List ℕ → List ℕ → List ℕ → List ℕ
all_told_keys keys waits [] = keys
all_told_keys keys waits (f ∷ fs) = all_told_keys (told_keys keys waits f) (told_waits waits f) fs

-- None of these is told more often than it waits.
pub record AreDue (fed waits : List ℕ) : Type 0 where
  pub due : (j : ℕ) → times j fed ≤ get_or waits j 0
