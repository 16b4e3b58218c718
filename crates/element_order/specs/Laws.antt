-- What the order is, and what follows from it.
use Rattle.std.specs.Prelude.{◌≡◌, ℕ, ◌<◌, ◌≤◌, true, List, Option, Some, None, All, length, get_or, take, eqb}
use Rattle.std.specs.List.{IsDistinct}
use Rattle.element_order.specs.Orders.{AllBelow, among, all_among, needs_of, next_ready, ordered}

-- At each place stands the first element that is ready once those before it are placed; after the last, none is.
pub record IsElementOrder (needs : List (List ℕ)) (placed : List ℕ) : Type 0 where
  pub each : (k : ℕ) → k < length placed → next_ready needs (take k placed) ≡ Some (get_or placed k 0)
  pub ends : next_ready needs placed ≡ None

-- Each element stands after all that it needs, no element stands there twice, and each is one of them.
pub record IsSorted (needs : List (List ℕ)) (placed : List ℕ) : Type 0 where
  pub sources : (k : ℕ) → k < length placed → all_among (needs_of needs (get_or placed k 0)) (take k placed) ≡ true
  pub distinct : IsDistinct eqb placed
  pub below : (q : ℕ) → among q placed ≡ true → q < length needs

-- An element depends on those that it needs, and on all that these depend on.
pub data Depends (needs : List (List ℕ)) : ℕ → ℕ → Type 0 where
  direct : (i k : ℕ) → among k (needs_of needs i) ≡ true → Depends needs i k
  through : (i j k : ℕ) → among j (needs_of needs i) ≡ true → Depends needs j k → Depends needs i k

-- some element depends on itself
pub record IsOnCycle (needs : List (List ℕ)) : Type 0 where
  pub element : ℕ
  pub low : element < length needs
  pub itself : Depends needs element element

-- The order has these properties, and all elements are placed exactly where none depends on itself.
pub record OrderLaw (needs : List (List ℕ)) : Type 0 where
  pub order : IsElementOrder needs (ordered needs)
  pub sorted : IsSorted needs (ordered needs)
  pub whole : length (ordered needs) ≡ length needs → IsOnCycle needs → ⊥
  pub cycle : length (ordered needs) < length needs → IsOnCycle needs

abbrev pub AllOrders : Type 0
AllOrders = (needs : List (List ℕ)) → All (AllBelow (length needs)) needs → OrderLaw needs

-- no other list has these properties
abbrev pub OneOrder : Type 0
OneOrder = (needs : List (List ℕ)) (placed other : List ℕ) → IsElementOrder needs placed → IsElementOrder needs other → placed ≡ other

-- Of the first `n` elements, one that depends on itself stands at the place, and none of them that does stands before it.
pub record IsFirstOnCycle (needs : List (List ℕ)) (places : List ℕ) (n at : ℕ) : Type 0 where
  pub element : ℕ
  pub low : element < n
  pub itself : Depends needs element element
  pub stands : get_or places element 0 ≡ at
  pub first : (other : ℕ) → other < n → Depends needs other other → at ≤ get_or places other 0

-- the first place of an element that depends on itself, where one does
abbrev pub TellsFirst : List (List ℕ) → List ℕ → ℕ → Option ℕ → Type 0
TellsFirst needs places n None = (other : ℕ) → other < n → Depends needs other other → ⊥
TellsFirst needs places n (Some at) = IsFirstOnCycle needs places n at
