-- Whether an element depends on another, as a test.
use Rattle.std.specs.Prelude.{ℕ, zero, suc, ◌&&◌, ◌||◌, Bool, List, length}
use Rattle.element_order.specs.Orders.{among, needs_of}

-- It needs the other, or depends on it by way of elements whose numbers are below `n`.
unfoldable pub depends_below : List (List ℕ) → ℕ → ℕ → ℕ → Bool
depends_below needs zero i k = among k (needs_of needs i)
depends_below needs (suc n) i k = depends_below needs n i k || (depends_below needs n i n && depends_below needs n n k)

-- It depends on the other by way of any elements.
abbrev pub depends_on : List (List ℕ) → ℕ → ℕ → Bool
depends_on needs = depends_below needs (length needs)
