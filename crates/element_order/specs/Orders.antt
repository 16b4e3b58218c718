-- The order of elements: again and again the first one in text order all of whose sources are ready.
use Rattle.std.specs.Prelude.{ℕ, zero, suc, ◌+◌, ◌<◌, ◌&&◌, Bool, true, not, if◌then◌else◌, List, [], ◌∷◌, ◌++◌, Option, Some, None, All, length, get_or, eqb}
use Rattle.std.specs.List.{list_any}

-- For each element, in text order, `needs` has the places of the elements whose channels it takes.
abbrev pub AllBelow : ℕ → List ℕ → Type 0
AllBelow n ds = All (λ d. d < n) ds

-- the number stands there
abbrev pub among : ℕ → List ℕ → Bool
among k xs = list_any (eqb k) xs

abbrev pub all_among : List ℕ → List ℕ → Bool
all_among [] placed = true
all_among (d ∷ ds) placed = among d placed && all_among ds placed

-- what an element needs
abbrev pub needs_of : List (List ℕ) → ℕ → List ℕ
needs_of needs i = get_or needs i []

-- An element is ready where it is not placed yet, and all that it needs is.
abbrev pub is_ready : List (List ℕ) → List ℕ → ℕ → Bool
is_ready needs placed i = not (among i placed) && all_among (needs_of needs i) placed

-- the first of the `left` numbers from `i` on that passes
unfoldable pub first_from : (ℕ → Bool) → ℕ → ℕ → Option ℕ
first_from test i zero = None
first_from test i (suc left) = if test i then Some i else first_from test (i + 1) left

-- the first element that is ready
abbrev pub next_ready : List (List ℕ) → List ℕ → Option ℕ
next_ready needs placed = first_from (is_ready needs placed) 0 (length needs)

-- with the next element, or what stands where there is none
abbrev pub with_next : (ℕ → List ℕ) → List ℕ → Option ℕ → List ℕ
with_next go placed None = placed
with_next go placed (Some i) = go i

-- so many elements at most are placed after those that are
unfoldable pub ordered_from : List (List ℕ) → ℕ → List ℕ → List ℕ
ordered_from needs zero placed = placed
ordered_from needs (suc turns) placed = with_next (λ i. ordered_from needs turns (placed ++ i ∷ [])) placed (next_ready needs placed)

unfoldable pub ordered : List (List ℕ) → List ℕ
ordered needs = ordered_from needs (length needs) []
