-- A walk through what an element depends on.
use Rattle.std.specs.Prelude.{◌≡◌, ℕ, ◌+◌, ◌||◌, ◌⊎◌, Bool, true, false, if◌then◌else◌, List, [], ◌∷◌, ◌++◌, length, get_or, set, eqb}
use Rattle.element_order.specs.Orders.{AllBelow, among, needs_of}
use Rattle.element_order.specs.Laws.{Depends}

-- how many are not marked
unfoldable pub unseen : List Bool → ℕ
unseen [] = 0
unseen (b ∷ bs) = (if b then 0 else 1) + unseen bs

abbrev pub is_marked : List Bool → ℕ → Bool
is_marked marks x = get_or marks x false

-- the marks with some more
abbrev pub with_marks : List Bool → List ℕ → List Bool
with_marks marks [] = marks
with_marks marks (x ∷ xs) = with_marks (set marks x true) xs

-- No marked element depends on itself.
pub record AreClear (needs : List (List ℕ)) (cleared : List Bool) : Type 0 where
  pub sized : length cleared ≡ length needs
  pub each : (x : ℕ) → is_marked cleared x ≡ true → Depends needs x x → ⊥

-- an element that is not marked yet is marked, and waits
abbrev pub seen_with : List Bool → ℕ → List Bool
seen_with seen d = if is_marked seen d then seen else set seen d true

abbrev pub waiting_with : List ℕ → List Bool → ℕ → List ℕ
waiting_with waiting seen d = if is_marked seen d then waiting else waiting ++ d ∷ []

-- the same of several, one after another
abbrev pub all_seen : List Bool → List ℕ → List Bool
all_seen seen [] = seen
all_seen seen (d ∷ ds) = all_seen (seen_with seen d) ds

abbrev pub all_waiting : List ℕ → List Bool → List ℕ → List ℕ
all_waiting waiting seen [] = waiting
all_waiting waiting seen (d ∷ ds) = all_waiting (waiting_with waiting seen d) (seen_with seen d) ds

-- One of those that wait was taken: what it needs is marked.
pub record IsTurn (needs : List (List ℕ)) (seen : List Bool) (waiting : List ℕ) (seen' : List Bool) (waiting' : List ℕ) : Type 0 where
  pub element : ℕ
  pub rest : List ℕ
  pub split : waiting ≡ rest ++ element ∷ []
  pub marks : seen' ≡ all_seen seen (needs_of needs element)
  pub waits : waiting' ≡ all_waiting rest seen (needs_of needs element)

-- the start, and what is marked
abbrev pub is_reached : ℕ → List Bool → ℕ → Bool
is_reached start seen x = eqb x start || is_marked seen x

-- What is marked is depended on, or was cleared before; what waits is depended on and marked; of what is reached, was not
-- cleared and does not wait, each need is marked or among those still to be marked (`more`).
pub record Reach (needs : List (List ℕ)) (cleared : List Bool) (start : ℕ) (more : List ℕ) (seen : List Bool) (waiting : List ℕ) : Type 0 where
  pub sized : length seen ≡ length needs
  pub sound : (d : ℕ) → is_marked seen d ≡ true → Depends needs start d ⊎ (is_marked cleared d ≡ true)
  pub marked : (x : ℕ) → among x waiting ≡ true → is_marked seen x ≡ true
  pub waits : (x : ℕ) → among x waiting ≡ true → Depends needs start x
  pub closed : (x d : ℕ) → is_reached start seen x ≡ true → is_marked cleared x ≡ false → among x waiting ≡ false → among d (needs_of needs x) ≡ true → (among d more || is_marked seen d) ≡ true
  pub due : (d : ℕ) → among d more ≡ true → Depends needs start d
  pub within : AllBelow (length needs) more
