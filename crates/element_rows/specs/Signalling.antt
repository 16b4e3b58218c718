-- Channels with FIFO signalling, and who reads them.
use Rattle.std.specs.Prelude.{◌≡◌, ℕ, ◌+◌, ◌<◌, Bool, true, false, List, [], ◌∷◌}
use Rattle.element_laws.specs.Histories.{Channel, Always}
use Rattle.element_laws.specs.Elements.{Element, input_count, output_count, Contents, IsReadWell}
use Rattle.element_laws.specs.Elements.Element.{fifo, as_fifo, as_vr}
use Rattle.element_laws.specs.Laws.{IsElementRun}
use Rattle.element_rows.specs.Flat.{Placed, source, IsFlatList, among}
use Rattle.element_rows.specs.Rows.{Running, places, AreRunning}

-- who gives FIFO signalling, and who takes it
abbrev pub gives_fifo : Element → Bool
gives_fifo (fifo depth) = true
gives_fifo as_fifo = true
gives_fifo element = false

abbrev pub takes_fifo : Element → Bool
takes_fifo as_vr = true
takes_fifo element = false

-- which channels have FIFO signalling: just those that such an element makes, and only such an element takes
abbrev pub AreSignalled : (ℕ → Bool) → ℕ → List Placed → Type 0
AreSignalled is_fifo made [] = Unit {0}
AreSignalled is_fifo made (placed ∷ others) =
    ((k : ℕ) → k < input_count placed.element → is_fifo (source placed k) ≡ takes_fifo placed.element)
    × ((k : ℕ) → k < output_count placed.element → is_fifo (made + k) ≡ gives_fifo placed.element)
    × AreSignalled is_fifo (made + output_count placed.element) others

-- An element runs as it does if its output is read well in each cycle: a fifo that is read while it is empty promises
-- nothing.
abbrev pub IsRunIfRead : {C : Type 0} → Element → (C → Contents) → (C → Contents) → (ℕ → Channel C) → (ℕ → Channel C) → List C → Type 0
IsRunIfRead element before after inputs outputs history =
    Always (λ cycle. IsReadWell element (outputs 0 cycle)) history → IsElementRun element before after inputs outputs history

abbrev pub AreRunningIfRead : {C : Type 0} → (ℕ → Channel C) → ℕ → List (Running C) → List C → Type 0
AreRunningIfRead channels made [] history = Unit {0}
AreRunningIfRead channels made (r ∷ row) history =
    IsRunIfRead r.placed.element r.before r.after (λ k. channels (source r.placed k)) (λ k. channels (made + k)) history
    × AreRunningIfRead channels (made + output_count r.placed.element) row history

-- In a flat list whose channels are taken as they signal, each fifo is read well, and so each element runs.
abbrev pub FifosAreReadWell : Type 0 → Type 0
FifosAreReadWell C = (is_fifo : ℕ → Bool) (channels : ℕ → Channel C) (servers : ℕ) (row : List (Running C)) (clients : List ℕ) (history : List C)
    → IsFlatList servers (places row) clients → AreSignalled is_fifo servers (places row) → ((c : ℕ) → among c clients ≡ true → is_fifo c ≡ false)
    → AreRunningIfRead channels servers row history → AreRunning channels servers row history
