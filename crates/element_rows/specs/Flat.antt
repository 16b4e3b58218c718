-- The flat list of a design's elements, over numbered channels: the to-server channels first, then those that the elements
-- make, element by element.
use Rattle.std.specs.Prelude.{◌≡◌, ℕ, zero, suc, ◌+◌, ◌<◌, ◌==◌, ◌||◌, Bool, false, List, [], ◌∷◌, ◌++◌, length, get_or, replicate, flat_map}
use Rattle.element_laws.specs.Signals.{Bits}
use Rattle.element_laws.specs.Elements.{Element, input_count, output_count, stream}

-- an element and the channels that it takes; the channels that it makes are the next ones
pub record Placed : Type 0 where
  pub element : Element
  pub sources : List ℕ

abbrev pub source : Placed → ℕ → ℕ
source placed k = get_or placed.sources k 0

-- how many channels there are in all, behind those that were there before
abbrev pub channel_count : ℕ → List Placed → ℕ
channel_count made [] = made
channel_count made (placed ∷ others) = channel_count (made + output_count placed.element) others

-- the channels that the elements take, in order
abbrev pub uses : List Placed → List ℕ
uses placed = flat_map (λ p. p.sources) placed

-- each element takes as many channels as it has inputs, all of them made before it
abbrev pub TakesEarlier : ℕ → List Placed → Type 0
TakesEarlier made [] = Unit {0}
TakesEarlier made (placed ∷ others) =
    (length placed.sources ≡ input_count placed.element)
    × ((k : ℕ) → k < input_count placed.element → source placed k < made)
    × TakesEarlier (made + output_count placed.element) others

-- the sum of f over a list, and over the numbers below a bound
abbrev pub total : (ℕ → ℕ) → List ℕ → ℕ
total f [] = 0
total f (x ∷ xs) = f x + total f xs

abbrev pub sum_below : (ℕ → ℕ) → ℕ → ℕ
sum_below f zero = 0
sum_below f (suc n) = sum_below f n + f n

-- whether a channel is one of these
abbrev pub among : ℕ → List ℕ → Bool
among channel [] = false
among channel (c ∷ others) = (channel == c) || among channel others

-- The flat list of a design with so many to-server channels and these channels at its to-client endpoints: each channel is
-- made before it is used, and is used once. "Once" is said of sums: whatever is summed over all channels is also its sum
-- over all their uses.
pub record IsFlatList (servers : ℕ) (placed : List Placed) (clients : List ℕ) : Type 0 where
  pub earlier : TakesEarlier servers placed
  pub once : (f : ℕ → ℕ) → sum_below f (channel_count servers placed) ≡ total f (uses placed) + total f clients

-- the list of a channel
abbrev pub at : List (List Bits) → ℕ → List Bits
at lists channel = get_or lists channel []

-- The stream function of a design: to the lists of the to-server channels each element in turn adds the list of each
-- channel that it makes.
abbrev pub flow : List Placed → List (List Bits) → List (List Bits)
flow [] lists = lists
flow (placed ∷ others) lists =
    flow others (lists ++ replicate (output_count placed.element) (stream placed.element (λ k. at lists (source placed k))))
