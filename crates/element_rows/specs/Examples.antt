-- Worked examples of flat lists, their streams and a row that runs. Each of them holds by computing.
use Rattle.std.specs.Prelude.{◌≡◌, ℕ, zero, suc, ◌+◌, ◌<◌, nat_lt, Bool, true, false, List, [], ◌∷◌, length, map, drop, get_or, if◌then◌else◌, refl}
use Rattle.std.proofs.Common.{arith}
use Rattle.esi_base.specs.Bits.{bits_of, number_of}
use Rattle.element_laws.specs.Signals.{Bits}
use Rattle.element_laws.specs.Elements.{Element}
use Rattle.element_laws.specs.Elements.Element.{stage, fifo, as_vr, map_by, scan_by, fork, join}
use Rattle.element_rows.specs.Flat.{Placed, channel_count, IsFlatList, at, flow}
use Rattle.element_rows.specs.Signalling.{AreSignalled}

abbrev octet : ℕ → Bits
octet n = bits_of 8 n

abbrev octets : List ℕ → List Bits
octets numbers = map octet numbers

abbrev numbers : List Bits → List ℕ
numbers words = map number_of words

abbrev add : Bits → Bits → Bits
add a b = bits_of 8 (number_of a + number_of b)

abbrev placed : Element → List ℕ → Placed
placed element sources = record { element = element; sources = sources }

-- the list of a channel, as numbers
abbrev list_of : List Placed → List (List ℕ) → ℕ → List ℕ
list_of row lists channel = numbers (at (flow row (map octets lists)) channel)

-- ---- a pipe of two stages: channel 0 comes in, 2 goes out

abbrev pub pipe : List Placed
pipe = placed stage (0 ∷ []) ∷ placed stage (1 ∷ []) ∷ []

pipe_gives : list_of pipe ((1 ∷ 2 ∷ 3 ∷ []) ∷ []) 2 ≡ 1 ∷ 2 ∷ 3 ∷ []
pipe_gives = refl

-- the one input of an element
one_below : (sources : List ℕ) (made : ℕ) → get_or sources 0 0 < made → (k : ℕ) → k < 1 → get_or sources k 0 < made
one_below sources made h zero b = h
one_below sources made h (suc k) b = absurd (omega arith)

pub pipe_is_flat : IsFlatList 1 pipe (2 ∷ [])
pipe_is_flat = record {
  earlier = (refl, one_below (0 ∷ []) 1 (omega arith), (refl, one_below (1 ∷ []) (1 + 1) (omega arith), tt));
  once = λ f. omega arith;
}

-- ---- a scan, a fork, a fifo and an as_vr: running sums on channels 2 and 5

abbrev summed : List Placed
summed = placed (scan_by add (octet 0)) (0 ∷ []) ∷ placed (fork 2) (1 ∷ []) ∷ placed (fifo 2) (3 ∷ []) ∷ placed as_vr (4 ∷ []) ∷ []

summed_channels : channel_count 1 summed ≡ 6
summed_channels = refl

summed_left : list_of summed ((1 ∷ 2 ∷ 3 ∷ []) ∷ []) 2 ≡ 1 ∷ 3 ∷ 6 ∷ []
summed_left = refl

summed_right : list_of summed ((1 ∷ 2 ∷ 3 ∷ []) ∷ []) 5 ≡ 1 ∷ 3 ∷ 6 ∷ []
summed_right = refl

-- channel 4 alone has FIFO signalling
abbrev summed_fifo : ℕ → Bool
summed_fifo c = if nat_lt c 4 then false else nat_lt c 5

summed_signals : AreSignalled summed_fifo 1 summed
summed_signals = (
  one_alike (λ k. summed_fifo (get_or (0 ∷ []) k 0)) false refl,
  one_alike (λ k. summed_fifo (1 + k)) false refl,
  (
    one_alike (λ k. summed_fifo (get_or (1 ∷ []) k 0)) false refl,
    two_alike (λ k. summed_fifo (1 + 1 + k)) false refl refl,
    (
      one_alike (λ k. summed_fifo (get_or (3 ∷ []) k 0)) false refl,
      one_alike (λ k. summed_fifo (1 + 1 + 2 + k)) true refl,
      (one_alike (λ k. summed_fifo (get_or (4 ∷ []) k 0)) true refl, one_alike (λ k. summed_fifo (1 + 1 + 2 + 1 + k)) false refl, tt),
    ),
  ),
)
  where
    one_alike : (a : ℕ → Bool) (b : Bool) → a 0 ≡ b → (k : ℕ) → k < 1 → a k ≡ b
    one_alike a b e zero h = e
    one_alike a b e (suc k) h = absurd (omega arith)

    two_alike : (a : ℕ → Bool) (b : Bool) → a 0 ≡ b → a 1 ≡ b → (k : ℕ) → k < 2 → a k ≡ b
    two_alike a b e f zero h = e
    two_alike a b e f (suc zero) h = f
    two_alike a b e f (suc (suc k)) h = absurd (omega arith)

-- ---- a fork whose branches are joined again and added: 3 gives 6

abbrev doubled : List Placed
doubled = placed (fork 2) (0 ∷ []) ∷ placed join (1 ∷ 2 ∷ []) ∷ placed (map_by (λ pair. add (bits_of 8 (number_of pair)) (drop 8 pair))) (3 ∷ []) ∷ []

doubled_gives : list_of doubled ((3 ∷ []) ∷ []) 4 ≡ 6 ∷ []
doubled_gives = refl

-- two to-server channels of unequal length, joined: what has no partner waits
joined_waits : map (λ word. length word) (at (flow (placed join (0 ∷ 1 ∷ []) ∷ []) (octets (1 ∷ 2 ∷ []) ∷ octets (3 ∷ []) ∷ [])) 2) ≡ 16 ∷ []
joined_waits = refl

-- a list that uses a channel twice is no flat list: its sums differ
twice_used : IsFlatList 1 (placed stage (0 ∷ []) ∷ placed stage (0 ∷ []) ∷ []) (1 ∷ 2 ∷ []) → ⊥
twice_used flat = omega (arith, flat.once (λ c. if nat_lt c 1 then 1 else 0))

-- nor is one in which a channel is never used
never_used : IsFlatList 1 (placed (fork 2) (0 ∷ []) ∷ []) (1 ∷ []) → ⊥
never_used flat = omega (arith, flat.once (λ c. 1))

-- nor one that uses a channel before it is made
used_before : IsFlatList 1 (placed stage (1 ∷ []) ∷ []) (0 ∷ []) → ⊥
used_before flat = omega (arith, flat.earlier.1 0 (omega arith))
