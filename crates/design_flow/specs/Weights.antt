-- Weights in 32 bits.
use Rattle.std.specs.Prelude.{◌≡◌, ℕ, ◌<◌, ◌^◌, ◌-◌, List, [], ◌∷◌, length, get_or, max, min, slice_set}
use Rattle.element_rows.specs.Flat.{Placed, channel_count}
use Rattle.element_load.specs.Load.{weight}

-- the greatest number of 32 bits, where a number is greater
abbrev pub capped : ℕ → ℕ
capped n = min n (2 ^ 32 - 1)

-- a list with one item at some of its places
abbrev pub put_all : List ℕ → List ℕ → ℕ → List ℕ
put_all xs [] x = xs
put_all xs (place ∷ places) x = put_all (slice_set xs place x) places x

-- A list has the weight of each channel, capped.
pub record AreWeightsOf (servers : ℕ) (row : List Placed) (clients : List ℕ) (weights : List ℕ) : Type 0 where
  pub count : length weights ≡ channel_count servers row
  pub each : (channel : ℕ) → channel < length weights → get_or weights channel 0 ≡ capped (weight servers row clients channel)

-- the greatest of some numbers, 0 of none
abbrev pub greatest : List ℕ → ℕ
greatest [] = 0
greatest (n ∷ ns) = max n (greatest ns)
