-- Rings, each the list of the words in it, the oldest first.
use Rattle.std.specs.Prelude.{ℕ, nat_lt, Bool, if◌then◌else◌, List, [], ◌∷◌, ◌++◌, length, drop, Option, option_to_list, slice_index_or, slice_set}
use Rattle.cycle_rules.specs.Circuit.{Bits}
use Rattle.cycle_rules.specs.Lists.{first}
use Rattle.cycle_rules.specs.declared.limits.TheConstants.{RING_VALUES}

-- whether a ring holds fewer words than it can
abbrev pub has_room : List Bits → Bool
has_room ring = nat_lt (length ring) RING_VALUES

-- a ring loses its oldest word, if there is one, where that goes
abbrev pub after_pop : List Bits → Bool → List Bits
after_pop ring goes = if goes then drop 1 ring else ring

-- a ring with room gets a word, if there is one
abbrev pub after_push : List Bits → Option Bits → List Bits
after_push ring word = if has_room ring then ring ++ option_to_list word else ring

-- the words in a channel's ring
abbrev pub ring_at : List (List Bits) → ℕ → List Bits
ring_at rings channel = slice_index_or rings channel []

-- the oldest word in a channel's ring
abbrev pub front_of : List (List Bits) → ℕ → Option Bits
front_of rings channel = first (ring_at rings channel)

-- the rings with one word more, at the end of a channel's ring
abbrev pub rings_with : List (List Bits) → ℕ → Bits → List (List Bits)
rings_with rings channel word = slice_set rings channel (ring_at rings channel ++ word ∷ [])

-- the rings without the oldest word of a channel's ring
abbrev pub rings_without_front : List (List Bits) → ℕ → List (List Bits)
rings_without_front rings channel = slice_set rings channel (drop 1 (ring_at rings channel))
