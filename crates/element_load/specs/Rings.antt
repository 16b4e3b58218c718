-- To-server channels that offer the fronts of rings.
use Rattle.std.specs.Prelude.{◌≡◌, ℕ, ◌<◌, ◌≤◌, List, [], ◌∷◌, ◌++◌, length, take}
use Rattle.element_laws.specs.Signals.{Bits, Signals, offered, transferred}
use Rattle.element_laws.specs.Histories.{Channel, last_refused, KeepsOffers}
use Rattle.element_laws.specs.Streams.{IsPrefix}
use Rattle.element_load.specs.LoadLaws.{OffersLine}

-- One cycle of a ring: its front is offered, and leaves it where it is transferred.
pub record RingCycle (ring left : List Bits) (s : Signals) : Type 0 where
  pub offers : offered s ≡ take 1 ring
  pub loses : ring ≡ transferred s ++ left

-- in a run: from one cycle to the next, values join at the end
abbrev pub IsRing : {C : Type 0} → Channel C → (C → List Bits) → (C → List Bits) → List C → Type 0
IsRing channel ring left [] = Unit {0}
IsRing channel ring left (cycle ∷ []) = RingCycle (ring cycle) (left cycle) (channel cycle)
IsRing channel ring left (cycle ∷ old ∷ earlier) =
    RingCycle (ring cycle) (left cycle) (channel cycle) × IsPrefix (left old) (ring cycle) × IsRing channel ring left (old ∷ earlier)

-- Channels before which rings stand keep their refused offers, and offer what stands in line.
pub record AreLines {C : Type 0} (channels : ℕ → Channel C) (servers : ℕ) (ring left : ℕ → C → List Bits) (cycle : C) (earlier : List C) : Type 0 where
  pub keeps : (c : ℕ) → c < servers → KeepsOffers (channels c) (cycle ∷ earlier)
  pub line : OffersLine channels servers (λ c. length (ring c cycle)) (λ c. length (left c cycle)) cycle
  pub refused_left : (c : ℕ) → c < servers → length (last_refused (channels c) (cycle ∷ earlier)) ≤ length (left c cycle)

abbrev pub RingsAreLines : Type 0 → Type 0
RingsAreLines C = (channels : ℕ → Channel C) (servers : ℕ) (ring left : ℕ → C → List Bits) (cycle : C) (earlier : List C)
    → ((c : ℕ) → c < servers → IsRing (channels c) (ring c) (left c) (cycle ∷ earlier)) → AreLines channels servers ring left cycle earlier
