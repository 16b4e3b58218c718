-- Channels over a run, whatever a cycle is: the settled words of all nets of a netlist, the state of a model, or any other
-- type. A history is the list of the cycles so far, the newest first, so that what holds of every history holds at each
-- moment of a run.
use Rattle.std.specs.Prelude.{◌≡◌, List, [], ◌∷◌, ◌++◌, reverse, flat_map}
use Rattle.element_laws.specs.Signals.{Bits, Signals, transferred, refused, KeepsOffer}

abbrev pub Channel : Type 0 → Type 0
Channel C = C → Signals

-- the words transferred on a channel so far, in order
abbrev pub transfers : {C : Type 0} → Channel C → List C → List Bits
transfers channel [] = []
transfers channel (cycle ∷ before) = transfers channel before ++ transferred (channel cycle)

-- the word that was refused in the newest cycle, if there is one
abbrev pub last_refused : {C : Type 0} → Channel C → List C → List Bits
last_refused channel [] = []
last_refused channel (cycle ∷ before) = refused (channel cycle)

-- the words transferred so far, followed by that word
abbrev pub offers : {C : Type 0} → Channel C → List C → List Bits
offers channel history = transfers channel history ++ last_refused channel history

-- A run told from its start is a history told from its end: the words transferred in it are those of its cycles, in order.
abbrev pub TransfersInOrder : Type 0 → Type 0
TransfersInOrder C = (channel : Channel C) (run : List C) → transfers channel (reverse run) ≡ flat_map (λ cycle. transferred (channel cycle)) run

-- each refused offer is kept, from every cycle to the next
abbrev pub KeepsOffers : {C : Type 0} → Channel C → List C → Type 0
KeepsOffers channel [] = Unit {0}
KeepsOffers channel (new ∷ []) = Unit {0}
KeepsOffers channel (new ∷ old ∷ before) = KeepsOffer (channel old) (channel new) × KeepsOffers channel (old ∷ before)

-- it holds of each cycle
abbrev pub Always : {C : Type 0} → (C → Type 0) → List C → Type 0
Always P [] = Unit {0}
Always P (cycle ∷ before) = P cycle × Always P before

-- what a register holds behind the newest cycle: what `after` says of that cycle, or its reset value before the first one
abbrev pub reached : {C S : Type 0} → (C → S) → S → List C → S
reached after reset [] = reset
reached after reset (cycle ∷ before) = after cycle

-- A run: each of its cycles is one of these, and begins with what the cycle before it left.
abbrev pub IsRun : {C S : Type 0} → (C → Type 0) → (C → S) → (C → S) → S → List C → Type 0
IsRun IsOne before after reset [] = Unit {0}
IsRun IsOne before after reset (cycle ∷ earlier) =
    IsOne cycle × (before cycle ≡ reached after reset earlier) × IsRun IsOne before after reset earlier
