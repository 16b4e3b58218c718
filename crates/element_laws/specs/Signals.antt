-- The signals of one channel in one cycle, and what happens to the word that is offered there.
use Rattle.std.specs.Prelude.{◌≡◌, ◌&&◌, Bool, true, false, not, List, [], ◌∷◌, if◌then◌else◌}

-- a word, as its bits, the least significant one first
abbrev pub Bits : Type 0
Bits = List Bool

-- In valid-ready signalling these are the channel's wires. In FIFO signalling `valid` is `empty` inverted, and `ready` is
-- `rden`.
pub record Signals : Type 0 where
  pub valid : Bool
  pub word : Bits
  pub ready : Bool

-- the wires of a channel with FIFO signalling
abbrev pub fifo_signals : Bool → Bits → Bool → Signals
fifo_signals empty word rden = record { valid = not empty; word = word; ready = rden }

-- a channel on which nothing happens
abbrev pub idle : Signals
idle = record { valid = false; word = []; ready = false }

-- a transfer: both sides agree in the same cycle
abbrev pub is_transfer : Signals → Bool
is_transfer s = s.valid && s.ready

-- the word that is offered, transferred, or offered and refused in this cycle, if there is one
abbrev pub offered : Signals → List Bits
offered s = if s.valid then s.word ∷ [] else []

abbrev pub transferred : Signals → List Bits
transferred s = if s.valid && s.ready then s.word ∷ [] else []

abbrev pub refused : Signals → List Bits
refused s = if s.valid && not s.ready then s.word ∷ [] else []

-- A refused offer is kept: valid without a transfer in one cycle means valid with the same word in the next.
pub record KeepsOffer (old new : Signals) : Type 0 where
  pub valid : old.valid ≡ true → old.ready ≡ false → new.valid ≡ true
  pub word : old.valid ≡ true → old.ready ≡ false → new.word ≡ old.word

-- Whoever reads a channel with FIFO signalling reads only where it is not empty.
pub record ReadsHeld (s : Signals) : Type 0 where
  pub valid : s.ready ≡ true → s.valid ≡ true
