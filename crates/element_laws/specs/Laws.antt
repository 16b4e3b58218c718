-- The law of each element: at each moment of a run, what went out is told by what came in and by what the element holds.
use Rattle.std.specs.Prelude.{◌≡◌, ℕ, ◌<◌, ◌≤◌, List, ◌++◌, length, map, if◌then◌else◌, Bool}
use Rattle.element_laws.specs.Signals.{Bits, is_transfer, ReadsHeld}
use Rattle.element_laws.specs.Histories.{Channel, transfers, offers, KeepsOffers, Always, reached, IsRun}
use Rattle.element_laws.specs.Streams.{IsPrefix, pairs, running, last_state}
use Rattle.element_laws.specs.Elements.{Element, input_count, output_count, stream, Contents, reset, flag, IsCycle}
use Rattle.element_laws.specs.Elements.Element.{stage, fifo, as_fifo, as_vr, map_by, scan_by, fork, join}

-- Storage: what came in is what went out, followed by what is held, which is never too much.
pub record StorageLaw {C : Type 0} (limit : ℕ) (held : List Bits) (input output : Channel C) (history : List C) : Type 0 where
  pub words : transfers input history ≡ transfers output history ++ held
  pub within : length held ≤ limit

-- both channels transfer in the same cycles
abbrev pub MoveTogether : {C : Type 0} → Channel C → Channel C → List C → Type 0
MoveTogether input output history = Always (λ cycle. is_transfer (input cycle) ≡ is_transfer (output cycle)) history

-- A map: what went out is the function of each word that came in.
pub record MapLaw {C : Type 0} (f : Bits → Bits) (input output : Channel C) (history : List C) : Type 0 where
  pub words : transfers output history ≡ map f (transfers input history)
  pub together : MoveTogether input output history

-- From FIFO signalling back: what went out is what came in, and the input is read only where it is not empty.
pub record AsVrLaw {C : Type 0} (input output : Channel C) (history : List C) : Type 0 where
  pub words : transfers output history ≡ transfers input history
  pub together : MoveTogether input output history
  pub reads : Always (λ cycle. ReadsHeld (input cycle)) history

-- A scan: what went out is the running states, and the state is the last of them, or the reset.
pub record ScanLaw {C : Type 0} (step : Bits → Bits → Bits) (start state : Bits) (input output : Channel C) (history : List C) : Type 0 where
  pub words : transfers output history ≡ running step start (transfers input history)
  pub last : state ≡ last_state step start (transfers input history)
  pub together : MoveTogether input output history

-- A branch of a fork: what went out is what came in, followed by the offered word where the branch has had it.
pub record BranchLaw {C : Type 0} (served : Bool) (input output : Channel C) (history : List C) : Type 0 where
  pub words : transfers output history ≡ (if served then offers input history else transfers input history)

pub record ForkLaw {C : Type 0} (branches : ℕ) (served : ℕ → Bool) (input : Channel C) (outputs : ℕ → Channel C) (history : List C) : Type 0 where
  pub branch : (k : ℕ) → k < branches → BranchLaw (served k) input (outputs k) history

-- A join: what went out is the pairs of what came in, of which there is as much on both sides.
pub record JoinLaw {C : Type 0} (left right output : Channel C) (history : List C) : Type 0 where
  pub words : transfers output history ≡ pairs (transfers left history) (transfers right history)
  pub left_count : length (transfers left history) ≡ length (transfers output history)
  pub right_count : length (transfers right history) ≡ length (transfers output history)

-- the law of an element that holds this now
abbrev pub Law : {C : Type 0} → Element → Contents → (ℕ → Channel C) → (ℕ → Channel C) → List C → Type 0
Law stage now inputs outputs history = StorageLaw 2 now.held (inputs 0) (outputs 0) history
Law (fifo depth) now inputs outputs history = StorageLaw depth now.held (inputs 0) (outputs 0) history
Law as_fifo now inputs outputs history = MapLaw (λ word. word) (inputs 0) (outputs 0) history
Law as_vr now inputs outputs history = AsVrLaw (inputs 0) (outputs 0) history
Law (map_by f) now inputs outputs history = MapLaw f (inputs 0) (outputs 0) history
Law (scan_by step start) now inputs outputs history = ScanLaw step start now.state (inputs 0) (outputs 0) history
Law (fork branches) now inputs outputs history = ForkLaw branches (flag now) (inputs 0) outputs history
Law join now inputs outputs history = JoinLaw (inputs 0) (inputs 1) (outputs 0) history

-- the element in each cycle of a run, given what it holds before and after each cycle, and its channels
abbrev pub IsElementRun : {C : Type 0} → Element → (C → Contents) → (C → Contents) → (ℕ → Channel C) → (ℕ → Channel C) → List C → Type 0
IsElementRun element before after inputs outputs history =
    IsRun (λ cycle. IsCycle element (before cycle) (after cycle) (λ k. inputs k cycle) (λ k. outputs k cycle)) before after (reset element) history

-- each of so many channels keeps its refused offers
abbrev pub KeepAll : {C : Type 0} → ℕ → (ℕ → Channel C) → List C → Type 0
KeepAll count channels history = (k : ℕ) → k < count → KeepsOffers (channels k) history

-- What an element promises in every run in which its inputs keep their refused offers.
pub record Obeys {C : Type 0} (element : Element) (now : Contents) (inputs outputs : ℕ → Channel C) (history : List C) : Type 0 where
  -- the law of its kind
  pub law : Law element now inputs outputs history
  -- its outputs keep their refused offers too
  pub keeps : KeepAll (output_count element) outputs history
  -- what each output has offered is the beginning of the element's stream of what its inputs have offered
  pub streams : (k : ℕ) → k < output_count element → IsPrefix (offers (outputs k) history) (stream element (λ j. offers (inputs j) history))

abbrev pub EachObeys : Type 0 → Type 0
EachObeys C = (element : Element) (before after : C → Contents) (inputs outputs : ℕ → Channel C) (history : List C)
    → IsElementRun element before after inputs outputs history → KeepAll (input_count element) inputs history
    → Obeys element (reached after (reset element) history) inputs outputs history
