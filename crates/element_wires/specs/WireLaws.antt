-- From wires to the cycles of elements.
use Rattle.std.specs.Prelude.{◌≤◌, ◌≡◌, ℕ, false, List, []}
use Rattle.element_laws.specs.Signals.{Bits, Signals, ReadsHeld}
use Rattle.element_laws.specs.Histories.{Channel, Always, reached, IsRun}
use Rattle.element_laws.specs.Elements.{Element, Contents, reset, IsCycle}
use Rattle.element_laws.specs.Elements.Element.{stage, fifo}
use Rattle.element_laws.specs.Laws.{IsElementRun}
use Rattle.element_wires.specs.Wires.{StageRegisters, StageWires, stage_words, InOrder, FifoRegisters, FifoWires, FifoFits, fifo_words, IsWired}

-- a store that holds these words
abbrev pub holding : List Bits → Contents
holding words = record { held = words; state = []; flags = [] }

-- A stage in a run: it is storage of two words, and its second place is used only where the first one is.
pub record IsStageRun {C : Type 0} (before after : C → StageRegisters) (start : StageRegisters) (input output : Channel C) (history : List C) : Type 0 where
  pub runs : IsElementRun stage (λ cycle. holding (stage_words (before cycle))) (λ cycle. holding (stage_words (after cycle))) (λ k. input) (λ k. output) history
  pub in_order : InOrder (reached after start history)

-- from the wires of each cycle of a run that begins with both valid bits 0
abbrev pub StagesRun : Type 0 → Type 0
StagesRun C = (before after : C → StageRegisters) (start : StageRegisters) (input output : Channel C) (history : List C)
    → start.v0 ≡ false → start.v1 ≡ false
    → IsRun (λ cycle. StageWires (before cycle) (after cycle) (input cycle) (output cycle)) before after start history
    → IsStageRun before after start input output history

-- A fifo in a run: it is storage of `depth` words, and counts no more than these.
pub record IsFifoRun {C : Type 0} (depth : ℕ) (before after : C → FifoRegisters) (start : FifoRegisters) (input output : Channel C) (history : List C) : Type 0 where
  pub runs : IsElementRun (fifo depth) (λ cycle. holding (fifo_words (before cycle))) (λ cycle. holding (fifo_words (after cycle))) (λ k. input) (λ k. output) history
  pub within : (reached after start history).count ≤ depth

-- from the wires of each cycle of a run that begins with count 0, where it is read only while it is not empty
abbrev pub FifosRun : Type 0 → Type 0
FifosRun C = (depth width : ℕ) (before after : C → FifoRegisters) (start : FifoRegisters) (input output : Channel C) (history : List C)
    → FifoFits depth width → start.count ≡ 0
    → IsRun (λ cycle. FifoWires depth width (before cycle) (after cycle) (input cycle) (output cycle)) before after start history
    → Always (λ cycle. ReadsHeld (output cycle)) history
    → IsFifoRun depth before after start input output history

-- Every other element, cycle by cycle.
abbrev pub WiresMakeCycles : Type 0
WiresMakeCycles = (element : Element) (now next : Contents) (inputs outputs : ℕ → Signals) → IsWired element now next inputs outputs → IsCycle element now next inputs outputs

-- and so over a run that begins with what the element holds at reset
abbrev pub WiresMakeRuns : Type 0 → Type 0
WiresMakeRuns C = (element : Element) (before after : C → Contents) (inputs outputs : ℕ → Channel C) (history : List C)
    → IsRun (λ cycle. IsWired element (before cycle) (after cycle) (λ k. inputs k cycle) (λ k. outputs k cycle)) before after (reset element) history
    → IsElementRun element before after inputs outputs history
