-- The nets of a stage: storage of two words, as two bits that are valid and two words.
use Rattle.std.specs.Prelude.{◌≡◌, ℕ, ◌+◌, ◌<◌, false, List, [], ◌∷◌, Some, length, replicate}
use Rattle.netlist.specs.declared.net.Net.{Net}
use Rattle.netlist.specs.declared.net.Net.TheVariants.{Register, Not, And, Or, Choose}
use Rattle.netlist.specs.Nets.{Bits, word_at}
use Rattle.netlist.specs.Plans.{Plan, with_next, next_of, IsNextOf}
use Rattle.element_laws.specs.Histories.{Channel, KeepsOffers, reached}
use Rattle.element_laws.specs.Laws.{Obeys}
use Rattle.element_laws.specs.Elements.Element.{stage}
use Rattle.element_wires.specs.Wires.{StageRegisters, stage_words}
use Rattle.element_wires.specs.WireLaws.{IsStageRun, holding}
use Rattle.net_lists.specs.Lists.{StandFrom, Carries}
use Rattle.net_lists.specs.Runs.{carried, bit_at, IsNetRun}
use Rattle.stage_nets.specs.declared.stage.StageNets.{StageNets}

-- V0, V1, D0, D1
abbrev pub stage_registers : ℕ → List Net
stage_registers width = Register (false ∷ []) ∷ Register (false ∷ []) ∷ Register (replicate width false) ∷ Register (replicate width false) ∷ []

-- R: there is room while V1 is 0
abbrev pub stage_ready : ℕ → List Net
stage_ready registers = Not (registers + 1) ∷ []

-- What the registers hold next, from a place on: a = And iv R; b = And V0 or; c = Not b; k = And V0 c; f = Or V1 a; p = Or k f; q = And k f;
-- m = Choose V1 D1 id; g = Choose k D0 m.
abbrev pub stage_next : StageNets → ℕ → List Net
stage_next s at =
    And s.valid s.room
    ∷ And s.registers s.ready
    ∷ Not (at + 1)
    ∷ And s.registers (at + 2)
    ∷ Or (s.registers + 1) at
    ∷ Or (at + 3) (at + 4)
    ∷ And (at + 3) (at + 4)
    ∷ Choose (s.registers + 1) (s.registers + 3) s.word
    ∷ Choose (at + 3) (s.registers + 2) (at + 7)
    ∷ []

-- the next nets of V0, V1, D0, D1 are p, q, g, m
abbrev pub stage_linked : Plan → ℕ → ℕ → Plan
stage_linked plan registers at = with_next (with_next (with_next (with_next plan registers (at + 5)) (registers + 1) (at + 6)) (registers + 2) (at + 8)) (registers + 3) (at + 7)

-- the next nets of the registers may be set
pub record CanLink (plan : Plan) (registers at : ℕ) : Type 0 where
  pub v0 : IsNextOf plan registers (at + 5)
  pub v1 : IsNextOf plan (registers + 1) (at + 6)
  pub d0 : IsNextOf plan (registers + 2) (at + 8)
  pub d1 : IsNextOf plan (registers + 3) (at + 7)

-- what stands before the nets of `stage_next` are pushed
pub record IsStageReady (plan : Plan) (s : StageNets) : Type 0 where
  pub registers : StandFrom plan.nets s.registers (stage_registers s.width)
  pub within : s.registers + 3 < length plan.nets
  pub valid : Carries plan s.valid 1
  pub word : Carries plan s.word s.width
  pub ready : Carries plan s.ready 1
  pub room : Carries plan s.room 1

-- a stage stands in a netlist: its registers, its ready net, the nets of what they hold next, from a place on, and their next nets
pub record HasStage (plan : Plan) (s : StageNets) (at : ℕ) : Type 0 where
  pub registers : StandFrom plan.nets s.registers (stage_registers s.width)
  pub room : StandFrom plan.nets s.room (stage_ready s.registers)
  pub next : StandFrom plan.nets at (stage_next s at)
  pub next_v0 : next_of plan s.registers ≡ Some (at + 5)
  pub next_v1 : next_of plan (s.registers + 1) ≡ Some (at + 6)
  pub next_d0 : next_of plan (s.registers + 2) ≡ Some (at + 8)
  pub next_d1 : next_of plan (s.registers + 3) ≡ Some (at + 7)
  pub valid : Carries plan s.valid 1
  pub ready : Carries plan s.ready 1

-- the channels between which it stands
abbrev pub stage_input : StageNets → Channel (List Bits)
stage_input s = carried (record { valid = s.valid; word = s.word; ready = s.room })

abbrev pub stage_output : StageNets → Channel (List Bits)
stage_output s = carried (record { valid = s.registers; word = s.registers + 2; ready = s.ready })

-- what its registers hold in a cycle with these words, at the start, and in the next cycle
abbrev pub stage_now : StageNets → List Bits → StageRegisters
stage_now s words = record { v0 = bit_at s.registers words; v1 = bit_at (s.registers + 1) words; d0 = word_at words (s.registers + 2); d1 = word_at words (s.registers + 3) }

abbrev pub stage_start : StageNets → StageRegisters
stage_start s = record { v0 = false; v1 = false; d0 = replicate s.width false; d1 = replicate s.width false }

abbrev pub stage_after : ℕ → List Bits → StageRegisters
stage_after at words = record { v0 = bit_at (at + 5) words; v1 = bit_at (at + 6) words; d0 = word_at words (at + 8); d1 = word_at words (at + 7) }

-- What a stage does in a run of a netlist in which it stands. It is storage of two words: it offers the oldest one, it is ready while it
-- holds fewer than two, and V1 is 1 only where V0 is. Where its input keeps its refused offers it obeys the law of a stage.
pub record StageRuns (s : StageNets) (at : ℕ) (history : List (List Bits)) : Type 0 where
  pub run : IsStageRun (stage_now s) (stage_after at) (stage_start s) (stage_input s) (stage_output s) history
  pub obeys : KeepsOffers (stage_input s) history
      → Obeys stage (reached (λ cycle. holding (stage_words (stage_after at cycle))) (holding []) history) (λ k. stage_input s) (λ k. stage_output s) history

abbrev pub StagesObey : Type 0
StagesObey = (plan : Plan) (s : StageNets) (at : ℕ) (offers history : List (List Bits)) → HasStage plan s at → IsNetRun plan offers history → StageRuns s at history
