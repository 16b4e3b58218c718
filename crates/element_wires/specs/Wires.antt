-- What the nets of each element say in one cycle, in bits and numbers: what its wires carry, and what its registers hold in
-- the next cycle. Lowering shows these of its nets; the laws of elements stand on them.
use Rattle.std.specs.Prelude.{◌≡◌, ℕ, zero, suc, ◌+◌, ◌-◌, ◌%◌, ◌^◌, ◌<◌, ◌==◌, ◌&&◌, ◌||◌, nat_lt, Bool, true, not, List, [], ◌∷◌, get_or, if◌then◌else◌}
use Rattle.element_laws.specs.Signals.{Bits, Signals, is_transfer}
use Rattle.element_laws.specs.Streams.{pair}
use Rattle.element_laws.specs.Elements.{Element, Contents, flag, every}
use Rattle.element_laws.specs.Elements.Element.{stage, fifo, as_fifo, as_vr, map_by, scan_by, fork, join}

-- ---- stage: two valid bits and two words

pub record StageRegisters : Type 0 where
  pub v0 : Bool
  pub v1 : Bool
  pub d0 : Bits
  pub d1 : Bits

-- the words that are held, the oldest first
abbrev pub stage_words : StageRegisters → List Bits
stage_words r = if r.v0 then r.d0 ∷ (if r.v1 then r.d1 ∷ [] else []) else []

-- the second place is used only where the first one is
pub record InOrder (r : StageRegisters) : Type 0 where
  pub first : r.v1 ≡ true → r.v0 ≡ true

-- the first word stays; a word stands behind it; and the word that does
abbrev pub stays : StageRegisters → Signals → Bool
stays now output = now.v0 && not (now.v0 && output.ready)

abbrev pub follows : StageRegisters → Signals → Bool
follows now input = now.v1 || (input.valid && not now.v1)

abbrev pub newest : StageRegisters → Signals → Bits
newest now input = if now.v1 then now.d1 else input.word

pub record StageWires (now next : StageRegisters) (input output : Signals) : Type 0 where
  pub valid : output.valid ≡ now.v0
  pub word : output.word ≡ now.d0
  pub ready : input.ready ≡ not now.v1
  pub next_v0 : next.v0 ≡ (stays now output || follows now input)
  pub next_v1 : next.v1 ≡ (stays now output && follows now input)
  pub next_d0 : next.d0 ≡ (if stays now output then now.d0 else newest now input)
  pub next_d1 : next.d1 ≡ newest now input

-- ---- fifo: a count of `width` bits and `depth` words

pub record FifoRegisters : Type 0 where
  pub count : ℕ
  pub slots : List Bits

abbrev pub slot : FifoRegisters → ℕ → Bits
slot r place = get_or r.slots place []

-- the first so many values of a function
abbrev pub firsts : {A : Type 0} → (ℕ → A) → ℕ → List A
firsts f zero = []
firsts f (suc n) = f zero ∷ firsts (λ i. f (suc i)) n

-- the words that are held, the oldest first
abbrev pub fifo_words : FifoRegisters → List Bits
fifo_words r = firsts (slot r) r.count

abbrev pub one : Bool → ℕ
one b = if b then 1 else 0

-- the count once a word is read, modulo 2 ^ width
abbrev pub unread : ℕ → FifoRegisters → Signals → ℕ
unread width now output = (now.count + 2 ^ width - one output.ready) % 2 ^ width

-- a slot once a word is read: the word of the slot above it, where there is one
abbrev pub moved_up : ℕ → FifoRegisters → Signals → ℕ → Bits
moved_up depth now output place = if nat_lt (suc place) depth && output.ready then slot now (suc place) else slot now place

pub record FifoWires (depth width : ℕ) (now next : FifoRegisters) (input output : Signals) : Type 0 where
  pub valid : output.valid ≡ not (now.count == 0)
  pub word : output.word ≡ slot now 0
  pub ready : input.ready ≡ not (now.count == depth)
  pub next_count : next.count ≡ (unread width now output + one (is_transfer input)) % 2 ^ width
  pub next_slot : (place : ℕ) → place < depth
      → slot next place ≡ (if is_transfer input && (unread width now output == place) then input.word else moved_up depth now output place)

-- the count has room for the depth
pub record FifoFits (depth width : ℕ) : Type 0 where
  pub fits : depth < 2 ^ width

-- ---- the others

pub record MapWires (f : Bits → Bits) (input output : Signals) : Type 0 where
  pub valid : output.valid ≡ input.valid
  pub word : output.word ≡ f input.word
  pub ready : input.ready ≡ output.ready

pub record AsVrWires (input output : Signals) : Type 0 where
  pub valid : output.valid ≡ input.valid
  pub word : output.word ≡ input.word
  pub ready : input.ready ≡ (output.ready && input.valid)

pub record ScanWires (step : Bits → Bits → Bits) (state next : Bits) (input output : Signals) : Type 0 where
  pub valid : output.valid ≡ input.valid
  pub word : output.word ≡ step state input.word
  pub ready : input.ready ≡ output.ready
  pub next_state : next ≡ (if input.valid && output.ready then output.word else state)

pub record ForkWires (branches : ℕ) (served next : ℕ → Bool) (input : Signals) (outputs : ℕ → Signals) : Type 0 where
  pub valid : (k : ℕ) → k < branches → (outputs k).valid ≡ (input.valid && not (served k))
  pub word : (k : ℕ) → k < branches → (outputs k).word ≡ input.word
  pub ready : input.ready ≡ every (λ k. served k || (outputs k).ready) branches
  pub next_flag : (k : ℕ) → k < branches → next k ≡ (not (is_transfer input) && (served k || is_transfer (outputs k)))

pub record JoinWires (left right output : Signals) : Type 0 where
  pub valid : output.valid ≡ (left.valid && right.valid)
  pub word : output.word ≡ pair left.word right.word
  pub left_ready : left.ready ≡ (output.ready && right.valid)
  pub right_ready : right.ready ≡ (output.ready && left.valid)

-- the wires of an element that is neither a stage nor a fifo, whose registers are what it holds
abbrev pub IsWired : Element → Contents → Contents → (ℕ → Signals) → (ℕ → Signals) → Type 0
IsWired stage now next inputs outputs = ⊥
IsWired (fifo depth) now next inputs outputs = ⊥
IsWired as_fifo now next inputs outputs = MapWires (λ word. word) (inputs 0) (outputs 0)
IsWired as_vr now next inputs outputs = AsVrWires (inputs 0) (outputs 0)
IsWired (map_by f) now next inputs outputs = MapWires f (inputs 0) (outputs 0)
IsWired (scan_by step start) now next inputs outputs = ScanWires step now.state next.state (inputs 0) (outputs 0)
IsWired (fork branches) now next inputs outputs = ForkWires branches (flag now) (flag next) (inputs 0) outputs
IsWired join now next inputs outputs = JoinWires (inputs 0) (inputs 1) (outputs 0)
