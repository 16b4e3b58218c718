-- The elements of a design: what each does to the lists of words that come in, what its registers hold, and what it does in
-- one cycle.
use Rattle.std.specs.Prelude.{◌≡◌, ℕ, zero, suc, ◌<◌, ◌&&◌, ◌||◌, nat_lt, Bool, true, false, not, List, [], ◌++◌, length, map, take, replicate, get_or, if◌then◌else◌}
use Rattle.element_laws.specs.Signals.{Bits, Signals, is_transfer, offered, transferred, ReadsHeld}
use Rattle.element_laws.specs.Streams.{pairs, running}

pub data Element : Type 0 where
  -- two places for words
  stage : Element
  -- so many places for words
  fifo : ℕ → Element
  -- from valid-ready to FIFO signalling, and back
  as_fifo : Element
  as_vr : Element
  -- the function is applied to each word
  map_by : (Bits → Bits) → Element
  -- a state, begun with the given one, takes in each word by the function, and is handed on
  scan_by : (Bits → Bits → Bits) → Bits → Element
  -- so many branches, each of which gets each word
  fork : ℕ → Element
  -- one word of each of two channels
  join : Element

abbrev pub input_count : Element → ℕ
input_count join = 2
input_count element = 1

abbrev pub output_count : Element → ℕ
output_count (fork branches) = branches
output_count element = 1

-- the list on each of the element's outputs, of the list on each input
abbrev pub stream : Element → (ℕ → List Bits) → List Bits
stream (map_by f) inputs = map f (inputs 0)
stream (scan_by step state) inputs = running step state (inputs 0)
stream join inputs = pairs (inputs 0) (inputs 1)
stream element inputs = inputs 0

-- What the registers of an element hold. Each kind of element uses one of these; the others stay as they are at reset.
pub record Contents : Type 0 where
  -- the words stored in a stage or fifo, the oldest first
  pub held : List Bits
  -- the state of a scan
  pub state : Bits
  -- of each branch of a fork, whether it has had the word that is offered at the input
  pub flags : List Bool

abbrev pub nothing : Contents
nothing = record { held = []; state = []; flags = [] }

abbrev pub reset : Element → Contents
reset (scan_by step state) = record { held = []; state = state; flags = [] }
reset (fork branches) = record { held = []; state = []; flags = replicate branches false }
reset element = nothing

abbrev pub flag : Contents → ℕ → Bool
flag contents branch = get_or contents.flags branch false

-- Storage of at most so many words in one cycle. It offers the oldest word that it holds, if there is one, and is ready
-- exactly where it has room. What it holds, followed by what comes in, is what goes out, followed by what it holds then.
pub record StorageCycle (limit : ℕ) (held after : List Bits) (input output : Signals) : Type 0 where
  pub offers : offered output ≡ take 1 held
  pub ready : input.ready ≡ nat_lt (length held) limit
  pub next : held ++ transferred input ≡ transferred output ++ after

-- A map offers the function of the word that is offered to it, and takes it where its own is taken.
pub record MapCycle (f : Bits → Bits) (input output : Signals) : Type 0 where
  pub offers : offered output ≡ map f (offered input)
  pub ready : input.ready ≡ output.ready

-- From FIFO signalling back: the word is offered on, and read only where there is one.
pub record AsVrCycle (input output : Signals) : Type 0 where
  pub offers : offered output ≡ offered input
  pub ready : input.ready ≡ (output.ready && input.valid)

-- A scan offers the state that the word would bring about, and keeps it where that is taken.
pub record ScanCycle (step : Bits → Bits → Bits) (state after : Bits) (input output : Signals) : Type 0 where
  pub offers : offered output ≡ map (step state) (offered input)
  pub ready : input.ready ≡ output.ready
  pub next : after ≡ (if is_transfer input then step state input.word else state)

-- One branch of a fork: it offers the input's word where it has not had it, and has then had it until the input takes it.
pub record BranchCycle (served after : Bool) (input output : Signals) : Type 0 where
  pub offers : offered output ≡ (if served then [] else offered input)
  pub next : after ≡ (not (is_transfer input) && (served || is_transfer output))

-- it holds of every branch below so many
abbrev pub every : (ℕ → Bool) → ℕ → Bool
every test zero = true
every test (suc count) = every test count && test count

-- A fork's input is ready exactly where each branch has had the word or takes it in this cycle.
pub record ForkCycle (branches : ℕ) (served after : ℕ → Bool) (input : Signals) (outputs : ℕ → Signals) : Type 0 where
  pub ready : input.ready ≡ every (λ k. served k || (outputs k).ready) branches
  pub branch : (k : ℕ) → k < branches → BranchCycle (served k) (after k) input (outputs k)

-- A join offers a pair where both words are there, and takes each of them where the pair is taken.
pub record JoinCycle (left right output : Signals) : Type 0 where
  pub offers : offered output ≡ pairs (offered left) (offered right)
  pub left_ready : left.ready ≡ (output.ready && right.valid)
  pub right_ready : right.ready ≡ (output.ready && left.valid)

-- One cycle of an element: what it holds before and after, and the signals at its inputs and outputs.
abbrev pub IsCycle : Element → Contents → Contents → (ℕ → Signals) → (ℕ → Signals) → Type 0
IsCycle stage before after inputs outputs = StorageCycle 2 before.held after.held (inputs 0) (outputs 0)
IsCycle (fifo depth) before after inputs outputs = StorageCycle depth before.held after.held (inputs 0) (outputs 0)
IsCycle as_fifo before after inputs outputs = MapCycle (λ word. word) (inputs 0) (outputs 0)
IsCycle as_vr before after inputs outputs = AsVrCycle (inputs 0) (outputs 0)
IsCycle (map_by f) before after inputs outputs = MapCycle f (inputs 0) (outputs 0)
IsCycle (scan_by step state) before after inputs outputs = ScanCycle step before.state after.state (inputs 0) (outputs 0)
IsCycle (fork branches) before after inputs outputs = ForkCycle branches (flag before) (flag after) (inputs 0) outputs
IsCycle join before after inputs outputs = JoinCycle (inputs 0) (inputs 1) (outputs 0)

-- A fifo counts its words, and its count is right only while nobody reads where it is empty.
abbrev pub IsReadWell : Element → Signals → Type 0
IsReadWell (fifo depth) output = ReadsHeld output
IsReadWell element output = Unit {0}
