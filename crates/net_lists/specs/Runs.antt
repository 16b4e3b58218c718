-- What nets carry over a run: the bits of nets of one bit, the channels between nets, and the words of registers.
use Rattle.std.specs.Prelude.{ℕ, Bool, false, List, [], ◌∷◌, slice_get}
use Rattle.std.specs.List.{AllByRecursion}
use Rattle.netlist.specs.Nets.{Bits, word_at}
use Rattle.netlist.specs.Plans.{Plan, IsComplete}
use Rattle.netlist.specs.Settled.{IsSettled, AreInputs, HaveWidths}
use Rattle.netlist.specs.Runs.{registers_after, IsHistory}
use Rattle.element_laws.specs.Signals.{fifo_signals}
use Rattle.element_laws.specs.Histories.{Channel}

-- the bit of a word of one bit
abbrev pub bit_of : Bits → Bool
bit_of [] = false
bit_of (bit ∷ bits) = bit

-- the bit of a net of one bit, in a cycle with these words
abbrev pub bit_at : ℕ → List Bits → Bool
bit_at net words = bit_of (word_at words net)

-- the nets of a channel with valid-ready signalling
pub record ChannelNets : Type 0 where
  pub valid : ℕ
  pub word : ℕ
  pub ready : ℕ

-- what it carries in a cycle with these words
abbrev pub carried : ChannelNets → Channel (List Bits)
carried c words = record { valid = bit_at c.valid words; word = word_at words c.word; ready = bit_at c.ready words }

-- the same of a channel with FIFO signalling, of which `valid` is the net of `empty` and `ready` that of `rden`
abbrev pub fifo_carried : ChannelNets → Channel (List Bits)
fifo_carried c words = fifo_signals (bit_at c.valid words) (word_at words c.word) (bit_at c.ready words)

-- A run of a complete netlist whose inputs have their widths: the settled words of all nets in each cycle, the newest first.
pub record IsNetRun (plan : Plan) (offers history : List (List Bits)) : Type 0 where
  pub complete : IsComplete plan
  pub wide : AllByRecursion (AreInputs plan) offers
  pub run : IsHistory plan offers history

-- one cycle of it, behind these
pub record IsNetCycle (plan : Plan) (earlier : List (List Bits)) (words : List Bits) : Type 0 where
  pub inputs : List Bits
  pub settled : IsSettled plan inputs (registers_after plan (slice_get earlier 0)) words
  pub wide : HaveWidths plan.widths words

abbrev pub AreNetCycles : Plan → List (List Bits) → Type 0
AreNetCycles plan [] = Unit {0}
AreNetCycles plan (words ∷ earlier) = IsNetCycle plan earlier words × AreNetCycles plan earlier
