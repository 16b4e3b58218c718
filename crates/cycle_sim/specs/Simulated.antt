-- A simulator as contracts see it, and what it keeps.
use Rattle.std.specs.Prelude.{◌≡◌, ℕ, ◌<◌, Bool, true, false, List, Option, Some, None, if◌then◌else◌, length, replicate}
use Rattle.netlist.specs.declared.net.Net.{Net}
use Rattle.netlist.specs.declared.net.Net.TheVariants.{Register}
use Rattle.netlist.specs.Nets.{Bits, word_at, width_at, is_computed}
use Rattle.netlist.specs.Plans.{Plan, net_at, is_register_at}
use Rattle.netlist.specs.Runs.{registers_after}
use Rattle.cycle_sim.specs.Marks.{NoneFrom}
use Rattle.cycle_sim.specs.Wired.{IsWired}
use Rattle.cycle_sim.specs.Turns.{HeldBefore, HasState, Begun}
use Rattle.cycle_sim.specs.Clocks.{AreWords, MarksRegisters, IsCalm}

-- the netlist, and the words of its nets in the last cycle, where there was one
pub record Simulated : Type 0 where
  pub plan : Plan
  pub last : Option (List Bits)

-- the word of a net before the first cycle: the reset of a register, and else zero
abbrev pub rest_word : Net → ℕ → Bits
rest_word (Register reset) width = reset
rest_word _ width = replicate width false

-- the word of a net: the one that it settled to in the last cycle, and before the first that at rest
abbrev pub word_shown : Plan → Option (List Bits) → ℕ → Bits
word_shown plan None net = rest_word (net_at plan.nets net) (width_at plan.widths net)
word_shown plan (Some words) net = word_at words net

abbrev pub word_of : Simulated → ℕ → Bits
word_of sim net = word_shown sim.plan sim.last net

-- the word that a register has now
abbrev pub register_of : Simulated → ℕ → Bits
register_of sim register = word_at (registers_after sim.plan sim.last) register

-- the words of the last cycle, where there was one
abbrev pub last_of : Bool → List Bits → Option (List Bits)
last_of started words = if started then Some words else None

-- each net has its word at rest
pub record AreAtRest (plan : Plan) (words : List Bits) : Type 0 where
  pub count : length words ≡ length plan.nets
  pub each : (net : ℕ) → net < length plan.nets → word_at words net ≡ rest_word (net_at plan.nets net) (width_at plan.widths net)

-- before the first cycle every net that has to be evaluated is marked, and every register waits
pub record IsFirst (plan : Plan) (words : List Bits) (marks waiting : List Bool) : Type 0 where
  pub rest : AreAtRest plan words
  pub begun : Begun plan None words marks waiting

-- behind a cycle no net is marked, and the equations hold
pub record IsBehind (plan : Plan) (words : List Bits) (marks : List Bool) : Type 0 where
  pub none : NoneFrom marks 0
  pub settled : (i : ℕ) → i < length plan.nets → is_computed (net_at plan.nets i) ≡ true → HeldBefore plan (Some words) i

-- between two cycles
pub record IsReady (plan : Plan) (words : List Bits) (marks waiting : List Bool) (started : Bool) : Type 0 where
  pub calm : IsCalm plan words waiting
  pub first : started ≡ false → IsFirst plan words marks waiting
  pub behind : started ≡ true → IsBehind plan words marks

-- room that a cycle uses
pub record HasRoom (plan : Plan) (held : List Bits) (due : List Bool) : Type 0 where
  pub words : AreWords plan held
  pub registers : MarksRegisters plan due
  pub none : NoneFrom due 0

-- what a simulator keeps
pub record IsSim (plan : Plan) (users : List (List ℕ)) (places : List ℕ) (words : List Bits) (marks waiting : List Bool) (held : List Bits) (due : List Bool) (started : Bool) : Type 0 where
  pub wired : IsWired plan users places
  pub state : HasState plan words marks waiting
  pub ready : IsReady plan words marks waiting started
  pub room : HasRoom plan held due

-- the words at registers' places are those that the registers have
pub record HasRegisters (plan : Plan) (last : Option (List Bits)) (words : List Bits) : Type 0 where
  pub each : (r : ℕ) → is_register_at plan.nets r ≡ true → word_at words r ≡ word_at (registers_after plan last) r
