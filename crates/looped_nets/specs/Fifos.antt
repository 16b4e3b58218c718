-- The nets of a FIFO: a count and places for words.
use Rattle.std.specs.Prelude.{◌≡◌, ℕ, suc, ◌+◌, ◌-◌, ◌*◌, ◌<◌, ◌≤◌, ◌++◌, ◌^◌, nat_lt, if◌then◌else◌, false, List, [], ◌∷◌, Some, replicate}
use Rattle.std.specs.Int.Count.{count_leading_zeros}
use Rattle.esi_base.specs.Bits.{number_of, bits_of}
use Rattle.netlist.specs.declared.limits.TheConstants.{MIN_DEPTH, MAX_DEPTH}
use Rattle.netlist.specs.declared.net.Net.{Net}
use Rattle.netlist.specs.declared.net.Net.TheVariants.{Register, Const, Not, And, Equal, Add, Sub, Choose, Concat}
use Rattle.netlist.specs.Nets.{Bits, word_at}
use Rattle.netlist.specs.Plans.{Plan, with_next, next_of, IsNextOf}
use Rattle.element_laws.specs.Signals.{ReadsHeld}
use Rattle.element_laws.specs.Histories.{Channel, KeepsOffers, Always, reached}
use Rattle.element_laws.specs.Elements.Element.{fifo}
use Rattle.element_laws.specs.Laws.{Obeys}
use Rattle.element_wires.specs.Wires.{FifoRegisters, fifo_words, firsts}
use Rattle.element_wires.specs.WireLaws.{IsFifoRun, holding}
use Rattle.net_lists.specs.Lists.{StandFrom, Carries}
use Rattle.net_lists.specs.Runs.{carried, fifo_carried, IsNetRun}
use Rattle.looped_nets.specs.declared.fifo.FifoPlaces.{FifoPlaces}
use Rattle.looped_nets.specs.Loops.{nets_upto, linked, CanLinkAll}

-- Between which nets a FIFO of `more` + 1 places stands, and where its nets do: how wide its words are and how many bits its count has,
-- the valid and the word of its input, the rden of its output, its first register, and the first one of its forward, backward and next nets.
pub record FifoNets : Type 0 where
  pub more : ℕ
  pub width : ℕ
  pub bits : ℕ
  pub valid : ℕ
  pub word : ℕ
  pub rden : ℕ
  pub registers : ℕ
  pub forward : ℕ
  pub backward : ℕ
  pub next : ℕ

abbrev pub depth : FifoNets → ℕ
depth s = suc s.more

-- C, then D0 to D(N-1)
abbrev pub count_register : FifoNets → List Net
count_register s = Register (replicate s.bits false) ∷ []

abbrev pub slot_of : FifoNets → ℕ → ℕ
slot_of s i = s.registers + 1 + i

abbrev pub slot_register : FifoNets → ℕ → List Net
slot_register s i = Register (replicate s.width false) ∷ []

-- z = Const 0; E = Equal C z
abbrev pub fifo_forward : FifoNets → List Net
fifo_forward s = Const (bits_of s.bits 0) ∷ Equal s.registers s.forward ∷ []

-- t = Const N; F = Equal C t; R = Not F
abbrev pub fifo_backward : FifoNets → List Net
fifo_backward s = Const (bits_of s.bits (depth s)) ∷ Equal s.registers s.backward ∷ Not (s.backward + 1) ∷ []

-- a = And iv R; y = Const 0; xa = Concat y a; xb = Concat y n; p = Sub C xb; c = Add p xa
abbrev pub count_nets : FifoNets → List Net
count_nets s =
    And s.valid (s.backward + 2)
    ∷ Const (bits_of (s.bits - 1) 0)
    ∷ Concat (s.next + 1) s.next
    ∷ Concat (s.next + 1) s.rden
    ∷ Sub s.registers (s.next + 3)
    ∷ Add (s.next + 4) (s.next + 2)
    ∷ []

-- then for each i: q = Const i; h = Equal p q; g = And a h; s = Choose n D(i+1) Di, but for the last one; w = Choose g id s
abbrev pub slot_place : FifoNets → ℕ → ℕ
slot_place s i = s.next + 6 + 5 * i

abbrev pub early_nets : FifoNets → ℕ → List Net
early_nets s i =
    Const (bits_of s.bits i)
    ∷ Equal (s.next + 4) (slot_place s i)
    ∷ And s.next (slot_place s i + 1)
    ∷ Choose s.rden (slot_of s (suc i)) (slot_of s i)
    ∷ Choose (slot_place s i + 2) s.word (slot_place s i + 3)
    ∷ []

abbrev pub last_nets : FifoNets → ℕ → List Net
last_nets s i = Const (bits_of s.bits i) ∷ Equal (s.next + 4) (slot_place s i) ∷ And s.next (slot_place s i + 1) ∷ Choose (slot_place s i + 2) s.word (slot_of s i) ∷ []

-- w of each place
abbrev pub slot_next : FifoNets → ℕ → ℕ
slot_next s i = if nat_lt i s.more then slot_place s i + 4 else slot_place s i + 3

-- ---- the passes

-- how many bits the count has: the digits of the depth in base 2
unfoldable pub count_bits : ℕ → ℕ
count_bits depth = 32 - count_leading_zeros 32 depth

-- A FIFO between these nets, whose nets of what it holds next stand from a place on.
abbrev pub fifo_of : FifoPlaces → ℕ → FifoNets
fifo_of p at = record {
  more = p.depth - 1;
  width = p.width;
  bits = count_bits p.depth;
  valid = p.valid;
  word = p.word;
  rden = p.rden;
  registers = p.registers;
  forward = p.forward;
  backward = p.backward;
  next = at;
}

abbrev pub fifo_registers : ℕ → ℕ → List Net
fifo_registers width depth = Register (replicate (count_bits depth) false) ∷ [] ++ nets_upto (λ i. Register (replicate width false) ∷ []) depth

abbrev pub fifo_front : ℕ → ℕ → ℕ → List Net
fifo_front depth registers at = Const (bits_of (count_bits depth) 0) ∷ Equal registers at ∷ []

abbrev pub fifo_back : ℕ → ℕ → ℕ → List Net
fifo_back depth registers at = Const (bits_of (count_bits depth) depth) ∷ Equal registers at ∷ Not (at + 1) ∷ []

abbrev pub fifo_next : FifoPlaces → ℕ → List Net
fifo_next p at = let s : FifoNets = fifo_of p at in count_nets s ++ nets_upto (early_nets s) s.more ++ last_nets s s.more

-- the register of a place, and its next net, where it is not the last place
abbrev pub place_register : FifoPlaces → ℕ → ℕ
place_register p i = p.registers + 1 + i

abbrev pub early_next : ℕ → ℕ → ℕ
early_next at i = at + 6 + 5 * i + 4

abbrev pub last_next : FifoPlaces → ℕ → ℕ
last_next p at = at + 6 + 5 * (p.depth - 1) + 3

-- the next net of Di is w, and of C is c
abbrev pub fifo_linked : Plan → FifoPlaces → ℕ → Plan
fifo_linked plan p at = with_next (with_next (linked plan (place_register p) (early_next at) (p.depth - 1)) (place_register p (p.depth - 1)) (last_next p at)) p.registers (at + 5)

pub record CanLinkFifo (plan : Plan) (p : FifoPlaces) (at : ℕ) : Type 0 where
  pub early : CanLinkAll plan (place_register p) (early_next at) (p.depth - 1)
  pub last : IsNextOf plan (place_register p (p.depth - 1)) (last_next p at)
  pub count : IsNextOf plan p.registers (at + 5)

-- how deep a FIFO may be
pub record IsDepth (depth : ℕ) : Type 0 where
  pub some : MIN_DEPTH ≤ depth
  pub few : depth ≤ MAX_DEPTH

-- the forward and the backward nets of a FIFO may be pushed
pub record IsFifoFrontReady (plan : Plan) (depth registers : ℕ) : Type 0 where
  pub good : IsDepth depth
  pub count : Carries plan registers (count_bits depth)

-- the nets of what it holds next may be pushed
pub record IsFifoReady (plan : Plan) (p : FifoPlaces) : Type 0 where
  pub good : IsDepth p.depth
  pub registers : StandFrom plan.nets p.registers (fifo_registers p.width p.depth)
  pub valid : Carries plan p.valid 1
  pub word : Carries plan p.word p.width
  pub rden : Carries plan p.rden 1
  pub room : Carries plan (p.backward + 2) 1

-- ---- the law

-- a FIFO stands in a netlist; the next net of C is c, of Di w
pub record HasFifo (plan : Plan) (s : FifoNets) : Type 0 where
  pub count : StandFrom plan.nets s.registers (count_register s)
  pub slots : StandFrom plan.nets (s.registers + 1) (nets_upto (slot_register s) (depth s))
  pub front : StandFrom plan.nets s.forward (fifo_forward s)
  pub back : StandFrom plan.nets s.backward (fifo_backward s)
  pub counting : StandFrom plan.nets s.next (count_nets s)
  pub early : StandFrom plan.nets (s.next + 6) (nets_upto (early_nets s) s.more)
  pub last : StandFrom plan.nets (slot_place s s.more) (last_nets s s.more)
  pub next_count : next_of plan s.registers ≡ Some (s.next + 5)
  pub next_slot : (i : ℕ) → i < depth s → next_of plan (slot_of s i) ≡ Some (slot_next s i)
  pub valid : Carries plan s.valid 1
  pub rden : Carries plan s.rden 1
  pub some_bits : 0 < s.bits
  pub fits : depth s < 2 ^ s.bits

-- the channels between which it stands
abbrev pub fifo_input : FifoNets → Channel (List Bits)
fifo_input s = carried (record { valid = s.valid; word = s.word; ready = s.backward + 2 })

abbrev pub fifo_output : FifoNets → Channel (List Bits)
fifo_output s = fifo_carried (record { valid = s.forward + 1; word = slot_of s 0; ready = s.rden })

-- what its registers hold in a cycle with these words, in the next one, and at the start
abbrev pub fifo_now : FifoNets → List Bits → FifoRegisters
fifo_now s words = record { count = number_of (word_at words s.registers); slots = firsts (λ i. word_at words (slot_of s i)) (depth s) }

abbrev pub fifo_after : FifoNets → List Bits → FifoRegisters
fifo_after s words = record { count = number_of (word_at words (s.next + 5)); slots = firsts (λ i. word_at words (slot_next s i)) (depth s) }

abbrev pub fifo_start : FifoNets → FifoRegisters
fifo_start s = record { count = number_of (replicate s.bits false); slots = firsts (λ i. replicate s.width false) (depth s) }

-- What a FIFO does in a run of a netlist in which it stands and in which it is read only where it is not empty: it is storage of `depth`
-- words, and counts no more. Where its input keeps its refused offers it obeys the law of a FIFO.
pub record FifoRuns (s : FifoNets) (history : List (List Bits)) : Type 0 where
  pub run : IsFifoRun (depth s) (fifo_now s) (fifo_after s) (fifo_start s) (fifo_input s) (fifo_output s) history
  pub obeys : KeepsOffers (fifo_input s) history → Obeys (fifo (depth s)) (reached (λ cycle. holding (fifo_words (fifo_after s cycle))) (holding []) history) (λ k. fifo_input s) (λ k. fifo_output s) history

abbrev pub FifosObey : Type 0
FifosObey = (plan : Plan) (s : FifoNets) (offers history : List (List Bits)) → HasFifo plan s → IsNetRun plan offers history → Always (λ cycle. ReadsHeld (fifo_output s cycle)) history → FifoRuns s history
