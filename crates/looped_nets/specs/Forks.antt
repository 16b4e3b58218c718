-- The nets of a fork: each word to several branches, each of which has a flag that says whether it has had the word.
use Rattle.std.specs.Prelude.{◌≡◌, ℕ, zero, suc, ◌+◌, ◌-◌, ◌*◌, ◌<◌, ◌≤◌, ◌++◌, false, List, [], ◌∷◌, Some, length, replicate, get_or}
use Rattle.netlist.specs.declared.limits.TheConstants.{MIN_BRANCHES, MAX_BRANCHES}
use Rattle.netlist.specs.declared.net.Net.{Net}
use Rattle.netlist.specs.declared.net.Net.TheVariants.{Register, Not, And, Or}
use Rattle.netlist.specs.Nets.{Bits}
use Rattle.netlist.specs.Plans.{Plan, next_of}
use Rattle.element_laws.specs.Histories.{Channel, KeepsOffers, reached}
use Rattle.element_laws.specs.Elements.{Contents}
use Rattle.element_laws.specs.Elements.Element.{fork}
use Rattle.element_laws.specs.Laws.{Obeys}
use Rattle.element_wires.specs.Wires.{firsts}
use Rattle.net_lists.specs.Lists.{StandFrom, Carries}
use Rattle.net_lists.specs.Runs.{bit_at, carried, IsNetRun}
use Rattle.looped_nets.specs.declared.fork.ForkPlaces.{ForkPlaces}
use Rattle.looped_nets.specs.Loops.{nets_upto, linked}

-- Between which nets a fork of `more` + 2 branches stands, and where its nets do: the valid and the word of its input, the ready of each
-- branch, its first register, and the first one of its forward, backward and next nets.
pub record ForkNets : Type 0 where
  pub more : ℕ
  pub valid : ℕ
  pub word : ℕ
  pub readies : ℕ → ℕ
  pub registers : ℕ
  pub forward : ℕ
  pub backward : ℕ
  pub next : ℕ

abbrev pub branches : ForkNets → ℕ
branches s = suc (suc s.more)

-- F0, F1, ..
abbrev pub fork_registers : ℕ → List Net
fork_registers count = nets_upto (λ i. Register (false ∷ []) ∷ []) count

-- for each branch: u = Not Fi; ovi = And iv u
abbrev pub branch_nets : ForkNets → ℕ → List Net
branch_nets s i = Not (s.registers + i) ∷ And s.valid (s.forward + 2 * i) ∷ []

abbrev pub fork_forward : ForkNets → List Net
fork_forward s = nets_upto (branch_nets s) (branches s)

-- first, for each branch: wi = Or Fi ori
abbrev pub wait_nets : ForkNets → ℕ → List Net
wait_nets s i = Or (s.registers + i) (s.readies i) ∷ []

abbrev pub fork_waits : ForkNets → List Net
fork_waits s = nets_upto (wait_nets s) (branches s)

-- then t1 = And w0 w1, and for each further branch i: ti = And t(i-1) wi
abbrev pub chain : ForkNets → ℕ → ℕ
chain s zero = s.backward
chain s (suc i) = s.backward + branches s + i

abbrev pub chain_nets : ForkNets → ℕ → List Net
chain_nets s i = And (chain s i) (s.backward + suc i) ∷ []

abbrev pub fork_chain : ForkNets → List Net
fork_chain s = nets_upto (chain_nets s) (suc s.more)

-- the ready of its input is the last of these
abbrev pub fork_ready : ForkNets → ℕ
fork_ready s = s.backward + branches s + s.more

-- a = And iv ir; c = Not a; then for each branch: x = And ovi ori; y = Or Fi x; f = And c y
abbrev pub taken_nets : ForkNets → List Net
taken_nets s = And s.valid (fork_ready s) ∷ Not s.next ∷ []

abbrev pub flag_place : ForkNets → ℕ → ℕ
flag_place s i = s.next + 2 + 3 * i

abbrev pub flag_nets : ForkNets → ℕ → List Net
flag_nets s i = And (s.forward + 2 * i + 1) (s.readies i) ∷ Or (s.registers + i) (flag_place s i) ∷ And (s.next + 1) (flag_place s i + 1) ∷ []

abbrev pub fork_flags : ForkNets → List Net
fork_flags s = nets_upto (flag_nets s) (branches s)

-- ---- the passes

-- A fork between these nets, with these ready nets of its branches, whose nets of what its flags are next stand from a place on.
abbrev pub fork_of : ForkPlaces → List ℕ → ℕ → ForkNets
fork_of p readies at = record {
  more = length readies - 2;
  valid = p.valid;
  word = p.word;
  readies = λ i. get_or readies i 0;
  registers = p.registers;
  forward = p.forward;
  backward = p.backward;
  next = at;
}

-- the forward nets of so many branches, from a place on
abbrev pub fork_front : ℕ → ℕ → ℕ → ℕ → List Net
fork_front count registers valid at = nets_upto (λ i. Not (registers + i) ∷ And valid (at + 2 * i) ∷ []) count

-- the backward nets
abbrev pub fork_back : ℕ → List ℕ → ℕ → List Net
fork_back registers readies at =
    let s : ForkNets = fork_of (record { valid = 0; word = 0; registers = registers; forward = 0; backward = at }) readies 0 in
    fork_waits s ++ fork_chain s

-- the nets of what the flags are next
abbrev pub fork_next : ForkPlaces → List ℕ → ℕ → List Net
fork_next p readies at = taken_nets (fork_of p readies at) ++ fork_flags (fork_of p readies at)

-- the register of a branch, and its next net
abbrev pub flag_register : ℕ → ℕ → ℕ
flag_register registers i = registers + i

abbrev pub flag_next : ℕ → ℕ → ℕ
flag_next at i = at + 2 + 3 * i + 2

abbrev pub fork_linked : Plan → ℕ → ℕ → ℕ → Plan
fork_linked plan registers at count = linked plan (flag_register registers) (flag_next at) count

-- how many branches a fork may have
pub record AreBranches (count : ℕ) : Type 0 where
  pub some : MIN_BRANCHES ≤ count
  pub few : count ≤ MAX_BRANCHES

-- the forward nets of a fork may be pushed
pub record IsForkFrontReady (plan : Plan) (count registers valid : ℕ) : Type 0 where
  pub branches : AreBranches count
  pub flags : (i : ℕ) → i < count → Carries plan (registers + i) 1
  pub valid_bit : Carries plan valid 1

-- the backward nets of a fork may be pushed
pub record IsForkBackReady (plan : Plan) (registers : ℕ) (readies : List ℕ) : Type 0 where
  pub branches : AreBranches (length readies)
  pub flags : (i : ℕ) → i < length readies → Carries plan (registers + i) 1
  pub ready_bits : (i : ℕ) → i < length readies → Carries plan (get_or readies i 0) 1

-- the nets of what its flags are next may be pushed
pub record IsForkReady (plan : Plan) (p : ForkPlaces) (readies : List ℕ) : Type 0 where
  pub branches : AreBranches (length readies)
  pub registers : StandFrom plan.nets p.registers (fork_registers (length readies))
  pub valid : Carries plan p.valid 1
  pub offers : (i : ℕ) → i < length readies → Carries plan (p.forward + 2 * i + 1) 1
  pub room : Carries plan (fork_ready (fork_of p readies 0)) 1
  pub ready_bits : (i : ℕ) → i < length readies → Carries plan (get_or readies i 0) 1

-- ---- the law

-- a fork stands in a netlist; the next net of Fi is f
pub record HasFork (plan : Plan) (s : ForkNets) : Type 0 where
  pub registers : StandFrom plan.nets s.registers (fork_registers (branches s))
  pub front : StandFrom plan.nets s.forward (fork_forward s)
  pub waits : StandFrom plan.nets s.backward (fork_waits s)
  pub links : StandFrom plan.nets (s.backward + branches s) (fork_chain s)
  pub taken : StandFrom plan.nets s.next (taken_nets s)
  pub flags : StandFrom plan.nets (s.next + 2) (fork_flags s)
  pub next_flag : (i : ℕ) → i < branches s → next_of plan (s.registers + i) ≡ Some (flag_place s i + 2)
  pub valid : Carries plan s.valid 1
  pub readies : (i : ℕ) → i < branches s → Carries plan (s.readies i) 1

-- what a fork holds, where its flags are the bits of these nets
abbrev pub with_flags : ForkNets → (ℕ → ℕ) → List Bits → Contents
with_flags s nets words = record { held = []; state = []; flags = firsts (λ i. bit_at (nets i) words) (branches s) }

abbrev pub fork_input : ForkNets → Channel (List Bits)
fork_input s = carried (record { valid = s.valid; word = s.word; ready = fork_ready s })

abbrev pub fork_output : ForkNets → ℕ → Channel (List Bits)
fork_output s i = carried (record { valid = s.forward + 2 * i + 1; word = s.word; ready = s.readies i })

-- A fork that stands in a netlist obeys its law in every run: what went out on a branch is what came in, followed by the offered word where its
-- flag is 1.
abbrev pub ForksObey : Type 0
ForksObey = (plan : Plan) (s : ForkNets) (offers history : List (List Bits)) → HasFork plan s → IsNetRun plan offers history → KeepsOffers (fork_input s) history
    → Obeys (fork (branches s)) (reached (with_flags s (λ i. flag_place s i + 2)) (record { held = []; state = []; flags = replicate (branches s) false }) history) (λ k. fork_input s) (fork_output s) history
