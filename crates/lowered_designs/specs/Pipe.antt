-- A small netlist in which a flat list stands: a pipe of one stage of octets, between a to-server and a to-client channel.
use Rattle.std.specs.Prelude.{◌≡◌, ℕ, zero, suc, ◌+◌, ◌<◌, ◌++◌, false, List, [], ◌∷◌, Some, None, replicate, get_or, refl}
use Rattle.std.proofs.Common.{arith}
use Rattle.std.proofs.lemmas.List.Elements.{All-cons, All-nil}
use Rattle.netlist.specs.declared.net.Net.{Net}
use Rattle.netlist.specs.declared.net.Net.TheVariants.{Input, Register, Not, And, Or, Choose}
use Rattle.netlist.specs.declared.part.Part.{Part}
use Rattle.netlist.specs.declared.part.Part.TheVariants.{Stage}
use Rattle.netlist.specs.Plans.{Plan, empty_plan, IsWidth}
use Rattle.element_rows.specs.Flat.{sum_below, total}
use Rattle.net_lists.specs.Lists.{StandFrom}
use Rattle.net_lists.specs.ListLaws.{pushed_stand}
use Rattle.net_lists.specs.Runs.{ChannelNets}
use Rattle.stage_nets.specs.declared.stage.StageNets.{StageNets}
use Rattle.stage_nets.specs.Stage.{stage_registers, stage_ready, stage_next, HasStage}
use Rattle.flat_design.specs.declared.element.Flat.{Flat}
use Rattle.channel_lower.specs.Lowerable.{FitsBetween}
use Rattle.channel_lower.specs.Lowering.{element_at, channel_at, lowered}
use Rattle.lowered_laws.specs.Standing.{StageStands}
use Rattle.lowered_laws.specs.Rows.{StandsThere}
use Rattle.lowered_designs.specs.Planned.{IsReadyToRun}

-- the inputs valid and word of channel 0 and ready of channel 1; V0, V1, D0, D1; R; and what the registers hold next
abbrev ports : List Net
ports = Input 1 ∷ Input 8 ∷ Input 1 ∷ []

abbrev registers : List Net
registers = Register (false ∷ []) ∷ Register (false ∷ []) ∷ Register (replicate 8 false) ∷ Register (replicate 8 false) ∷ []

abbrev room : List Net
room = Not 4 ∷ []

abbrev next : List Net
next = And 0 7 ∷ And 3 2 ∷ Not 9 ∷ And 3 10 ∷ Or 4 8 ∷ Or 11 12 ∷ And 11 12 ∷ Choose 4 6 1 ∷ Choose 11 5 15 ∷ []

abbrev pub pipe_netlist : Plan
pipe_netlist = record {
  nets = Input 1 ∷ Input 8 ∷ Input 1 ∷ Register (false ∷ []) ∷ Register (false ∷ []) ∷ Register (replicate 8 false) ∷ Register (replicate 8 false)
      ∷ Not 4 ∷ And 0 7 ∷ And 3 2 ∷ Not 9 ∷ And 3 10 ∷ Or 4 8 ∷ Or 11 12 ∷ And 11 12 ∷ Choose 4 6 1 ∷ Choose 11 5 15 ∷ [];
  widths = 1 ∷ 8 ∷ 1 ∷ 1 ∷ 1 ∷ 8 ∷ 8 ∷ 1 ∷ 1 ∷ 1 ∷ 1 ∷ 1 ∷ 1 ∷ 1 ∷ 1 ∷ 8 ∷ 8 ∷ [];
  nexts = None ∷ None ∷ None ∷ Some 13 ∷ Some 14 ∷ Some 16 ∷ Some 15 ∷ None ∷ None ∷ None ∷ None ∷ None ∷ None ∷ None ∷ None ∷ None ∷ None ∷ [];
}

abbrev pub pipe_parts : List Part
pipe_parts = Stage 8 ∷ []

abbrev pub pipe_list : Flat
pipe_list = record { elements = record { part = 0; sources = 0 ∷ []; sinks = 1 ∷ [] } ∷ []; widths = 8 ∷ 8 ∷ [] }

-- the nets of the two channels
abbrev pub pipe_nets : ℕ → ChannelNets
pipe_nets zero = record { valid = 0; word = 1; ready = 7 }
pipe_nets (suc c) = record { valid = 3; word = 5; ready = 2 }

-- The stage stands there, between channel 0, which is a to-server channel, and channel 1, which is handed out. No channel has FIFO signalling.
abbrev pub PipesStand : Type 0
PipesStand = StandsThere pipe_netlist pipe_parts pipe_list 1 (1 ∷ []) pipe_nets (λ c. false)

-- It is the netlist to which that list is lowered,
abbrev pub PipesAreLowered : Type 0
PipesAreLowered = (lowered pipe_parts pipe_list 1 (1 ∷ [])).netlist ≡ pipe_netlist

-- and the list meets all that the laws of lowered designs ask of one.
abbrev pub PipesAreReady : Type 0
PipesAreReady = IsReadyToRun pipe_parts pipe_list 1 (1 ∷ [])

-- ---- the law

abbrev its_stage : StageNets
its_stage = record { width = 8; registers = 3; valid = 0; word = 1; ready = 2; room = 7 }

its_registers : StandFrom pipe_netlist.nets 3 (stage_registers 8)
its_registers = pushed_stand empty_plan ports registers (room ++ next)

its_room : StandFrom pipe_netlist.nets 7 (stage_ready 3)
its_room = pushed_stand empty_plan (ports ++ registers) room next

its_next : StandFrom pipe_netlist.nets 8 (stage_next its_stage 8)
its_next = pushed_stand empty_plan (ports ++ registers ++ room) next []

has_stage : HasStage pipe_netlist its_stage 8
has_stage = record {
  registers = its_registers;
  room = its_room;
  next = its_next;
  next_v0 = refl;
  next_v1 = refl;
  next_d0 = refl;
  next_d1 = refl;
  valid = record { below = omega arith; wide = refl };
  ready = record { below = omega arith; wide = refl };
}

stage_stands : StageStands pipe_netlist (pipe_nets 0) (pipe_nets 1)
stage_stands = record { stage = its_stage; next = 8; has = has_stage; takes = refl; makes = refl }

first_below : (k : ℕ) → k < 1 → get_or (0 ∷ []) k 0 < 1
first_below zero lt = omega arith
first_below (suc k) lt = absurd (omega arith)

each_once : (f : ℕ → ℕ) → sum_below f 2 ≡ total f (0 ∷ []) + total f (1 ∷ [])
each_once f = omega arith

pub pipes_do_stand : PipesStand
pipes_do_stand = record {
  list = record { earlier = (refl, λ k lt. first_below k lt, tt); once = λ f. each_once f };
  elements = (stage_stands, tt);
  signals = (λ k lt. refl, λ k lt. refl, tt);
  ends = λ c handed. refl;
}

pub pipes_are_lowered : PipesAreLowered
pipes_are_lowered = refl

only : (k : ℕ) → k < 1 → get_or pipe_list.widths (channel_at (1 ∷ []) k) 0 ≡ 8
only zero lt = refl
only (suc k) lt = absurd (omega arith)

each_fits : (k : ℕ) → k < 1 → FitsBetween pipe_parts pipe_list.widths (element_at pipe_list.elements k)
each_fits zero lt = record {
  there = omega arith;
  good = record { low = omega arith; high = omega arith };
  takes = refl;
  makes = refl;
  width = 8;
  gives = refl;
  made = only;
}
each_fits (suc k) lt = absurd (omega arith)

each_wide : (c : ℕ) → c < 1 → IsWidth (get_or pipe_list.widths c 0)
each_wide zero lt = record { low = omega arith; high = omega arith }
each_wide (suc c) lt = absurd (omega arith)

pub pipes_are_ready : PipesAreReady
pipes_are_ready = record {
  lowerable = record {
    design = record {
      numbered = (refl, All-cons (λ c. c < 1) 0 [] (omega arith) (All-nil (λ c. c < 1)), refl);
      handed = All-cons (λ c. c < 2) 1 [] (omega arith) (All-nil (λ c. c < 2));
      once = λ f. omega arith;
    };
    fit = each_fits;
    wide = each_wide;
  };
  is_fifo = λ c. false;
  well = record { signals = (λ k lt. refl, λ k lt. refl, tt); ends = λ c handed. refl };
}
