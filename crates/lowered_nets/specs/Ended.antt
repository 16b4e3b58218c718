-- Lowering comes to its end, and its netlist is complete.
use Rattle.std.specs.Prelude.{ℕ, List, length, get_or}
use Rattle.std.proofs.Common.{arith}
use Rattle.netlist.specs.declared.part.Part.{Part}
use Rattle.netlist.specs.Plans.{IsPlan, IsComplete}
use Rattle.flat_design.specs.declared.element.Flat.{Flat}
use Rattle.channel_lower.specs.Lowerable.{IsLowerable, place_of}
use Rattle.channel_lower.specs.Lowering.{element_at, part_of, lowered}
use Rattle.channel_lower.specs.Owed.{owes_none}
use Rattle.channel_lower.specs.Progress.{Progress}
use Rattle.lowered_nets.specs.Before.{fitting_of}
use Rattle.lowered_nets.specs.Linked.{fitting_before, finished_so_far}

-- Where a flat list can be lowered and its netlist keeps the rules of netlists, all passes have come to their ends: all channels have their wires, all
-- to-client channels their ready nets, and all elements their registers, their forward, their backward and their next nets.
abbrev pub LoweringEnds : Type 0
LoweringEnds = (parts : List Part) (flat : Flat) (servers : ℕ) (clients : List ℕ) → IsLowerable parts flat servers clients → IsPlan (lowered parts flat servers clients).netlist
    → Progress parts flat clients (lowered parts flat servers clients) (place_of servers flat.elements (length flat.elements)) (length clients) (length flat.elements) (length flat.elements) (length flat.elements) (length flat.elements)

-- and each register has its next net.
abbrev pub LoweredNetlistsAreComplete : Type 0
LoweredNetlistsAreComplete = (parts : List Part) (flat : Flat) (servers : ℕ) (clients : List ℕ) → IsLowerable parts flat servers clients → IsPlan (lowered parts flat servers clients).netlist
    → IsComplete (lowered parts flat servers clients).netlist

pub lowering_does_end : LoweringEnds
lowering_does_end parts flat servers clients lowerable kept =
    let count = length flat.elements in
    finished_so_far parts flat servers clients lowerable (fitting_before parts flat servers clients count (fitting_of (lowered parts flat servers clients).netlist kept)) count (omega arith)

pub lowered_are_complete : LoweredNetlistsAreComplete
lowered_are_complete parts flat servers clients lowerable kept = record {
  plan_kept = kept;
  all = owes_none (lowered parts flat servers clients).netlist (λ k. part_of parts (element_at flat.elements k)) (λ k. get_or (lowered parts flat servers clients).registers k 0) (length flat.elements)
      (lowering_does_end parts flat servers clients lowerable kept).owes;
}
