-- What a cycle comes to.
use Rattle.std.specs.Prelude.{◌≡◌, Bool, Option, option_to_list, IsSomeAnd, List, map}
use Rattle.netlist.specs.Nets.{Bits}
use Rattle.netlist.specs.Runs.{registers_after}
use Rattle.netlist.specs.Settled.{IsSettled}
use Rattle.cycle_rules.specs.Cycle.{after_transfers}
use Rattle.cycle_rules.specs.Lists.{zip_with}
use Rattle.channel_lower.specs.declared.lowered.Lowered.{Lowered}
use Rattle.endpoint_hub.specs.Holdings.{Holdings}
use Rattle.endpoint_hub.specs.HubCycle.{machine_of}
use Rattle.session_rules.specs.Hands.{word_out}
use Rattle.session_rules.specs.Ports.{circuit_of, start_of}
use Rattle.session_rules.specs.Replay.{leaving}
use Rattle.session_rules.specs.ReplayLemmas.{after_hands}
use Rattle.session_rules.specs.Running.{hub_inputs, Keeps}
use Rattle.session_rules.specs.RunningLemmas.{NotesCycle}

pub record CycleDone (lowered : Lowered) (hub new : Holdings) (held : List Bits) (last : Option (List Bits)) (hands : List Bool) (handed : List (Option Bits)) : Type 0 where
  pub settled : IsSomeAnd last (IsSettled lowered.net (hub_inputs lowered hub) held)
  pub machine : machine_of new (registers_after lowered.net last) ≡ after_hands (circuit_of lowered) hands (machine_of hub held)
  pub noted : NotesCycle hub.journal new.journal (after_transfers (circuit_of lowered) (machine_of hub held)).to_client hands
  pub words : handed ≡ zip_with word_out (after_transfers (circuit_of lowered) (machine_of hub held)).to_client hands
  pub left : map option_to_list handed ≡ leaving (circuit_of lowered) (start_of lowered) new.journal.taken new.journal.handed hub.journal.cycles
  pub streams : new.has_stream ≡ hub.has_stream
  pub keeps : Keeps lowered new (registers_after lowered.net last)
