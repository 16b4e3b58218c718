-- A session over a lowered netlist, and what it keeps: its circuit and its rings stand for its journal.
use Rattle.std.specs.Prelude.{◌≡◌, ℕ, List, Option, length}
use Rattle.std.specs.List.{AllByRecursion}
use Rattle.netlist.specs.Nets.{Bits}
use Rattle.netlist.specs.Plans.{IsComplete}
use Rattle.netlist.specs.Runs.{registers_after}
use Rattle.cycle_rules.specs.Cycle.{Machine, HasRings, offers, rooms}
use Rattle.cycle_rules.specs.Rings.{ring_at}
use Rattle.channel_lower.specs.declared.lowered.Lowered.{Lowered}
use Rattle.endpoint_hub.specs.Holdings.{Holdings}
use Rattle.endpoint_hub.specs.HubCycle.{machine_of}
use Rattle.session_rules.specs.Ports.{port_at, port_width, blanks_of, inputs_of, circuit_of, start_of, HasPorts}
use Rattle.session_rules.specs.Replay.{StandsFor}

-- what is run, its rings and journal, the words of all nets in the last cycle, where there was one, and the word that each to-client
-- channel handed in it
pub record Running : Type 0 where
  pub lowered : Lowered
  pub hub : Holdings
  pub last : Option (List Bits)
  pub handed : List (Option Bits)

-- the words of the registers, each at its register's place
abbrev pub registers_of : Running → List Bits
registers_of s = registers_after s.lowered.net s.last

-- the circuit and its rings
abbrev pub machine_in : Running → Machine (List Bits)
machine_in s = machine_of s.hub (registers_of s)

-- the words of the inputs in the cycle that comes
abbrev pub hub_inputs : Lowered → Holdings → List Bits
hub_inputs lowered hub = inputs_of (blanks_of lowered) (offers hub.to_server) (rooms hub.to_client)

abbrev pub inputs_in : Running → List Bits
inputs_in s = hub_inputs s.lowered s.hub

-- the words of a to-server channel are as wide as its port
abbrev pub AreWide : Lowered → List (List Bits) → Type 0
AreWide lowered rings = (channel : ℕ) → AllByRecursion (λ word. length word ≡ port_width lowered.net (port_at lowered.servers channel)) (ring_at rings channel)

-- what a session keeps
pub record Keeps (lowered : Lowered) (hub : Holdings) (held : List Bits) : Type 0 where
  pub ports : HasPorts lowered
  pub complete : IsComplete lowered.net
  pub rings : HasRings (circuit_of lowered) (machine_of hub held)
  pub wide : AreWide lowered hub.to_server
  pub stands : StandsFor (circuit_of lowered) (start_of lowered) (machine_of hub held) hub.journal

-- a session that may be used: all but one that ran out of memory in a cycle
abbrev pub IsRunning : Running → Type 0
IsRunning s = Keeps s.lowered s.hub (registers_of s)
