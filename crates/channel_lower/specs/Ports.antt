-- Where the endpoints of a lowered netlist are.
use Rattle.std.specs.Prelude.{ℕ, List, map}
use Rattle.buffer_stage.specs.Passes.{wire_at, ready_at}
use Rattle.channel_lower.specs.declared.lowering.Lowering.{Lowering}
use Rattle.channel_lower.specs.declared.lowered.Port.{Port}

-- the nets of a channel
abbrev pub port_of : Lowering → ℕ → Port
port_of s channel = record { valid = (wire_at s.wires channel).valid; word = (wire_at s.wires channel).word; ready = ready_at s.readies channel }

abbrev pub ports_of : Lowering → List ℕ → List Port
ports_of s channels = map (port_of s) channels
