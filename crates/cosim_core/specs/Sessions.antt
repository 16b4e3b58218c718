-- What a session runs.
use Rattle.netlist.specs.Plans.{Plan}
use Rattle.channel_lower.specs.declared.lowered.Lowered.{Lowered}
use Rattle.cosim_core.specs.declared.parts.Wiring.{Wiring}

abbrev pub lowered_of : Wiring → Plan → Lowered
lowered_of wiring plan = record { net = plan; servers = wiring.servers; clients = wiring.clients }
