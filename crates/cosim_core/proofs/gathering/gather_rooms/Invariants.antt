use Rattle.std.proofs.Common.{◌≡◌, ◌++◌, map, drop}
use Rattle.cycle_rules.specs.Cycle.{rooms}
use Rattle.session_rules.specs.Ports.{room_word}
use Rattle.cosim_core.proofs.gathering.gather_rooms.Given as goal

abbrev pub invariant-loop-channel : goal.invariant-loop-channel
invariant-loop-channel l = l.inputs ++ map room_word (rooms (drop l.channel l.hub.to_client)) ≡ l.initial.inputs ++ map room_word (rooms l.hub.to_client)
