use Rattle.std.proofs.Common.{◌++◌, ◌∷◌, [], ap, ◌∙◌, arith}
use Rattle.cosim_core.proofs.Steps.{rooms_more, rooms_done}
use Rattle.cosim_core.proofs.gathering.gather_rooms.Goals as goal

pub loop-channel-preserved : goal.loop-channel-preserved
loop-channel-preserved c =
    rooms_more c.loop-channel.inputs c.add.new.self c.args.hub.now.to_client c.loop-channel.channel c.has_room.result _ (omega arith) c.has_room.ensures.room
    (c.in_ok-add.ensures.added ∙ ap (λ word. c.loop-channel.inputs ++ word ∷ []) c.bit_word.ensures) c.loop-channel.invariant

pub returns : goal.returns
returns c = rooms_done c.loop-channel.inputs c.args.hub.now.to_client c.loop-channel.channel _ (omega arith) c.loop-channel.invariant
