use Rattle.std.proofs.Common.{arith}
use Rattle.cosim_core.proofs.Steps.{offers_more, offers_done}
use Rattle.cosim_core.proofs.gathering.gather_offers.Goals as goal

pub loop-channel-preserved : goal.loop-channel-preserved
loop-channel-preserved c =
    offers_more c.loop-channel.inputs c.add_offer.new.inputs c.args.blanks.now c.args.hub.now.to_server c.loop-channel.channel c.index-blanks-channel.result c.front-offer.result _ c.loop-channel-test.true c.requires.servers
    c.index-blanks-channel.is c.front-offer.ensures.word c.in_ok-add_offer.ensures c.loop-channel.invariant

pub returns : goal.returns
returns c = offers_done c.loop-channel.inputs c.args.blanks.now c.args.hub.now.to_server c.loop-channel.channel _ (omega arith) c.requires.servers c.loop-channel.invariant
