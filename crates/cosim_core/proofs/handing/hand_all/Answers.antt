use Rattle.std.proofs.Common.{rules, ◌∙◌, arith}
use Rattle.cosim_core.proofs.Steps.{notes_more, notes_done, words_more, words_done, pops_more, pops_done, set_count}
use Rattle.cosim_core.proofs.handing.hand_all.Goals as goal

pub loop-channel-preserved : goal.loop-channel-preserved
loop-channel-preserved c =
    let step = c.in_ok-word.ensures in
    let before = c.loop-channel.invariant in
    record {
      to_client = pops_more c.loop-channel.hub.to_client c.hand_at.new.hub.to_client _ c.args.hands.now c.loop-channel.channel _ c.loop-channel-test.true before.count (search rules) step.to_client before.to_client;
      count = set_count c.loop-channel.hub.to_client c.hand_at.new.hub.to_client c.loop-channel.channel _ _ step.to_client before.count;
      to_server = step.to_server ∙ before.to_server;
      has_stream = step.has_stream ∙ before.has_stream;
      noted = notes_more c.loop-channel.hub c.hand_at.new.hub c.args.hands.now c.loop-channel.channel _ c.in_ok-word.word _ c.loop-channel-test.true before.count (search rules) step before.noted;
      taken = step.taken ∙ before.taken;
      attached = step.attached ∙ before.attached;
      cycles = step.cycles ∙ before.cycles;
      words = words_more c.loop-channel.hub.to_client c.hand_at.new.hub.to_client c.args.hands.now c.loop-channel.channel _ c.in_ok-word.word c.loop-channel.handed c.add.new.self _ c.loop-channel-test.true before.count (search rules) step.to_client step.word_is c.in_ok-add.ensures.added before.words;
    }

pub returns-clause-to_client : goal.returns-clause-to_client
returns-clause-to_client c = pops_done c.loop-channel.hub.to_client _ c.args.hands.now c.loop-channel.channel (omega arith) c.loop-channel.invariant.count c.loop-channel.invariant.to_client

pub returns-clause-noted : goal.returns-clause-noted
returns-clause-noted c = notes_done c.loop-channel.hub.journal.handed c.loop-channel.hub.journal.cycles c.loop-channel.hub.to_client c.args.hands.now c.loop-channel.channel _ (omega arith) c.loop-channel.invariant.count c.loop-channel.invariant.noted

pub returns-clause-words : goal.returns-clause-words
returns-clause-words c = words_done c.loop-channel.handed c.loop-channel.hub.to_client c.args.hands.now c.loop-channel.channel _ (omega arith) c.loop-channel.invariant.count c.loop-channel.invariant.words
