use Rattle.std.proofs.Common.{subst, sym, ap, ◌∙◌, arith}
use Rattle.channel_lower.specs.declared.lowered.Port.{Port}
use Rattle.session_rules.specs.Ports.{blank_word, no_port, IsPort}
use Rattle.cosim_core.proofs.Walks.{mapped_more, mapped_done}
use Rattle.cosim_core.proofs.session.blank_words.Goals as goal

pub blank-requires : goal.blank-requires
blank-requires c = subst (λ (p : Port). IsPort c.args.net.now p) (sym c.port_of.ensures) (c.requires.each c.loop-channel.channel c.loop-channel-test.true)

pub loop-channel-preserved : goal.loop-channel-preserved
loop-channel-preserved c =
    mapped_more (blank_word c.args.net.now) c.loop-channel.words c.add.new.self _ c.args.ports.now c.loop-channel.channel no_port c.blank.result c.loop-channel-test.true
    (c.blank.ensures ∙ ap (blank_word c.args.net.now) c.port_of.ensures) c.in_ok-add.ensures.added c.loop-channel.invariant

pub returns : goal.returns
returns c = mapped_done (blank_word c.args.net.now) c.loop-channel.words _ c.args.ports.now c.loop-channel.channel (omega arith) c.loop-channel.invariant
