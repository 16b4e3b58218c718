use Rattle.std.proofs.Common.{[]}
use Rattle.cosim_msgs.specs.Spelling.{desc_spelling}
use Rattle.cosim_msgs.specs.ReadAgain.{desc_again}
use Rattle.cosim_msgs.proofs.Written.{read_again}
use Rattle.cosim_msgs.proofs.channel_desc.ChannelDescCosimMessage.encode.Goals as goal

pub returns-clause-read_again : goal.returns-clause-read_again
returns-clause-read_again c =
    read_again c.push-written.result c.settle.result c.args.out.now c.push-written.new.out c.settle.new.out (desc_spelling c.args.self.now) c.settle.ensures.same c.push-written.ensures.written c.settle.ensures.stays c.settle.ensures.small (λ fits texts. desc_again [] c.args.self.now fits c.requires texts)
