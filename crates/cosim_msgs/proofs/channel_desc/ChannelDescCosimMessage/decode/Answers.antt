use Rattle.cosim_msgs.specs.Decoding.{found, only, refused, refused_only}
use Rattle.cosim_msgs.specs.MessageLaws.{desc_means}
use Rattle.cosim_msgs.specs.Messages.{DescFaulty, DescSays, empty_desc}
use Rattle.cosim_msgs.specs.Steps.{desc_step}
use Rattle.cosim_msgs.proofs.channel_desc.ChannelDescCosimMessage.decode.Goals as goal

pub returns-clause-found : goal.returns-clause-found
returns-clause-found c = found (desc_step c.args.octets.now) (DescSays c.args.octets.now) (DescFaulty c.args.octets.now) c.args.octets.now (desc_means c.args.octets.now) empty_desc c.of_octets.result c.of_octets.ensures

pub returns-clause-only : goal.returns-clause-only
returns-clause-only c = only (desc_step c.args.octets.now) (DescSays c.args.octets.now) (DescFaulty c.args.octets.now) c.args.octets.now (desc_means c.args.octets.now) empty_desc c.of_octets.result c.of_octets.ensures

pub returns-clause-refused : goal.returns-clause-refused
returns-clause-refused c = refused (desc_step c.args.octets.now) (DescSays c.args.octets.now) (DescFaulty c.args.octets.now) c.args.octets.now (desc_means c.args.octets.now) empty_desc c.of_octets.result c.of_octets.ensures

pub returns-clause-refused_only : goal.returns-clause-refused_only
returns-clause-refused_only c = refused_only (desc_step c.args.octets.now) (DescSays c.args.octets.now) (DescFaulty c.args.octets.now) c.args.octets.now (desc_means c.args.octets.now) empty_desc c.of_octets.result c.of_octets.ensures
