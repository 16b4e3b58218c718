use Rattle.cosim_msgs.specs.Decoding.{found, only, refused, refused_only}
use Rattle.cosim_msgs.specs.MessageLaws.{void_means}
use Rattle.cosim_msgs.specs.Messages.{NoFault, VoidSays, void_message}
use Rattle.cosim_msgs.specs.Steps.{void_step}
use Rattle.cosim_msgs.proofs.void_message.VoidMessageCosimMessage.decode.Goals as goal

pub returns-clause-found : goal.returns-clause-found
returns-clause-found c = found void_step VoidSays NoFault c.args.octets.now (void_means c.args.octets.now) void_message c.of_octets.result c.of_octets.ensures

pub returns-clause-only : goal.returns-clause-only
returns-clause-only c = only void_step VoidSays NoFault c.args.octets.now (void_means c.args.octets.now) void_message c.of_octets.result c.of_octets.ensures

pub returns-clause-refused : goal.returns-clause-refused
returns-clause-refused c = refused void_step VoidSays NoFault c.args.octets.now (void_means c.args.octets.now) void_message c.of_octets.result c.of_octets.ensures

pub returns-clause-refused_only : goal.returns-clause-refused_only
returns-clause-refused_only c = refused_only void_step VoidSays NoFault c.args.octets.now (void_means c.args.octets.now) void_message c.of_octets.result c.of_octets.ensures
