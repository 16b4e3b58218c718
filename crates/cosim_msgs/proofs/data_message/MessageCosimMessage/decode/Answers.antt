use Rattle.cosim_msgs.specs.Decoding.{found, only, refused, refused_only}
use Rattle.cosim_msgs.specs.MessageLaws.{message_means}
use Rattle.cosim_msgs.specs.Messages.{MessageSays, NoFault, empty_message}
use Rattle.cosim_msgs.specs.Steps.{message_step}
use Rattle.cosim_msgs.proofs.data_message.MessageCosimMessage.decode.Goals as goal

pub returns-clause-found : goal.returns-clause-found
returns-clause-found c = found (message_step c.args.octets.now) (MessageSays c.args.octets.now) NoFault c.args.octets.now (message_means c.args.octets.now) empty_message c.of_octets.result c.of_octets.ensures

pub returns-clause-only : goal.returns-clause-only
returns-clause-only c = only (message_step c.args.octets.now) (MessageSays c.args.octets.now) NoFault c.args.octets.now (message_means c.args.octets.now) empty_message c.of_octets.result c.of_octets.ensures

pub returns-clause-refused : goal.returns-clause-refused
returns-clause-refused c = refused (message_step c.args.octets.now) (MessageSays c.args.octets.now) NoFault c.args.octets.now (message_means c.args.octets.now) empty_message c.of_octets.result c.of_octets.ensures

pub returns-clause-refused_only : goal.returns-clause-refused_only
returns-clause-refused_only c = refused_only (message_step c.args.octets.now) (MessageSays c.args.octets.now) NoFault c.args.octets.now (message_means c.args.octets.now) empty_message c.of_octets.result c.of_octets.ensures
