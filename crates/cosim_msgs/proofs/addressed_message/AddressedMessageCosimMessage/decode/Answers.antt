use Rattle.cosim_msgs.specs.Decoding.{found, only, refused, refused_only}
use Rattle.cosim_msgs.specs.MessageLaws.{addressed_means}
use Rattle.cosim_msgs.specs.Messages.{AddressedFaulty, AddressedSays, empty_addressed}
use Rattle.cosim_msgs.specs.Steps.{addressed_step}
use Rattle.cosim_msgs.proofs.addressed_message.AddressedMessageCosimMessage.decode.Goals as goal

pub returns-clause-found : goal.returns-clause-found
returns-clause-found c = found (addressed_step c.args.octets.now) (AddressedSays c.args.octets.now) (AddressedFaulty c.args.octets.now) c.args.octets.now (addressed_means c.args.octets.now) empty_addressed c.of_octets.result c.of_octets.ensures

pub returns-clause-only : goal.returns-clause-only
returns-clause-only c = only (addressed_step c.args.octets.now) (AddressedSays c.args.octets.now) (AddressedFaulty c.args.octets.now) c.args.octets.now (addressed_means c.args.octets.now) empty_addressed c.of_octets.result c.of_octets.ensures

pub returns-clause-refused : goal.returns-clause-refused
returns-clause-refused c = refused (addressed_step c.args.octets.now) (AddressedSays c.args.octets.now) (AddressedFaulty c.args.octets.now) c.args.octets.now (addressed_means c.args.octets.now) empty_addressed c.of_octets.result c.of_octets.ensures

pub returns-clause-refused_only : goal.returns-clause-refused_only
returns-clause-refused_only c = refused_only (addressed_step c.args.octets.now) (AddressedSays c.args.octets.now) (AddressedFaulty c.args.octets.now) c.args.octets.now (addressed_means c.args.octets.now) empty_addressed c.of_octets.result c.of_octets.ensures
