use Rattle.cosim_msgs.specs.Decoding.{found, only, refused, refused_only}
use Rattle.cosim_msgs.specs.MessageLaws.{list_means}
use Rattle.cosim_msgs.specs.Messages.{ListFaulty, ListSays, empty_list}
use Rattle.cosim_msgs.specs.Steps.{list_step}
use Rattle.cosim_msgs.proofs.list_of_channels.ListOfChannelsCosimMessage.decode.Goals as goal

pub returns-clause-found : goal.returns-clause-found
returns-clause-found c = found (list_step c.args.octets.now) (ListSays c.args.octets.now) (ListFaulty c.args.octets.now) c.args.octets.now (list_means c.args.octets.now) empty_list c.of_octets.result c.of_octets.ensures

pub returns-clause-only : goal.returns-clause-only
returns-clause-only c = only (list_step c.args.octets.now) (ListSays c.args.octets.now) (ListFaulty c.args.octets.now) c.args.octets.now (list_means c.args.octets.now) empty_list c.of_octets.result c.of_octets.ensures

pub returns-clause-refused : goal.returns-clause-refused
returns-clause-refused c = refused (list_step c.args.octets.now) (ListSays c.args.octets.now) (ListFaulty c.args.octets.now) c.args.octets.now (list_means c.args.octets.now) empty_list c.of_octets.result c.of_octets.ensures

pub returns-clause-refused_only : goal.returns-clause-refused_only
returns-clause-refused_only c = refused_only (list_step c.args.octets.now) (ListSays c.args.octets.now) (ListFaulty c.args.octets.now) c.args.octets.now (list_means c.args.octets.now) empty_list c.of_octets.result c.of_octets.ensures
