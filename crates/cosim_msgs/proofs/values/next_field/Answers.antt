use Rattle.cosim_msgs.proofs.Spans.{span_is_within}
use Rattle.cosim_msgs.proofs.values.next_field.Goals as goal

pub returns-clause-within : goal.returns-clause-within
returns-clause-within c = span_is_within c.args.octets.now c.args.at c.read_field.result c.requires c.read_field.ensures.exact
