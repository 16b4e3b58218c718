-- A span that was added is read again.
use Rattle.proto_wire.specs.WrittenLaws.{added_again}
use Rattle.proto_wire.proofs.writing.write_span.Goals as goal

pub returns-else-is_err-clause-read_again : goal.returns-else-is_err-clause-read_again
returns-else-is_err-clause-read_again c =
    added_again c.push_span-written.result c.args.out.now c.push_span-written.new.out c.args.number c.args.octets.now c.requires.least c.requires.most c.push_span-written.ensures.small c.push_span-written.ensures.written
