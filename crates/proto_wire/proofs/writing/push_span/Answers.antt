-- The key, the length and the octets are added one after another.
use Rattle.proto_wire.specs.WrittenLaws.{span_added}
use Rattle.proto_wire.proofs.writing.push_span.Goals as goal

pub returns-clause-written : goal.returns-clause-written
returns-clause-written c =
    span_added c.args.out.now c.push_varint.new.out c.push_varint-2.new.out c.push_all.new.self c.from.result c.args.number c.args.octets.now
    c.from.ensures c.in_ok-push_varint.ensures.written c.in_ok-push_varint-2.ensures.written c.in_ok-push_all.ensures.pushed
