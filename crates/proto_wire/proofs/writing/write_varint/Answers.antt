-- The octets that are written are a varint, and a shortest one.
use Rattle.std.proofs.Common.{◌<◌, ◌^◌, arith}
use Rattle.proto_wire.specs.WrittenLaws.{varint_again}
use Rattle.proto_wire.proofs.writing.write_varint.Goals as goal

pub returns-then-is_err-clause-shortest : goal.returns-then-is_err-clause-shortest
returns-then-is_err-clause-shortest c = let h : c.args.value < 2 ^ 64 = omega arith in varint_again c.args.value h

pub returns-else-is_err-clause-shortest : goal.returns-else-is_err-clause-shortest
returns-else-is_err-clause-shortest c = let h : c.args.value < 2 ^ 64 = omega arith in varint_again c.args.value h
