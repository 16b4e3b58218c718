use Rattle.std.proofs.Common.{◌++◌}
use Rattle.proto_wire.specs.declared.limit.TheConstants.{SPAN_TYPE}
use Rattle.proto_wire.specs.Written.{key_of, varint_of}
use Rattle.cosim_msgs.specs.Spelling.{desc_spelling}
use Rattle.cosim_msgs.proofs.Written.{span_ends, front_before}
use Rattle.cosim_msgs.proofs.list_of_channels.write_channel.Goals as goal

pub returns-clause-written : goal.returns-clause-written
returns-clause-written c =
    span_ends c.push.result c.args.out.now c.write_head.new.out c.push.new.out (desc_spelling c.args.desc.now) 1 c.in_ok-len.len c.in_ok-write_head.ensures.written (rw c.in_ok-len.ensures.ok_part at c.encoded_len.ensures) c.push.ensures.written

pub returns-clause-front : goal.returns-clause-front
returns-clause-front c =
    front_before c.args.out.now c.write_head.new.out c.push.new.out (key_of 1 SPAN_TYPE ++ varint_of c.in_ok-len.len) c.in_ok-write_head.ensures.written c.push.ensures.front
