use Rattle.std.proofs.Common.{arith}
use Rattle.hpack_huffman.specs.Code.{high_bits}
use Rattle.hpack_huffman.proofs.PutsLemmas.{puts_octet}
use Rattle.hpack_huffman.proofs.encoding.write_octets.Goals as goal

pub loop-left-preserved : goal.loop-left-preserved
loop-left-preserved c = record {
  puts = puts_octet c.args.out.now c.loop-left.out c.add.new.self (high_bits c.args.count c.args.number) c.args.number c.loop-left.left c.loop-left.invariant.puts c.loop-left-test.true c.in_ok-add.ensures.added;
  within = omega arith;
}
