use Rattle.std.proofs.Common.{◌≤◌}
use Rattle.hpack_huffman.specs.Code.{high_bits}
use Rattle.hpack_huffman.specs.Puts.{Puts}
use Rattle.hpack_huffman.proofs.encoding.write_octets.Given as goal

abbrev pub invariant-loop-left : goal.invariant-loop-left
invariant-loop-left l = record {
  puts : Puts l.fn.out l.out (high_bits l.count l.number) (high_bits l.left l.number);
  within : l.left ≤ l.count;
}

abbrev pub decreases-loop-left : goal.decreases-loop-left
decreases-loop-left l = l.left
