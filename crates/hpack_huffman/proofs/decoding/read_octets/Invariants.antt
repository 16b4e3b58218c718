use Rattle.std.proofs.Common.{◌≡◌, drop, take, length}
use Rattle.hpack_huffman.specs.Decoding.{onto}
use Rattle.hpack_huffman.specs.Halves.{read_from}
use Rattle.hpack_huffman.proofs.decoding.read_octets.Given as goal

abbrev pub invariant-loop-octet : goal.invariant-loop-octet
invariant-loop-octet l = record {
  rest : onto l.out (read_from l.node (drop l.octet-index l.octets)) ≡ onto l.fn.out (read_from 0 l.octets);
  prefix : take (length l.fn.out) l.out ≡ l.fn.out;
}
