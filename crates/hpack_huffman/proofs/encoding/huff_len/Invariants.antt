use Rattle.std.proofs.Common.{◌≡◌, ◌≤◌, ◌*◌, length, take}
use Rattle.hpack_huffman.specs.Code.{spelled}
use Rattle.hpack_huffman.proofs.encoding.huff_len.Given as goal

abbrev pub invariant-loop-octet : goal.invariant-loop-octet
invariant-loop-octet l = record {
  counted : l.bits ≡ length (spelled (take l.octet-index l.text));
  within : l.bits ≤ 30 * l.octet-index;
}
