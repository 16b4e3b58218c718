-- The laws of the code.
use Rattle.std.specs.Prelude.{ℕ, ◌≡◌, List, Result, Ok}
use Rattle.hpack_huffman.specs.declared.stop.HuffmanRule.{HuffmanRule}
use Rattle.hpack_huffman.specs.Decoding.{decoded}
use Rattle.hpack_huffman.specs.DecodingLaws.{decoded_from}
use Rattle.hpack_huffman.specs.EncodingLaws.{decoded-encoded, encoded_alone}
use Rattle.hpack_huffman.specs.Laws.{ReadAgain, OneText, OneCode}

pub read_again : ReadAgain
read_again = decoded-encoded

text_of : (one other : List ℕ) (r : Result (List ℕ) HuffmanRule) → r ≡ Ok one → r ≡ Ok other → one ≡ other
text_of one other r e f = cc

pub one_text : OneText
one_text octets one other h g = text_of one other (decoded octets) (decoded_from octets one h) (decoded_from octets other g)

pub one_code : OneCode
one_code code text octets h = encoded_alone code text h.padding octets h.short h.whole
