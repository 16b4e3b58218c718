-- Examples of RFC 7541, Appendix C, worked by the definitions.
use Rattle.std.specs.Prelude.{◌≡◌, [], ◌∷◌, Ok, Err, codes, refl}
use Rattle.hpack.specs.declared.limits.TheConstants.{MAX_TABLE_SIZE}
use Rattle.hpack.specs.declared.stop.BlockRule.TheVariants.{NoSuchEntry}
use Rattle.hpack_huffman.specs.Code.{groups, words, word_of}
use Rattle.hpack_huffman.specs.Decoding.{decoded, collected}
use Rattle.hpack.specs.declared.header.Header.{Header}
use Rattle.hpack.specs.IntegerReading.{integer_at, more_at}
use Rattle.hpack.specs.StringReading.{string_at, head_at, body_at}
use Rattle.hpack.specs.StaticTable.{static_table, field}
use Rattle.hpack.specs.Tables.{size_of, new_table}
use Rattle.hpack.specs.RepresentationReading.{entry_at, indexed_at, entry_name_at, name_at, value_at, literal_at, read_as, representation_at}
use Rattle.hpack.specs.BlockReading.{at_most, to_end, block_at}
use Rattle.hpack_huffman.specs.Encoding.{encoded}
use Rattle.hpack.specs.Encoding.{new_writing, integer_of, groups_of, string_of, encoded_field, encoded_block, table_with_field}

-- C.1.2: 1337 in a prefix of 5 bits
pub integer_example : (integer_at 5 (0x1f ∷ 0x9a ∷ 0x0a ∷ []) ≡ Ok (1337, [])) × (integer_of 5 1337 ≡ 0x1f ∷ 0x9a ∷ 0x0a ∷ [])
unfolding integer_at more_at integer_of groups_of
integer_example = (refl, refl)

abbrev pub authority : Header
authority = field (codes ":authority") (codes "www.example.com")

-- C.4.1: a first request, and the table of one entry of 57 octets that it leaves
pub request_example :
    (block_at new_table (0x82 ∷ 0x86 ∷ 0x84 ∷ 0x41 ∷ 0x8c ∷ 0xf1 ∷ 0xe3 ∷ 0xc2 ∷ 0xe5 ∷ 0xf2 ∷ 0x3a ∷ 0x6b ∷ 0xa0 ∷ 0xab ∷ 0x90 ∷ 0xf4 ∷ 0xff ∷ [])
    ≡ Ok (record {
      headers = field (codes ":method") (codes "GET") ∷ field (codes ":scheme") (codes "http") ∷ field (codes ":path") (codes "/") ∷ authority ∷ [];
      table = record { entries = authority ∷ []; limit = MAX_TABLE_SIZE };
    }))
    × (size_of authority ≡ 57)
unfolding block_at to_end at_most representation_at read_as indexed_at literal_at name_at entry_name_at value_at entry_at static_table string_at head_at body_at integer_at more_at decoded collected words groups word_of
request_example = (refl, refl)

-- an index of 0
pub no_entry_example : block_at new_table (0x80 ∷ []) ≡ Err NoSuchEntry
unfolding block_at to_end at_most representation_at read_as indexed_at entry_at integer_at
no_entry_example = refl

-- the first block of a reply, as the encoder writes it: an entry of the static table, and a field that joins the table
pub reply_example :
    encoded_block new_writing (field (codes ":status") (codes "200") ∷ field (codes "content-type") (codes "application/grpc") ∷ [])
    ≡ 0x88 ∷ 0x5f ∷ 0x8b ∷ 0x1d ∷ 0x75 ∷ 0xd0 ∷ 0x62 ∷ 0x0d ∷ 0x26 ∷ 0x3d ∷ 0x4c ∷ 0x4d ∷ 0x65 ∷ 0x64 ∷ []
unfolding encoded_field table_with_field static_table string_of integer_of encoded word_of words groups
reply_example = refl
