-- Worked examples. Each of them holds by computing.
use Rattle.std.specs.Prelude.{◌≡◌, [], ◌∷◌, refl}
use Rattle.grpc_calls.specs.Messages.{big_endian, big_endian_octets, prefixed_of}
use Rattle.grpc_calls.specs.Front.{front_of}
use Rattle.grpc_calls.specs.declared.prefix.Front.TheVariants.{Whole, Compressed, TooLong, Unfinished}

-- the most significant octet stands first
significance : big_endian 1 2 3 4 ≡ 16909060
significance = refl

significance_back : big_endian_octets 16909060 ≡ 1 ∷ 2 ∷ 3 ∷ 4 ∷ []
significance_back = refl

-- the empty message, and a message of two octets
empty_message : prefixed_of [] ≡ 0 ∷ 0 ∷ 0 ∷ 0 ∷ 0 ∷ []
empty_message = refl

two_octets : prefixed_of (8 ∷ 9 ∷ []) ≡ 0 ∷ 0 ∷ 0 ∷ 0 ∷ 2 ∷ 8 ∷ 9 ∷ []
two_octets = refl

-- four octets are no prefix, whatever they are
four : front_of 3 (7 ∷ 255 ∷ 255 ∷ 255 ∷ []) ≡ Unfinished
four = refl

-- a length of 4 passes the limit 3, and a length of 3 does not
beyond : front_of 3 (0 ∷ 0 ∷ 0 ∷ 0 ∷ 4 ∷ []) ≡ TooLong
beyond = refl

within : front_of 3 (0 ∷ 0 ∷ 0 ∷ 0 ∷ 3 ∷ 1 ∷ 2 ∷ []) ≡ Unfinished
within = refl

-- the flag is checked before the length
flag_first : front_of 3 (1 ∷ 0 ∷ 0 ∷ 0 ∷ 4 ∷ []) ≡ Compressed
flag_first = refl

flag_two : front_of 3 (2 ∷ 0 ∷ 0 ∷ 0 ∷ 0 ∷ []) ≡ Compressed
flag_two = refl

-- a message of one octet, and what stands after it
one_octet : front_of 3 (0 ∷ 0 ∷ 0 ∷ 0 ∷ 1 ∷ 3 ∷ 0 ∷ 0 ∷ []) ≡ Whole 1
one_octet = refl
