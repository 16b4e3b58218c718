-- What stands first in the octets of a stream, computed.
use Rattle.std.specs.Prelude.{ℕ, ◌==◌, nat_lt, List, [], ◌∷◌, length, if◌then◌else◌}
use Rattle.grpc_calls.specs.Messages.{big_endian}
use Rattle.grpc_calls.specs.declared.prefix.Front.{Front}
use Rattle.grpc_calls.specs.declared.prefix.Front.TheVariants.{Whole, Compressed, TooLong, Unfinished}

-- a prefix and as many octets after it: the flag is checked first, then the length
abbrev pub front_of_prefix : ℕ → ℕ → ℕ → ℕ → Front
front_of_prefix limit flag count following =
    if flag == 0
    then (if nat_lt limit count then TooLong else (if nat_lt following count then Unfinished else Whole count))
    else Compressed

abbrev pub front_of : ℕ → List ℕ → Front
front_of limit [] = Unfinished
front_of limit (flag ∷ []) = Unfinished
front_of limit (flag ∷ a ∷ []) = Unfinished
front_of limit (flag ∷ a ∷ b ∷ []) = Unfinished
front_of limit (flag ∷ a ∷ b ∷ c ∷ []) = Unfinished
front_of limit (flag ∷ a ∷ b ∷ c ∷ d ∷ rest) = front_of_prefix limit flag (big_endian a b c d) (length rest)
