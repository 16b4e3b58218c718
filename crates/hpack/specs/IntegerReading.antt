-- Reading an integer, octet by octet.
use Rattle.std.specs.Prelude.{ℕ, ◌+◌, ◌*◌, ◌%◌, ◌^◌, nat_lt, List, [], ◌∷◌, Result, Ok, Err, if◌then◌else◌}
use Rattle.hpack.specs.declared.limits.TheConstants.{INTEGER_VALUES}
use Rattle.hpack.specs.declared.stop.BlockRule.{BlockRule}
use Rattle.hpack.specs.declared.stop.BlockRule.TheVariants.{CutOrTooLarge}
use Rattle.hpack.specs.Integers.{full_prefix}

-- the octets after a full prefix, each with its weight
unfoldable pub more_at : List ℕ → ℕ → List ℕ → Result (ℕ × List ℕ) BlockRule
more_at [] sum octets = Err CutOrTooLarge
more_at (weight ∷ weights) sum [] = Err CutOrTooLarge
more_at (weight ∷ weights) sum (octet ∷ octets) =
    let now = sum + octet % 128 * weight in
    if nat_lt now INTEGER_VALUES then (if nat_lt octet 128 then Ok (now, octets) else more_at weights now octets) else Err CutOrTooLarge

abbrev pub weights_of_groups : List ℕ
weights_of_groups = 1 ∷ 128 ∷ 16384 ∷ 2097152 ∷ 268435456 ∷ []

-- an integer in a prefix of so many bits, and the octets after it
unfoldable pub integer_at : ℕ → List ℕ → Result (ℕ × List ℕ) BlockRule
integer_at bits [] = Err CutOrTooLarge
integer_at bits (octet ∷ octets) =
    if nat_lt (octet % 2 ^ bits) (full_prefix bits) then Ok (octet % 2 ^ bits, octets) else more_at weights_of_groups (full_prefix bits) octets
