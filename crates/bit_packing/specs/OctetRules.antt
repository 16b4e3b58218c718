-- Which octets are those of a packing, and which rules others break.
use Rattle.std.specs.Prelude.{ℕ, ◌+◌, ◌/◌, ◌^◌, ◌≤◌, ◌==◌, Bool, if◌then◌else◌, List, length, Result, Ok, Err, nat_lt}
use Rattle.esi_base.specs.Bits.{bits_of}
use Rattle.esi_base.specs.Parts.{whole}
use Rattle.channel_types.specs.Types.{width_of}
use Rattle.channel_types.specs.declared.esi_type.EsiType.{EsiType}
use Rattle.bit_packing.specs.declared.octets.Unpacked.{Unpacked}
use Rattle.bit_packing.specs.declared.octets.Unpacked.TheVariants.{Count, Spare, VoidBit}
use Rattle.bit_packing.specs.Voids.{voids_of, has_marked_one}

-- the number of a rule
abbrev pub rule_number : Unpacked → ℕ
rule_number Count = 111
rule_number Spare = 112
rule_number VoidBit = 113

-- as many octets as hold a value of the type
abbrev pub octets_for : EsiType → ℕ
octets_for ty = (width_of ty + 7) / 8

-- the bits of octets, as many as the type is wide
abbrev pub bits_from : List ℕ → EsiType → List Bool
bits_from octets ty = bits_of (width_of ty) (whole 8 octets)

-- a bit past the type's width is 1
abbrev pub SetsSpare : List ℕ → EsiType → Type 0
SetsSpare octets ty = 2 ^ width_of ty ≤ whole 8 octets

-- The word whose octets these are, or the rule that they break: the number of octets is checked first, then the bits past
-- the width, then those of voids.
abbrev pub word_from : List ℕ → EsiType → Result (List Bool) Unpacked
word_from octets ty =
    if length octets == octets_for ty
    then (if nat_lt (whole 8 octets) (2 ^ width_of ty) then (if has_marked_one (voids_of ty) (bits_from octets ty) then Err VoidBit else Ok (bits_from octets ty)) else Err Spare)
    else Err Count
