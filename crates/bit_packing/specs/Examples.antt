-- Worked values: what is packed, and what octets give.
use Rattle.std.proofs.Common.{◌≡◌, ℕ, false, List, [], ◌∷◌, ◌++◌, map, Ok, Err, refl, ap, ◌∙◌}
use Rattle.std.specs.Prelude.{codes}
use Rattle.esi_base.specs.Bits.{bits_of}
use Rattle.esi_base.specs.Octets.{octets_of}
use Rattle.channel_types.specs.Equations.{width-Bits, width-Void}
use Rattle.channel_types.specs.declared.Class.TheVariants.{Unsigned}
use Rattle.channel_types.specs.declared.esi_type.EsiType.{EsiType}
use Rattle.channel_types.specs.declared.esi_type.EsiType.TheVariants as V
use Rattle.channel_types.specs.declared.esi_type.Field.{Field}
use Rattle.bit_packing.specs.declared.value.Value.{Value}
use Rattle.bit_packing.specs.declared.value.Value.TheVariants as W
use Rattle.bit_packing.specs.declared.value.Value.TheVariants.{outs-Number, outs-Struct, outs-Array}
use Rattle.bit_packing.specs.declared.octets.Unpacked.TheVariants.{Count, Spare, VoidBit}
use Rattle.bit_packing.specs.Packing.{own_bits, parts_of, first_highest, first_lowest, bits_of_value, field_bits}
use Rattle.bit_packing.specs.Equations.{bits-Bits, bits-Struct, bits-Array, bits-field, voids-Bits, voids-Void}
use Rattle.bit_packing.specs.OctetRules.{word_from}

-- numbers of eight bits
octet_type : EsiType
octet_type = V.Bits Unsigned 8

octet : ℕ → Value
octet n = W.Number (bits_of 8 n)

octet_bits : (n : ℕ) → bits_of_value octet_type (octet n) ≡ bits_of 8 n
unfolding octet_type octet
octet_bits n = bits-Bits Unsigned 8 (W.Number (bits_of 8 n)) ∙ ap own_bits (outs-Number (bits_of 8 n))

named : List ℕ → EsiType → Field
named name ty = record { name = name; ty = ty }

field_bits-named : (name : List ℕ) (ty : EsiType) (v : Value) → field_bits (named name ty) v ≡ bits_of_value ty v
unfolding named
field_bits-named name ty v = ap (λ p. p v) (bits-field (record { name = name; ty = ty }))

-- `struct<a: ui8, b: ui8>` with a = 3 and b = 5 is the word 0305, and its octets are `05 03`
pair_bits : bits_of_value (V.Struct (named (codes "a") octet_type ∷ named (codes "b") octet_type ∷ [])) (W.Struct (octet 3 ∷ octet 5 ∷ [])) ≡ bits_of 16 0x0305
pair_bits =
    let fields = named (codes "a") octet_type ∷ named (codes "b") octet_type ∷ [] in
    bits-Struct fields (W.Struct (octet 3 ∷ octet 5 ∷ []))
    ∙ ap (λ x. first_highest (map field_bits fields) (parts_of x)) (outs-Struct (octet 3 ∷ octet 5 ∷ []))
    ∙ ap (λ high. field_bits (named (codes "b") octet_type) (octet 5) ++ high) (field_bits-named (codes "a") octet_type (octet 3) ∙ octet_bits 3)
    ∙ ap (λ low. low ++ bits_of 8 3) (field_bits-named (codes "b") octet_type (octet 5) ∙ octet_bits 5)

pair_octets : octets_of (bits_of 16 0x0305) ≡ 5 ∷ 3 ∷ []
pair_octets = refl

-- `array<ui8, 2>` of 3 and 5 is the word 0503
array_bits : bits_of_value (V.Array octet_type 2) (W.Array (octet 3 ∷ octet 5 ∷ [])) ≡ bits_of 16 0x0503
array_bits =
    bits-Array octet_type 2 (W.Array (octet 3 ∷ octet 5 ∷ []))
    ∙ ap (λ x. first_lowest (bits_of_value octet_type) (parts_of x)) (outs-Array (octet 3 ∷ octet 5 ∷ []))
    ∙ ap (λ low. low ++ (bits_of_value octet_type (octet 5) ++ [])) (octet_bits 3)
    ∙ ap (λ high. bits_of 8 3 ++ (high ++ [])) (octet_bits 5)

-- `ui9` with 8: `08 00`; `08 02` sets a spare bit, `08` is too short
nine : EsiType
nine = V.Bits Unsigned 9

nine_octets : octets_of (bits_of 9 8) ≡ 8 ∷ 0 ∷ []
nine_octets = refl

nine_read : word_from (8 ∷ 0 ∷ []) nine ≡ Ok (bits_of 9 8)
unfolding nine
nine_read = rw (width-Bits, voids-Bits) refl

nine_spare : word_from (8 ∷ 2 ∷ []) nine ≡ Err Spare
unfolding nine
nine_spare = rw width-Bits refl

nine_short : word_from (8 ∷ []) nine ≡ Err Count
unfolding nine
nine_short = rw width-Bits refl

-- `void`: `00`; `01` sets the void's bit, `02` and `03` a spare one, no octets are too few
void_read : word_from (0 ∷ []) V.Void ≡ Ok (false ∷ [])
void_read = rw (width-Void, voids-Void) refl

void_set : word_from (1 ∷ []) V.Void ≡ Err VoidBit
void_set = rw (width-Void, voids-Void) refl

void_spare : word_from (2 ∷ []) V.Void ≡ Err Spare
void_spare = rw width-Void refl

void_spare_first : word_from (3 ∷ []) V.Void ≡ Err Spare
void_spare_first = rw width-Void refl

void_short : word_from [] V.Void ≡ Err Count
void_short = rw width-Void refl
