-- The octets of a word: the least significant octet first, spare bits 0.
use Rattle.std.specs.Prelude.{◌≡◌, ℕ, suc, ◌+◌, ◌-◌, ◌*◌, ◌/◌, ◌%◌, ◌^◌, ◌<◌, ◌≤◌, Bool, List, [], ◌∷◌, ◌++◌, length}
use Rattle.std.specs.List.{flat_map}
use Rattle.std.proofs.Common.{sym, ◌∙◌, ap, arith}
use Rattle.std.proofs.Math.Nat.{mul_comm, mod-eq_of_lt, lt_of_lt_of_le}
use Rattle.std.proofs.Math.Pow.{pow_mono}
use Rattle.esi_base.specs.Bits.{number_of, bits_of, number_of-bits_of, length-bits_of}
use Rattle.esi_base.specs.BitLists.{number_of-below, bits_of-joined}
use Rattle.esi_base.specs.Parts.{whole, parts, part, AreSmall, field_in_part, parts-whole, whole-parts}

-- as many octets as hold the bits
abbrev pub octet_count : List Bool → ℕ
octet_count bits = (length bits + 7) / 8

abbrev pub octets_of : List Bool → List ℕ
octets_of bits = parts 8 (octet_count bits) (number_of bits)

-- an octet of a limb is the octet of the number at the limb's place and the octet's
pub octet_in_limb : (n at : ℕ) → n / 2 ^ (64 * (at / 8)) % 2 ^ 64 / 2 ^ (8 * (at % 8)) % 2 ^ 8 ≡ part 8 n at
octet_in_limb n at = field_in_part n 64 (at / 8) (8 * (at % 8)) (56 - 8 * (at % 8)) 8 (8 * at) (omega arith) (omega arith)

enough : (width : ℕ) → width ≤ 8 * ((width + 7) / 8)
enough width = omega arith

-- the octets of a word are its number
pub whole-octets_of : (bits : List Bool) → whole 8 (octets_of bits) ≡ number_of bits
whole-octets_of bits =
    whole-parts 8 (octet_count bits) (number_of bits)
    ∙ mod-eq_of_lt (lt_of_lt_of_le (number_of-below bits) (pow_mono (enough (length bits))))

-- and from octets, whose spare bits are 0, to bits and back
pub octets_of-bits_of : (width : ℕ) (octets : List ℕ) → AreSmall 8 octets → length octets ≡ (width + 7) / 8 → whole 8 octets < 2 ^ width → octets_of (bits_of width (whole 8 octets)) ≡ octets
octets_of-bits_of width octets small count fits =
    ap (λ n. parts 8 (octet_count (bits_of width (whole 8 octets))) n) (number_of-bits_of width (whole 8 octets) ∙ mod-eq_of_lt fits)
    ∙ ap (λ k. parts 8 k (whole 8 octets)) (ap (λ k. (k + 7) / 8) (length-bits_of width (whole 8 octets)) ∙ sym count)
    ∙ parts-whole 8 octets small

-- the bits of a number are those of its parts, one part after the other
pub bits_of-whole : (w : ℕ) (xs : List ℕ) → AreSmall w xs → bits_of (w * length xs) (whole w xs) ≡ flat_map (bits_of w) xs
bits_of-whole w [] h = ap (λ k. bits_of k 0) (let e : w * 0 ≡ 0 = omega arith in e)
bits_of-whole w (x ∷ xs) h =
    ap (λ k. bits_of k (x + 2 ^ w * whole w xs)) (let e : w * suc (length xs) ≡ w + w * length xs = omega arith in e)
    ∙ ap (λ n. bits_of (w + w * length xs) n) (ap (λ m. x + m) (mul_comm (2 ^ w) (whole w xs)) ∙ omega arith)
    ∙ bits_of-joined (w * length xs) w (whole w xs) x h.0
    ∙ ap (λ bits. bits_of w x ++ bits) (bits_of-whole w xs h.1)
