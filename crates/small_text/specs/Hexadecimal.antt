-- How octets are written in hexadecimal.
use Rattle.std.specs.Prelude.{ℕ, ◌≡◌, ◌+◌, ◌-◌, ◌*◌, ◌/◌, ◌%◌, ◌&&◌, nat_lt, nat_le, Option, Some, None, List, [], ◌∷◌, if◌then◌else◌, codes, refl}

-- The digits of numbers below 16 are 0 to 9 and a to f.
abbrev pub hex_digit : ℕ → ℕ
hex_digit number = if nat_lt number 10 then 48 + number else 87 + number

-- Each octet is two digits, the one for its greater part first.
unfoldable pub hex_of : List ℕ → List ℕ
hex_of [] = []
hex_of (octet ∷ octets) = hex_digit (octet / 16) ∷ hex_digit (octet % 16) ∷ hex_of octets

-- The number that a digit stands for; an upper-case letter is no digit.
abbrev pub hex_value : ℕ → Option ℕ
hex_value digit =
    if nat_le 48 digit && nat_le digit 57 then Some (digit - 48)
    else (if nat_le 97 digit && nat_le digit 102 then Some (digit - 87) else None)

-- The octet that two digits stand for.
abbrev pub octet_of : Option ℕ → Option ℕ → Option ℕ
octet_of (Some high) (Some low) = Some (16 * high + low)
octet_of (Some _) None = None
octet_of None _ = None

-- An octet goes in front of the octets after it, where both can be read.
abbrev pub with_octet : Option ℕ → Option (List ℕ) → Option (List ℕ)
with_octet (Some octet) (Some octets) = Some (octet ∷ octets)
with_octet (Some _) None = None
with_octet None _ = None

-- The octets of a row of digits, two digits for each.
unfoldable pub octets_of_digits : List ℕ → Option (List ℕ)
octets_of_digits [] = Some []
octets_of_digits (_ ∷ []) = None
octets_of_digits (high ∷ low ∷ digits) = with_octet (octet_of (hex_value high) (hex_value low)) (octets_of_digits digits)

-- A part stands for at least one octet.
abbrev pub octets_of : List ℕ → Option (List ℕ)
octets_of [] = None
octets_of (digit ∷ digits) = octets_of_digits (digit ∷ digits)

-- 0aff is two octets; a lone digit, an upper-case digit and the empty part are none.
pub octets_examples :
    (octets_of (codes "0aff") ≡ Some (10 ∷ 255 ∷ []))
    × (octets_of (codes "0af") ≡ None)
    × (octets_of (codes "0A") ≡ None)
    × (octets_of (codes "0g") ≡ None)
    × (octets_of [] ≡ None)
    × (hex_of (10 ∷ 255 ∷ []) ≡ codes "0aff")
unfolding octets_of_digits hex_of
octets_examples = (refl, refl, refl, refl, refl, refl)
