-- What number a part stands for.
use Rattle.std.specs.Prelude.{ℕ, ◌≡◌, ◌==◌, ◌&&◌, nat_le, nat_lt, length, slice_index, Bool, not, Option, Some, None, List, [], if◌then◌else◌, codes, refl}
use Rattle.std.specs.Char.{is_ascii_digit}
use Rattle.std.specs.List.{list_all}
use Rattle.std.specs.Str.Parse.{digits_value}

-- More than one digit, of which 0 is the first.
abbrev pub has_leading_zero : List ℕ → Bool
has_leading_zero part = nat_lt 1 (length part) && (slice_index part 0 == 48)

-- A number is written in decimal digits without a leading zero, and in one at least.
abbrev pub is_decimal : List ℕ → Bool
is_decimal part = nat_lt 0 (length part) && not (has_leading_zero part) && list_all is_ascii_digit part

-- A part stands for a number where it is written as one that is at most the bound.
abbrev pub number_of : ℕ → List ℕ → Option ℕ
number_of bound part =
    if is_decimal part && nat_le (digits_value 10 part) bound then Some (digits_value 10 part) else None

-- The number 1000000 may be written, 01 and the empty text may not, and 4294967296 passes its bound.
pub number_examples :
    (number_of 4294967295 (codes "1000000") ≡ Some 1000000)
    × (number_of 4294967295 (codes "0") ≡ Some 0)
    × (number_of 4294967295 (codes "01") ≡ None)
    × (number_of 4294967295 [] ≡ None)
    × (number_of 4294967295 (codes "4294967295") ≡ Some 4294967295)
    × (number_of 4294967295 (codes "4294967296") ≡ None)
number_examples = (refl, refl, refl, refl, refl, refl)
