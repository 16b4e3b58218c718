-- What digits mean.
use Rattle.std.specs.Prelude.{ℕ, Bool, Option, Some, None, List, [], ◌∷◌, ◌==◌, ◌&&◌, ◌+◌, ◌-◌, ◌*◌, nat_lt, if◌then◌else◌, length, slice_index}

-- the value of one digit, decimal or hexadecimal
abbrev pub digit_of : ℕ → ℕ
digit_of b = if nat_lt b 97 then b - 48 else b - 87

-- the value that digits have behind digits of the value `front`
abbrev pub value_from : ℕ → ℕ → List ℕ → ℕ
value_from base front [] = front
value_from base front (d ∷ ds) = value_from base (front * base + digit_of d) ds

-- the value of digits to a base
abbrev pub value : ℕ → List ℕ → ℕ
value base digits = value_from base 0 digits

-- a zero stands in front of further digits
abbrev pub has_leading_zero : List ℕ → Bool
has_leading_zero digits = slice_index digits 0 == 48 && nat_lt 1 (length digits)

-- a number, where it is below a bound
abbrev pub value_below : ℕ → ℕ → Option ℕ
value_below bound n = if nat_lt n bound then Some n else None
