-- What an octet of a design text may be.
use Rattle.std.specs.Prelude.{ℕ, Bool, List, ◌==◌, ◌||◌, ◌&&◌, slice_index}
use Rattle.std.specs.Char.{is_ascii_digit}
use Rattle.std.specs.Int.{is_in_range}

-- space, tab, CR and LF
abbrev pub is_blank : ℕ → Bool
is_blank b = b == 32 || b == 9 || b == 13 || b == 10

-- a letter or `_`
abbrev pub begins_word : ℕ → Bool
begins_word b = is_in_range 97 122 b || is_in_range 65 90 b || b == 95

-- a letter, a digit or `_`
abbrev pub is_word_octet : ℕ → Bool
is_word_octet b = begins_word b || is_ascii_digit b

-- a digit or one of the letters a to f
abbrev pub is_hex_digit : ℕ → Bool
is_hex_digit b = is_ascii_digit b || is_in_range 97 102 b

-- one of ; : , . = { } ( ) < > [ ]
abbrev pub is_sign : ℕ → Bool
is_sign b =
    b == 59 || b == 58 || b == 44 || b == 46 || b == 61 || b == 123 || b == 125 || b == 40 || b == 41 || b == 60 || b == 62
    || b == 91 || b == 93

-- a blank or `//` stands at the front
abbrev pub begins_gap : List ℕ → Bool
begins_gap text = is_blank (slice_index text 0) || (slice_index text 0 == 47 && slice_index text 1 == 47)
