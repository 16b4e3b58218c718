-- Where an octet stands in a text.
use Rattle.std.specs.Prelude.{ℕ, ◌+◌, ◌==◌, List, take, reverse, count_by, not}
use Rattle.std.specs.List.{prefix_len}
use Rattle.esi_base.specs.declared.place.Place.{Place}

-- one more than the line ends before it
abbrev pub line_at : List ℕ → ℕ → ℕ
line_at text at = 1 + count_by (λ b. b == 10) (take at text)

-- one more than the octets between the last line end before it and itself
abbrev pub column_at : List ℕ → ℕ → ℕ
column_at text at = 1 + prefix_len (λ b. not (b == 10)) (reverse (take at text))

-- line and column count from 1, and a column counts octets
abbrev pub place_at : List ℕ → ℕ → Place
place_at text at = record { line = line_at text at; column = column_at text at }
