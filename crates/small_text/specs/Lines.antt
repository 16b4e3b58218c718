-- How a small text is cut into lines, and a line into parts.
use Rattle.std.specs.Prelude.{◌≡◌, ◌==◌, ◌+◌, ℕ, Bool, false, Option, Some, None, List, [], ◌∷◌, ◌++◌, if◌then◌else◌, codes, refl}
use Rattle.std.specs.Option.{option_to_list}
use Rattle.esi_base.specs.declared.place.Place.{Place}

-- A part is a longest run of octets of its line other than space; its column is that of its first octet.
pub record Part : Type 0 where
  pub column : ℕ
  pub octets : List ℕ

-- A line that counts has its number, its first part and the parts after that one.
pub record Line : Type 0 where
  pub number : ℕ
  pub word : Part
  pub others : List Part

-- Where a part of a line stands in the text.
abbrev pub place_of : ℕ → Part → Place
place_of number part = record { line = number; column = part.column }

-- An octet that is no line end stands at the front of the line that goes on after it.
abbrev pub at_front : ℕ → List (List ℕ) → List (List ℕ)
at_front octet [] = (octet ∷ []) ∷ []
at_front octet (line ∷ others) = (octet ∷ line) ∷ others

-- The lines of a text: LF ends each, and the end of the text may end the last one.
unfoldable pub lines : List ℕ → List (List ℕ)
lines [] = []
lines (octet ∷ text) = if octet == 10 then [] ∷ lines text else at_front octet (lines text)

-- An octet that is no space joins the part that begins right after it, and else is a part of its own.
abbrev pub parts_with_octet : ℕ → ℕ → List Part → List Part
parts_with_octet column octet [] = record { column = column; octets = octet ∷ [] } ∷ []
parts_with_octet column octet (part ∷ others) =
    if part.column == column + 1
    then record { column = column; octets = octet ∷ part.octets } ∷ others
    else record { column = column; octets = octet ∷ [] } ∷ part ∷ others

-- The parts of what is left of a line from a column on.
unfoldable pub parts_from : ℕ → List ℕ → List Part
parts_from column [] = []
parts_from column (octet ∷ rest) =
    if octet == 32 then parts_from (column + 1) rest else parts_with_octet column octet (parts_from (column + 1) rest)

-- A line is a comment where its first octet is '#'.
abbrev pub is_comment : List ℕ → Bool
is_comment [] = false
is_comment (octet ∷ _) = octet == 35

-- A line with these parts counts where there is one.
abbrev pub line_of_parts : ℕ → List Part → Option Line
line_of_parts number [] = None
line_of_parts number (word ∷ others) = Some (record { number = number; word = word; others = others })

-- A line that is no comment and has a part counts.
abbrev pub line_of : ℕ → List ℕ → Option Line
line_of number line = if is_comment line then None else line_of_parts number (parts_from 1 line)

-- Every line has its number, also one that is skipped.
unfoldable pub numbered_from : ℕ → List (List ℕ) → List Line
numbered_from number [] = []
numbered_from number (line ∷ rest) = option_to_list (line_of number line) ++ numbered_from (number + 1) rest

-- The lines of a text that count, in order.
abbrev pub counting_lines : List ℕ → List Line
counting_lines text = numbered_from 1 (lines text)

-- An empty line is a line, but a last line end is followed by none.
pub lines_examples :
    (lines (97 ∷ 10 ∷ 10 ∷ 98 ∷ []) ≡ (97 ∷ []) ∷ [] ∷ (98 ∷ []) ∷ [])
    × (lines (97 ∷ 10 ∷ []) ≡ (97 ∷ []) ∷ [])
    × (lines [] ≡ [])
unfolding lines
lines_examples = (refl, refl, refl)

-- Two spaces part as one does, and a tab parts nothing.
pub parts_examples :
    (parts_from 1 (codes " put  a") ≡ record { column = 2; octets = codes "put" } ∷ record { column = 7; octets = codes "a" } ∷ [])
    × (parts_from 1 (97 ∷ 9 ∷ 98 ∷ []) ≡ record { column = 1; octets = 97 ∷ 9 ∷ 98 ∷ [] } ∷ [])
    × (parts_from 1 (codes "  ") ≡ [])
unfolding parts_from
parts_examples = (refl, refl, refl)

-- A comment begins with '#' in its first column; after a space '#' is a part.
pub counting_examples :
    (counting_lines (codes "# a") ≡ [])
    × (counting_lines (10 ∷ codes " # a")
    ≡ record { number = 2; word = record { column = 2; octets = codes "#" }; others = record { column = 4; octets = codes "a" } ∷ [] } ∷ [])
unfolding lines parts_from numbered_from
counting_examples = (refl, refl)
