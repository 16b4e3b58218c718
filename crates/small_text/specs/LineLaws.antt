-- What a reader may rely on of lines and parts.
use Rattle.std.specs.Prelude.{◌≡◌, ◌≢◌, ◌==◌, ◌+◌, ◌≤◌, ◌⊎◌, ℕ, List, [], ◌∷◌, ◌++◌, length, take, drop, All, Contains}
use Rattle.std.specs.Option.{option_to_list}
use Rattle.std.proofs.Common.{arith, inl, inr}
use Rattle.std.proofs.lemmas.Bool.{cases_Bool}
use Rattle.std.proofs.lemmas.List.Elements.{All-nil, All-cons}
use Rattle.esi_base.specs.Places.{place_at}
use Rattle.small_text.specs.Lines.{Part, Line, place_of, lines, parts_with_octet, parts_from, is_comment, line_of_parts, numbered_from, counting_lines}

-- Parts stand one after another, from a column on.
abbrev pub AscendFrom : ℕ → List Part → Type 0
AscendFrom column [] = Unit {0}
AscendFrom column (part ∷ others) = (column ≤ part.column) × AscendFrom (part.column + 1) others

-- The parts of a line stand one after another.
abbrev pub PartsAscend : Line → Type 0
PartsAscend line = AscendFrom (line.word.column + 1) line.others

-- The first part of a line stands before its other parts, and each of these before the next.
abbrev pub EachAscends : Type 0
EachAscends = (text : List ℕ) → All PartsAscend (counting_lines text)

-- Octets end apart from what is after them: there are none, or the last is a space.
abbrev pub EndsApart : List ℕ → Type 0
EndsApart octets = (octets ≡ []) ⊎ ((before : List ℕ) × (octets ≡ before ++ 32 ∷ []))

-- Octets begin apart from what is before them: there are none, or the first is a space.
abbrev pub BeginsApart : List ℕ → Type 0
BeginsApart octets = (octets ≡ []) ⊎ ((after : List ℕ) × (octets ≡ 32 ∷ after))

-- A part is a longest run of octets of its line other than space, and its column counts from 1.
pub record IsLongestRun (line : List ℕ) (part : Part) : Type 0 where
  pub before : List ℕ
  pub after : List ℕ
  pub whole : line ≡ before ++ (part.octets ++ after)
  pub column : part.column ≡ 1 + length before
  pub some : part.octets ≢ []
  pub no_space : All (λ octet. octet ≢ 32) part.octets
  pub apart_before : EndsApart before
  pub apart_after : BeginsApart after

-- The parts of a line are its longest runs of octets other than space, and all of them.
pub record PartsAreRuns : Type 0 where
  pub runs : (line : List ℕ) → All (IsLongestRun line) (parts_from 1 line)
  pub whole : (line : List ℕ) (part : Part) → IsLongestRun line part → Contains (parts_from 1 line) part

-- A part of a line stands in the text: its octets are there, and its place is that of the first.
pub record StandsIn (text : List ℕ) (number : ℕ) (part : Part) : Type 0 where
  pub offset : ℕ
  pub within : offset + length part.octets ≤ length text
  pub octets : take (length part.octets) (drop offset text) ≡ part.octets
  pub place : place_at text offset ≡ place_of number part

-- All parts of a line stand in the text.
abbrev pub LineStandsIn : List ℕ → Line → Type 0
LineStandsIn text line = All (StandsIn text line.number) (line.word ∷ line.others)

-- The place of each part of each line that counts is the place of its first octet in the text.
abbrev pub PlacesAreRight : Type 0
PlacesAreRight = (text : List ℕ) → All (LineStandsIn text) (counting_lines text)

ascend_before : (low high : ℕ) (parts : List Part) → low ≤ high → AscendFrom high parts → AscendFrom low parts
ascend_before low high [] le h = tt
ascend_before low high (part ∷ parts) le h = (omega arith, h.1)

ascend_with_octet : (column octet : ℕ) (parts : List Part) → AscendFrom (column + 1) parts → AscendFrom column (parts_with_octet column octet parts)
ascend_with_octet column octet [] h = (omega arith, tt)
ascend_with_octet column octet (part ∷ parts) h =
    elim (cases_Bool (part.column == column + 1)) [
      | inl e ↦ rw e (omega arith, ascend_before (column + 1) (part.column + 1) parts (omega arith) h.1)
      | inr e ↦ rw e (omega arith, h)
    ]

pub ascend_parts : (column : ℕ) (text : List ℕ) → AscendFrom column (parts_from column text)
unfolding parts_from
ascend_parts column [] = tt
ascend_parts column (octet ∷ text) =
    elim (cases_Bool (octet == 32)) [
      | inl e ↦ rw e (ascend_before column (column + 1) (parts_from (column + 1) text) (omega arith) (ascend_parts (column + 1) text))
      | inr e ↦ rw e (ascend_with_octet column octet (parts_from (column + 1) text) (ascend_parts (column + 1) text))
    ]

ascend_line_of : (number : ℕ) (parts : List Part) (others : List Line) → AscendFrom 1 parts → All PartsAscend others → All PartsAscend (option_to_list (line_of_parts number parts) ++ others)
ascend_line_of number [] others h rest = rest
ascend_line_of number (word ∷ parts) others h rest = All-cons PartsAscend (record { number = number; word = word; others = parts }) others h.1 rest

ascend_numbered : (number : ℕ) (all : List (List ℕ)) → All PartsAscend (numbered_from number all)
unfolding numbered_from
ascend_numbered number [] = All-nil PartsAscend
ascend_numbered number (line ∷ rest) =
    elim (cases_Bool (is_comment line)) [
      | inl e ↦ rw e (ascend_numbered (number + 1) rest)
      | inr e ↦ rw e (ascend_line_of number (parts_from 1 line) (numbered_from (number + 1) rest) (ascend_parts 1 line) (ascend_numbered (number + 1) rest))
    ]

pub each_ascends : EachAscends
each_ascends text = ascend_numbered 1 (lines text)
