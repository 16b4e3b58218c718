-- What the cut at a count of octets is, in terms of lines and parts.
use Rattle.std.proofs.Common.{◌≡◌, ◌+◌, ◌-◌, ◌<◌, ◌≤◌, ◌==◌, ℕ, suc, Bool, not, List, [], ◌∷◌, length, take, drop, length-drop, refl, sym, inl, inr, arith}
use Rattle.std.proofs.lemmas.Bool.{cases_Bool}
use Rattle.std.specs.List.{prefix_len}
use Rattle.std.specs.Prelude.{Some, None}
use Rattle.std.proofs.lemmas.Grind.{common_steps}
use Rattle.small_text.specs.Lines.{Line, lines, at_front, line_of, numbered_from}

abbrev pub no_end : ℕ → Bool
no_end b = not (b == 10)

abbrev is_space : ℕ → Bool
is_space b = b == 32

abbrev no_space : ℕ → Bool
no_space b = not (b == 32)

pub one_more : (n : ℕ) → 1 + n ≡ suc n
one_more n = omega arith

-- an octet before a text belongs to the text's first line
lines_front : (octet : ℕ) (text : List ℕ) → at_front octet (lines text) ≡ (octet ∷ take (prefix_len no_end text) text) ∷ lines (drop 1 (drop (prefix_len no_end text) text))
unfolding lines
lines_front octet [] = refl
lines_front octet (next ∷ text) =
    elim (cases_Bool (next == 10)) [ inl e ↦ rw e refl | inr e ↦ rw (e, one_more (prefix_len no_end text), lines_front next text) refl ]

-- a text that is not empty is its octets up to LF, and the lines after that
pub lines_cut : (octet : ℕ) (text : List ℕ) → lines (octet ∷ text) ≡ take (prefix_len no_end (octet ∷ text)) (octet ∷ text) ∷ lines (drop 1 (drop (prefix_len no_end (octet ∷ text)) (octet ∷ text)))
unfolding lines
lines_cut octet text =
    elim (cases_Bool (octet == 10)) [ inl e ↦ rw e refl | inr e ↦ rw (e, one_more (prefix_len no_end text)) (lines_front octet text) ]

rest_none : (rest : List ℕ) → length rest < 1 → rest ≡ drop 1 rest
rest_none [] h = refl
rest_none (x ∷ rest) h = absurd (omega arith)

take_all : (text : List ℕ) (n : ℕ) → n ≡ length text → take n text ≡ text
take_all text n e = grind (arith, common_steps)

-- the same over a cut at the count, where nothing is after it
pub lines_last : (text front rest : List ℕ) (n : ℕ) → n ≡ prefix_len no_end text → front ≡ take n text → rest ≡ drop n text → length rest < 1 → 0 < length text → lines text ≡ front ∷ lines rest
lines_last [] front rest n count at after none some = absurd (omega arith)
lines_last (octet ∷ text) front rest n count at after none some =
    rw (rest_none rest none, at, after, count) (lines_cut octet text)

-- the same where LF is after it
pub lines_more : (text front rest : List ℕ) (n : ℕ) → n ≡ prefix_len no_end text → front ≡ take n text → rest ≡ drop n text → 1 ≤ length rest → 0 < length text → lines text ≡ front ∷ lines (take (length rest - 1) (drop 1 rest))
lines_more [] front rest n count at after here some = absurd (omega arith)
lines_more (octet ∷ text) front rest n count at after here some =
    rw (take_all (drop 1 rest) (length rest - 1) (omega (arith, length-drop 1 rest)), at, after, count) (lines_cut octet text)

-- the lines that count, where the first line does
pub numbered_line : (number : ℕ) (text front after : List ℕ) (line : Line) → lines text ≡ front ∷ lines after → Some line ≡ line_of number front → numbered_from number (lines text) ≡ line ∷ numbered_from (number + 1) (lines after)
unfolding numbered_from
numbered_line number text front after line cut is = rw (cut, sym is) refl

-- the same where it does not
pub numbered_skipped : (number : ℕ) (text front after : List ℕ) → lines text ≡ front ∷ lines after → None ≡ line_of number front → numbered_from number (lines text) ≡ numbered_from (number + 1) (lines after)
unfolding numbered_from
numbered_skipped number text front after cut is = rw (cut, sym is) refl

-- and where no text is left
pub numbered_none : (number : ℕ) (text : List ℕ) → length text ≡ 0 → numbered_from number (lines text) ≡ []
unfolding numbered_from lines
numbered_none number [] h = refl
numbered_none number (octet ∷ text) h = absurd (omega arith)
