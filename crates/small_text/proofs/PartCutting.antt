-- What the cut at counts of spaces and of other octets is, in terms of parts.
use Rattle.std.proofs.Common.{◌≡◌, ◌+◌, ◌≤◌, ◌==◌, ℕ, suc, Bool, false, not, List, [], ◌∷◌, take, drop, refl, sym, subst, ◌∙◌, inl, inr, arith}
use Rattle.std.specs.List.{prefix_len}
use Rattle.std.proofs.lemmas.Bool.{cases_Bool, eqb-true, eqb-false}
use Rattle.small_text.specs.Lines.{Part, parts_with_octet, parts_from}
use Rattle.small_text.proofs.Cutting.{one_more}

abbrev is_space : ℕ → Bool
is_space b = b == 32

abbrev no_space : ℕ → Bool
no_space b = not (b == 32)

abbrev pub part : ℕ → List ℕ → Part
part column octets = record { column = column; octets = octets }

-- spaces in front move the parts to the right
parts_spaces : (column : ℕ) (text : List ℕ) → parts_from column text ≡ parts_from (column + prefix_len is_space text) (drop (prefix_len is_space text) text)
unfolding parts_from
parts_spaces column [] = refl
parts_spaces column (octet ∷ text) =
    elim (cases_Bool (octet == 32)) [
      | inl e ↦ let more : column + suc (prefix_len is_space text) ≡ column + 1 + prefix_len is_space text = omega arith in rw (e, one_more (prefix_len is_space text), more) (parts_spaces (column + 1) text)
      | inr e ↦ let none : column + 0 ≡ column = omega arith in rw (e, none, e) refl
    ]

-- the first part begins at a column or after it
abbrev pub StartsFrom : ℕ → List Part → Type 0
StartsFrom column [] = Unit {0}
StartsFrom column (first ∷ _) = column ≤ first.column

pub starts_before : (low high : ℕ) (parts : List Part) → low ≤ high → StartsFrom high parts → StartsFrom low parts
starts_before low high [] le h = tt
starts_before low high (first ∷ parts) le h = omega arith

starts_with_octet : (column octet : ℕ) (parts : List Part) → StartsFrom column (parts_with_octet column octet parts)
starts_with_octet column octet [] = omega arith
starts_with_octet column octet (first ∷ parts) =
    elim (cases_Bool (first.column == column + 1)) [ inl e ↦ rw e (omega arith) | inr e ↦ rw e (omega arith) ]

pub starts : (column : ℕ) (text : List ℕ) → StartsFrom column (parts_from column text)
unfolding parts_from
starts column [] = tt
starts column (octet ∷ text) =
    elim (cases_Bool (octet == 32)) [
      | inl e ↦ rw e (starts_before column (column + 1) (parts_from (column + 1) text) (omega arith) (starts (column + 1) text))
      | inr e ↦ rw e (starts_with_octet column octet (parts_from (column + 1) text))
    ]

-- an octet with a gap after it is a part of its own
pub own_part : (column octet : ℕ) (parts : List Part) → StartsFrom (column + 2) parts → parts_with_octet column octet parts ≡ part column (octet ∷ []) ∷ parts
own_part column octet [] h = refl
own_part column octet (first ∷ parts) h =
    elim (cases_Bool (first.column == column + 1)) [
      | inl e ↦ absurd (omega (arith, eqb-true first.column (column + 1) e))
      | inr e ↦ rw e refl
    ]

-- an octet right before a part belongs to it
pub longer_part : (column octet : ℕ) (octets : List ℕ) (parts : List Part) → parts_with_octet column octet (part (column + 1) octets ∷ parts) ≡ part column (octet ∷ octets) ∷ parts
longer_part column octet octets parts =
    elim (cases_Bool (column + 1 == column + 1)) [
      | inl e ↦ rw e refl
      | inr e ↦ absurd (eqb-false (column + 1) (column + 1) e refl)
    ]

-- an octet other than space begins a part, which goes on up to a space or the end
parts_word : (column octet : ℕ) (text : List ℕ) → parts_with_octet column octet (parts_from (column + 1) text) ≡ part column (octet ∷ take (prefix_len no_space text) text) ∷ parts_from (column + 1 + prefix_len no_space text) (drop (prefix_len no_space text) text)
unfolding parts_from
parts_word column octet [] = refl
parts_word column octet (next ∷ text) =
    elim (cases_Bool (next == 32)) [
      | inl e ↦
          let two : column + 1 + 1 ≡ column + 2 = omega arith in
          let gap : StartsFrom (column + 2) (parts_from (column + 2) text) = starts (column + 2) text in
          let none : column + 1 + 0 ≡ column + 1 = omega arith in
          rw (e, none, e, two) (own_part column octet (parts_from (column + 2) text) gap)
      | inr e ↦
          let more : column + 1 + suc (prefix_len no_space text) ≡ column + 1 + 1 + prefix_len no_space text = omega arith in
          rw (e, one_more (prefix_len no_space text), parts_word (column + 1) next text, more) (longer_part column octet _ _)
    ]

pub parts_begin : (column octet : ℕ) (text : List ℕ) → (octet == 32) ≡ false → parts_from column (octet ∷ text) ≡ parts_with_octet column octet (parts_from (column + 1) text)
unfolding parts_from
parts_begin column octet text e = rw e refl

parts_nothing : (column : ℕ) → parts_from column [] ≡ []
unfolding parts_from
parts_nothing column = refl

-- after the spaces stands no space
not_space : (text : List ℕ) (octet : ℕ) (rest : List ℕ) → drop (prefix_len is_space text) text ≡ octet ∷ rest → (octet == 32) ≡ false
not_space [] octet rest = λ h. cc
not_space (first ∷ text) octet rest =
    elim (cases_Bool (first == 32)) [
      | inl e ↦ rw (e, one_more (prefix_len is_space text)) (not_space text octet rest)
      | inr e ↦ rw e (λ h. let same : first ≡ octet = cc in subst (λ (x : ℕ). (x == 32) ≡ false) same e)
    ]

-- no part after the spaces
pub next_none : (column : ℕ) (text word : List ℕ) (spaces len : ℕ) → spaces ≡ prefix_len is_space text → word ≡ drop spaces text → len ≡ prefix_len no_space word → len ≡ 0 → parts_from column text ≡ []
next_none column text [] spaces len count at whole none =
    parts_spaces column text ∙ rw (sym count, sym at) (parts_nothing _)
next_none column text (octet ∷ word) spaces len count at whole none =
    let e : (octet == 32) ≡ false = not_space text octet word (rw (sym count, sym at) refl) in
    let some : len ≡ suc (prefix_len no_space word) = whole ∙ rw (e, one_more (prefix_len no_space word)) refl in
    absurd (omega arith)

-- a part after the spaces
pub next_some : (column : ℕ) (text word octets rest : List ℕ) (spaces len : ℕ) → spaces ≡ prefix_len is_space text → word ≡ drop spaces text → len ≡ prefix_len no_space word → (len ≡ 0 → ⊥) → octets ≡ take len word → rest ≡ drop len word → parts_from column text ≡ part (column + spaces) octets ∷ parts_from (column + spaces + len) rest
next_some column text [] octets rest spaces len count at whole some front back = absurd (some whole)
next_some column text (octet ∷ word) octets rest spaces len count at whole some front back =
    let e : (octet == 32) ≡ false = not_space text octet word (rw (sym count, sym at) refl) in
    let full : len ≡ suc (prefix_len no_space word) = whole ∙ rw (e, one_more (prefix_len no_space word)) refl in
    let shift : column + spaces + suc (prefix_len no_space word) ≡ column + spaces + 1 + prefix_len no_space word = omega arith in
    parts_spaces column text ∙ rw (sym count, sym at, front, back, full, shift) (parts_begin (column + spaces) octet word e ∙ parts_word (column + spaces) octet word)
