-- The parts of a line are its longest runs of octets other than space.
use Rattle.std.proofs.Common.{◌≡◌, ◌≢◌, ◌+◌, ◌<◌, ◌≤◌, ◌==◌, ◌⊎◌, ℕ, suc, false, List, [], ◌∷◌, ◌++◌, length, refl, ap, ◌∙◌, inl, inr, arith, append_assoc, length-append}
use Rattle.std.specs.Prelude.{All, Contains}
use Rattle.std.proofs.lemmas.Bool.{cases_Bool, eqb-true, eqb-false}
use Rattle.std.proofs.lemmas.List.Elements.{All-nil, All-cons, All-head, All-tail, All-weaker}
use Rattle.small_text.specs.Lines.{Part, parts_with_octet, parts_from}
use Rattle.small_text.specs.LineLaws.{AscendFrom, ascend_parts, EndsApart, BeginsApart, IsLongestRun, PartsAreRuns}
use Rattle.small_text.proofs.PartCutting.{starts, starts_before, own_part, longer_part, parts_begin}
use Rattle.std.proofs.lemmas.Bool.Decides.{nat_tests}
use Rattle.std.proofs.Math.Seq.{get_or-append_seam}

-- the same of what is left of a line from a column on
record RunFrom (column : ℕ) (line : List ℕ) (part : Part) : Type 0 where
  before : List ℕ
  after : List ℕ
  whole : line ≡ before ++ (part.octets ++ after)
  column_is : part.column ≡ column + length before
  some : part.octets ≢ []
  no_space : All (λ octet. octet ≢ 32) part.octets
  apart_before : EndsApart before
  apart_after : BeginsApart after

abbrev one : ℕ → ℕ → Part
one column octet = record { column = column; octets = octet ∷ [] }

-- a space more in front
spaced : (octet : ℕ) (before : List ℕ) → octet ≡ 32 → EndsApart before → EndsApart (octet ∷ before)
spaced octet before is (inl none) = inr ([], rw (is, none) refl)
spaced octet before is (inr h) = inr (octet ∷ h.0, ap (λ (l : List ℕ). octet ∷ l) h.1)

run_spaced : (column octet : ℕ) (line : List ℕ) (part : Part) → octet ≡ 32 → RunFrom (column + 1) line part → RunFrom column (octet ∷ line) part
run_spaced column octet line part is r =
    record { before = octet ∷ r.before; after = r.after; whole = ap (λ (l : List ℕ). octet ∷ l) r.whole; column_is = (let h = r.column_is in omega arith); some = r.some; no_space = r.no_space; apart_before = spaced octet r.before is r.apart_before; apart_after = r.apart_after }

-- an octet more in front of a part that has a gap before it
further : (octet : ℕ) (before : List ℕ) → 0 < length before → EndsApart before → EndsApart (octet ∷ before)
further octet before some (inl none) = absurd (omega (arith, ap (λ (l : List ℕ). length l) none))
further octet before some (inr h) = inr (octet ∷ h.0, ap (λ (l : List ℕ). octet ∷ l) h.1)

run_further : (column octet : ℕ) (line : List ℕ) (part : Part) → column + 2 ≤ part.column → RunFrom (column + 1) line part → RunFrom column (octet ∷ line) part
run_further column octet line part far r =
    record { before = octet ∷ r.before; after = r.after; whole = ap (λ (l : List ℕ). octet ∷ l) r.whole; column_is = (let h = r.column_is in omega arith); some = r.some; no_space = r.no_space; apart_before = further octet r.before (let h = r.column_is in omega arith) r.apart_before; apart_after = r.apart_after }

all_further : (column octet from : ℕ) (line : List ℕ) (parts : List Part) → column + 2 ≤ from → AscendFrom from parts → All (RunFrom (column + 1) line) parts → All (RunFrom column (octet ∷ line)) parts
all_further column octet from line [] far up h = All-nil (RunFrom column (octet ∷ line))
all_further column octet from line (part ∷ parts) far up h =
    All-cons (RunFrom column (octet ∷ line)) part parts
    (run_further column octet line part (omega arith) (All-head (RunFrom (column + 1) line) part parts h))
    (all_further column octet (part.column + 1) line parts (omega arith) up.1 (All-tail (RunFrom (column + 1) line) part parts h))

front_none : (line before rest : List ℕ) → length before ≡ 0 → line ≡ before ++ rest → line ≡ rest
front_none line [] rest none e = e
front_none line (octet ∷ before) rest none e = absurd (omega arith)

-- an octet right before a part is of the part
run_with_octet : (column octet : ℕ) (line : List ℕ) (part : Part) → octet ≢ 32 → part.column ≡ column + 1 → RunFrom (column + 1) line part → RunFrom column (octet ∷ line) (record { column = column; octets = octet ∷ part.octets })
run_with_octet column octet line part differs at r =
    let none : length r.before ≡ 0 = (let h = r.column_is in omega arith) in
    record { before = []; after = r.after; whole = ap (λ (l : List ℕ). octet ∷ l) (front_none line r.before (part.octets ++ r.after) none r.whole); column_is = omega arith; some = λ e. (cc); no_space = All-cons (λ o. o ≢ 32) octet part.octets differs r.no_space; apart_before = inl refl; apart_after = r.apart_after }

-- an octet with a gap after it is a part
run_alone : (column octet : ℕ) (line : List ℕ) → octet ≢ 32 → BeginsApart line → RunFrom column (octet ∷ line) (one column octet)
run_alone column octet line differs apart =
    record { before = []; after = line; whole = refl; column_is = omega arith; some = λ e. (cc); no_space = All-cons (λ o. o ≢ 32) octet [] differs (All-nil (λ o. o ≢ 32)); apart_before = inl refl; apart_after = apart }

-- the first part begins at the column
abbrev FirstAt : ℕ → List Part → Type 0
FirstAt column [] = ⊥
FirstAt column (part ∷ _) = part.column ≡ column

octet_first : (column octet : ℕ) (parts : List Part) → FirstAt column (parts_with_octet column octet parts)
octet_first column octet [] = refl
octet_first column octet (part ∷ parts) =
    elim (cases_Bool (part.column == column + 1)) [ inl e ↦ rw e refl | inr e ↦ rw e refl ]

-- a line begins with a space or not at all, or its first part begins with it
border : (column : ℕ) (line : List ℕ) → BeginsApart line ⊎ FirstAt column (parts_from column line)
unfolding parts_from
border column [] = inl (inl refl)
border column (octet ∷ line) =
    elim (cases_Bool (octet == 32)) [
      | inl e ↦ inl (inr (line, ap (λ (o : ℕ). o ∷ line) (eqb-true octet 32 e)))
      | inr e ↦ inr (rw e (octet_first column octet (parts_from (column + 1) line)))
    ]

edge_apart : (line : List ℕ) (P : Type 0) → (P → ⊥) → BeginsApart line ⊎ P → BeginsApart line
edge_apart line P differs (inl apart) = apart
edge_apart line P differs (inr h) = absurd (differs h)

runs_with_octet : (column octet : ℕ) (line : List ℕ) (parts : List Part) → octet ≢ 32 → BeginsApart line ⊎ FirstAt (column + 1) parts → AscendFrom (column + 1) parts → All (RunFrom (column + 1) line) parts → All (RunFrom column (octet ∷ line)) (parts_with_octet column octet parts)
runs_with_octet column octet line [] differs (inl apart) up h =
    All-cons (RunFrom column (octet ∷ line)) (one column octet) [] (run_alone column octet line differs apart) (All-nil (RunFrom column (octet ∷ line)))
runs_with_octet column octet line [] differs (inr first) up h = absurd first
runs_with_octet column octet line (part ∷ parts) differs edge up h =
    let part_run : RunFrom (column + 1) line part = All-head (RunFrom (column + 1) line) part parts h in
    let rest_run : All (RunFrom (column + 1) line) parts = All-tail (RunFrom (column + 1) line) part parts h in
    elim (cases_Bool (part.column == column + 1)) [
      | inl e ↦ rw e (All-cons (RunFrom column (octet ∷ line)) (record { column = column; octets = octet ∷ part.octets }) parts
          (run_with_octet column octet line part differs (eqb-true part.column (column + 1) e) part_run)
          (all_further column octet (part.column + 1) line parts (omega (arith, eqb-true part.column (column + 1) e)) up.1 rest_run))
      | inr e ↦ (let far : (part.column ≡ column + 1 → ⊥) = eqb-false part.column (column + 1) e in
          rw e (All-cons (RunFrom column (octet ∷ line)) (one column octet) (part ∷ parts)
          (run_alone column octet line differs (edge_apart line (part.column ≡ column + 1) far edge))
          (all_further column octet (column + 2) line (part ∷ parts) (omega arith) (omega (arith, far), up.1) h)))
    ]

runs_from : (column : ℕ) (line : List ℕ) → All (RunFrom column line) (parts_from column line)
unfolding parts_from
runs_from column [] = All-nil (RunFrom column [])
runs_from column (octet ∷ line) =
    elim (cases_Bool (octet == 32)) [
      | inl e ↦ rw e (All-weaker (RunFrom (column + 1) line) (RunFrom column (octet ∷ line)) (λ part r. run_spaced column octet line part (eqb-true octet 32 e) r) (parts_from (column + 1) line) (runs_from (column + 1) line))
      | inr e ↦ rw e (runs_with_octet column octet line (parts_from (column + 1) line) (eqb-false octet 32 e) (border (column + 1) line) (ascend_parts (column + 1) line) (runs_from (column + 1) line))
    ]

longest : (line : List ℕ) (part : Part) → RunFrom 1 line part → IsLongestRun line part
longest line part r = record { before = r.before; after = r.after; whole = r.whole; column = r.column_is; some = r.some; no_space = r.no_space; apart_before = r.apart_before; apart_after = r.apart_after }

pub runs : (line : List ℕ) → All (IsLongestRun line) (parts_from 1 line)
runs line = All-weaker (RunFrom 1 line) (IsLongestRun line) (longest line) (parts_from 1 line) (runs_from 1 line)

-- ---- and all of them

octet_more : (column octet : ℕ) (parts more : List Part) → parts ≢ [] → parts_with_octet column octet (parts ++ more) ≡ parts_with_octet column octet parts ++ more
octet_more column octet [] more some = absurd (some refl)
octet_more column octet (part ∷ parts) more some =
    elim (cases_Bool (part.column == column + 1)) [ inl e ↦ rw e refl | inr e ↦ rw e refl ]

octet_both : (column octet from : ℕ) (parts : List Part) (text : List ℕ) → column + 2 ≤ from → parts_with_octet column octet (parts ++ parts_from from text) ≡ parts_with_octet column octet parts ++ parts_from from text
octet_both column octet from [] text far = own_part column octet (parts_from from text) (starts_before (column + 2) from (parts_from from text) far (starts from text))
octet_both column octet from (part ∷ parts) text far = octet_more column octet (part ∷ parts) (parts_from from text) (λ e. (cc))

-- a space parts a line in two
parts_gap : (column : ℕ) (before text : List ℕ) → parts_from column (before ++ 32 ∷ text) ≡ parts_from column before ++ parts_from (column + length before + 1) text
unfolding parts_from
parts_gap column [] text = let e : column + 0 + 1 ≡ column + 1 = omega arith in rw e refl
parts_gap column (octet ∷ before) text =
    let at : column + suc (length before) + 1 ≡ column + 1 + length before + 1 = omega arith in
    elim (cases_Bool (octet == 32)) [
      | inl e ↦ rw (e, at) (parts_gap (column + 1) before text)
      | inr e ↦ rw (e, at, parts_gap (column + 1) before text) (octet_both column octet (column + 1 + length before + 1) (parts_from (column + 1) before) text (omega arith))
    ]

parts_run_end : (column octet : ℕ) (after : List ℕ) → octet ≢ 32 → BeginsApart after → parts_from column (octet ∷ after) ≡ one column octet ∷ parts_from (column + 1) after
unfolding parts_from
parts_run_end column octet after apart (inl none) =
    let e : (octet == 32) ≡ false = grind (arith, nat_tests) in rw (none, e) refl
parts_run_end column octet after apart (inr h) =
    let e : (octet == 32) ≡ false = grind (arith, nat_tests) in
    let two : column + 1 + 1 ≡ column + 2 = omega arith in
    rw (h.1, e, two) (own_part column octet (parts_from (column + 2) h.0) (starts (column + 2) h.0))

-- a longest run at the front of a line is its first part
parts_run : (column octet : ℕ) (octets after : List ℕ) → All (λ o. o ≢ 32) (octet ∷ octets) → BeginsApart after → parts_from column ((octet ∷ octets) ++ after) ≡ record { column = column; octets = octet ∷ octets } ∷ parts_from (column + length (octet ∷ octets)) after
parts_run column octet [] after apart ends = parts_run_end column octet after (All-head (λ o. o ≢ 32) octet [] apart) ends
parts_run column octet (next ∷ octets) after apart ends =
    let no_space : octet ≢ 32 = All-head (λ o. o ≢ 32) octet (next ∷ octets) apart in
    let e : (octet == 32) ≡ false = grind (arith, nat_tests) in
    let at : column + suc (suc (length octets)) ≡ column + 1 + suc (length octets) = omega arith in
    parts_begin column octet ((next ∷ octets) ++ after) e ∙ rw (parts_run (column + 1) next octets after (All-tail (λ o. o ≢ 32) octet (next ∷ octets) apart) ends, at) (longer_part column octet (next ∷ octets) (parts_from (column + 1 + suc (length octets)) after))

contains_seam : (parts more : List Part) (part : Part) → Contains (parts ++ part ∷ more) part
contains_seam parts more part = (length parts, omega (arith, length-append parts (part ∷ more)), get_or-append_seam parts part more part)

contains_same : (parts all more : List Part) (part : Part) → all ≡ parts ++ part ∷ more → Contains all part
contains_same parts all more part e = rw e (contains_seam parts more part)

whole_at : (line before octets after : List ℕ) (part : Part) → line ≡ before ++ (octets ++ after) → part.column ≡ 1 + length before → part.octets ≡ octets → octets ≢ [] → All (λ o. o ≢ 32) octets → EndsApart before → BeginsApart after → Contains (parts_from 1 line) part
whole_at line before [] after part is at octets_are some apart front ends = absurd (some refl)
whole_at line before (octet ∷ octets) after part is at octets_are some apart (inl none) ends =
    let column : part.column ≡ 1 = omega (arith, at, ap (λ (l : List ℕ). length l) none) in
    let same : parts_from 1 line ≡ record { column = 1; octets = octet ∷ octets } ∷ parts_from (1 + length (octet ∷ octets)) after = rw (is, none) (parts_run 1 octet octets after apart ends) in
    contains_same [] (parts_from 1 line) (parts_from (1 + length (octet ∷ octets)) after) part (rw (column, octets_are) same)
whole_at line before (octet ∷ octets) after part is at octets_are some apart (inr h) ends =
    let column : part.column ≡ 1 + length h.0 + 1 = omega (arith, at, ap (λ (l : List ℕ). length l) h.1, length-append h.0 (32 ∷ [])) in
    let gap : line ≡ h.0 ++ 32 ∷ ((octet ∷ octets) ++ after) = is ∙ rw (h.1, append_assoc) refl in
    let same : parts_from 1 line ≡ parts_from 1 h.0 ++ record { column = 1 + length h.0 + 1; octets = octet ∷ octets } ∷ parts_from (1 + length h.0 + 1 + length (octet ∷ octets)) after = rw gap (parts_gap 1 h.0 ((octet ∷ octets) ++ after) ∙ rw (parts_run (1 + length h.0 + 1) octet octets after apart ends) refl) in
    contains_same (parts_from 1 h.0) (parts_from 1 line) (parts_from (1 + length h.0 + 1 + length (octet ∷ octets)) after) part (rw (column, octets_are) same)

pub parts_are_runs : PartsAreRuns
parts_are_runs = record {
  runs = runs;
  whole = λ line part r. whole_at line r.before part.octets r.after part r.whole r.column refl r.some r.no_space r.apart_before r.apart_after;
}
