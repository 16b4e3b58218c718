-- The place of a part is the place of its first octet in the text.
use Rattle.std.proofs.Common.{◌≡◌, ◌+◌, ◌≤◌, ◌==◌, ◌&&◌, ◌⊎◌, ℕ, zero, suc, Bool, true, false, cond, List, [], ◌∷◌, ◌++◌, length, take, drop, reverse, refl, sym, ap, ◌∙◌, inl, inr, arith, append_assoc, length-append}
use Rattle.std.specs.Prelude.{All, count_by}
use Rattle.std.specs.List.{prefix_len, list_all}
use Rattle.std.specs.Option.{option_to_list}
use Rattle.std.proofs.lemmas.Bool.{cases_Bool, eqb-true}
use Rattle.std.proofs.lemmas.List.{reverse-append, length-reverse, take-append-drop}
use Rattle.std.proofs.lemmas.List.Folds.{list_all-append}
use Rattle.std.proofs.lemmas.List.Sums.{sum_by-append, sum_by-cons}
use Rattle.std.proofs.lemmas.List.Elements.{All-nil, All-cons, All-append, All-weaker}
use Rattle.std.proofs.Math.Seq.{take-append_seam, drop-append_seam}
use Rattle.esi_base.specs.Places.{place_at}
use Rattle.small_text.specs.Lines.{Part, place_of, lines, parts_from, is_comment, line_of_parts, line_of, numbered_from}
use Rattle.small_text.specs.LineLaws.{IsLongestRun, StandsIn, LineStandsIn, PlacesAreRight}
use Rattle.small_text.proofs.Cutting.{no_end, lines_cut, one_more}
use Rattle.small_text.proofs.PartRuns.{runs}

abbrev is_end : ℕ → Bool
is_end b = b == 10

-- octets without a line end
abbrev HasNoEnd : List ℕ → Type 0
HasNoEnd octets = list_all no_end octets ≡ true

-- octets after which a line begins
abbrev EndsLine : List ℕ → Type 0
EndsLine done = (done ≡ []) ⊎ ((before : List ℕ) × (done ≡ before ++ 10 ∷ []))

both : (a b : Bool) → (a && b) ≡ true → a ≡ true
both true b h = refl
both false b h = h

no_end_front : (front back : List ℕ) → HasNoEnd (front ++ back) → HasNoEnd front
no_end_front front back h = let e = list_all-append no_end front back in both (list_all no_end front) (list_all no_end back) (sym e ∙ h)

second : (a b : Bool) → (a && b) ≡ true → b ≡ true
second true b h = h
second false b h = absurd (cc)

and_true : (a b : Bool) → a ≡ true → b ≡ true → (a && b) ≡ true
and_true true b ha hb = hb
and_true false b ha hb = ha

no_end_count : (octets : List ℕ) → HasNoEnd octets → count_by is_end octets ≡ 0
no_end_count [] h = refl
no_end_count (octet ∷ octets) h =
    elim (cases_Bool (octet == 10)) [
      | inl e ↦ absurd (let g = rw e at h in (cc))
      | inr e ↦ sum_by-cons (λ x. cond (is_end x) 1 0) octet octets ∙ rw e (let i : count_by is_end octets ≡ 0 = no_end_count octets (rw e at h) in omega arith)
    ]

pub no_end_reverse : (octets : List ℕ) → HasNoEnd octets → HasNoEnd (reverse octets)
no_end_reverse [] h = refl
no_end_reverse (octet ∷ octets) h =
    let last : list_all no_end (octet ∷ []) ≡ true = and_true (no_end octet) true (both (no_end octet) (list_all no_end octets) h) refl in
    ap (list_all no_end) (reverse-append (octet ∷ []) octets) ∙ list_all-append no_end (reverse octets) (octet ∷ [])
    ∙ and_true (list_all no_end (reverse octets)) (list_all no_end (octet ∷ [])) (no_end_reverse octets (second (no_end octet) (list_all no_end octets) h)) last

-- octets without a line end go before the first one
no_end_length : (front back : List ℕ) → HasNoEnd front → prefix_len no_end (front ++ back) ≡ length front + prefix_len no_end back
no_end_length [] back h = omega arith
no_end_length (octet ∷ front) back h =
    let e : no_end octet ≡ true = both (no_end octet) (list_all no_end front) h in
    let rest : prefix_len no_end (front ++ back) ≡ length front + prefix_len no_end back = no_end_length front back (second (no_end octet) (list_all no_end front) h) in
    rw e (omega arith)

line_before : (done : List ℕ) → EndsLine done → prefix_len no_end (reverse done) ≡ 0
line_before done (inl none) = rw none refl
line_before done (inr h) = rw (h.1, reverse-append h.0 (10 ∷ [])) refl

-- the place after whole lines and octets of the next one
place_is : (all done before rest : List ℕ) (number : ℕ) (part : Part) → all ≡ (done ++ before) ++ rest → EndsLine done → HasNoEnd before → number ≡ 1 + count_by is_end done → part.column ≡ 1 + length before → place_at all (length (done ++ before)) ≡ place_of number part
place_is all done before rest number part is ends clean lines_are column =
    let front : take (length (done ++ before)) all ≡ done ++ before = rw is (take-append_seam (done ++ before) rest) in
    let count : 1 + count_by is_end (done ++ before) ≡ number = omega (arith, sum_by-append (λ x. cond (is_end x) 1 0) done before, no_end_count before clean) in
    let back : prefix_len no_end (reverse (done ++ before)) ≡ length before = ap (prefix_len no_end) (reverse-append done before) ∙ (let l = no_end_length (reverse before) (reverse done) (no_end_reverse before clean) in omega (arith, length-reverse before, line_before done ends)) in
    rw (front, count, back, column) refl

part_stands : (all done line rest : List ℕ) (number : ℕ) → all ≡ done ++ (line ++ rest) → EndsLine done → HasNoEnd line → number ≡ 1 + count_by is_end done → (part : Part) → IsLongestRun line part → StandsIn all number part
part_stands all done line rest number is ends clean lines_are part r =
    let split : all ≡ (done ++ r.before) ++ (part.octets ++ (r.after ++ rest)) = is ∙ rw (r.whole) (simp append_assoc) in
    let free : HasNoEnd r.before = no_end_front r.before (part.octets ++ r.after) (ap (list_all no_end) (sym r.whole) ∙ clean) in
    record {
      offset = length (done ++ r.before);
      within = rw split (omega (arith, length-append (done ++ r.before) (part.octets ++ (r.after ++ rest)), length-append part.octets (r.after ++ rest)));
      octets = rw (split, drop-append_seam (done ++ r.before) (part.octets ++ (r.after ++ rest))) (take-append_seam part.octets (r.after ++ rest));
      place = place_is all done r.before (part.octets ++ (r.after ++ rest)) number part split ends free lines_are r.column;
    }

parts_stand : (all : List ℕ) (number : ℕ) (parts : List Part) → All (StandsIn all number) parts → All (LineStandsIn all) (option_to_list (line_of_parts number parts))
parts_stand all number [] h = All-nil (LineStandsIn all)
parts_stand all number (word ∷ others) h = All-cons (LineStandsIn all) (record { number = number; word = word; others = others }) [] h (All-nil (LineStandsIn all))

line_stands : (all done line rest : List ℕ) (number : ℕ) → all ≡ done ++ (line ++ rest) → EndsLine done → HasNoEnd line → number ≡ 1 + count_by is_end done → All (LineStandsIn all) (option_to_list (line_of number line))
line_stands all done line rest number is ends clean lines_are =
    elim (cases_Bool (is_comment line)) [
      | inl e ↦ rw e (All-nil (LineStandsIn all))
      | inr e ↦ rw e (parts_stand all number (parts_from 1 line) (All-weaker (IsLongestRun line) (StandsIn all number) (part_stands all done line rest number is ends clean lines_are) (parts_from 1 line) (runs line)))
    ]

-- what stands before the first line end
no_end_before : (text : List ℕ) → HasNoEnd (take (prefix_len no_end text) text)
no_end_before [] = refl
no_end_before (octet ∷ text) =
    elim (cases_Bool (octet == 10)) [
      | inl e ↦ rw e refl
      | inr e ↦ rw (e, one_more (prefix_len no_end text)) (rw e (no_end_before text))
    ]

end_after : (text : List ℕ) (octet : ℕ) (rest : List ℕ) → drop (prefix_len no_end text) text ≡ octet ∷ rest → octet ≡ 10
end_after [] octet rest = λ h. (cc)
end_after (first ∷ text) octet rest =
    elim (cases_Bool (first == 10)) [
      | inl e ↦ rw e (λ h. (let f = eqb-true first 10 e in cc))
      | inr e ↦ rw (e, one_more (prefix_len no_end text)) (end_after text octet rest)
    ]

none_left : (all : List ℕ) (number : ℕ) → All (LineStandsIn all) (numbered_from number (lines []))
unfolding numbered_from lines
none_left all number = All-nil (LineStandsIn all)

numbered_cut : (number : ℕ) (line : List ℕ) (rest : List (List ℕ)) → numbered_from number (line ∷ rest) ≡ option_to_list (line_of number line) ++ numbered_from (number + 1) rest
unfolding numbered_from
numbered_cut number line rest = refl

-- the lines after the first one, where the shorter texts are known
after_stand : (fuel : ℕ) (all done text front tail : List ℕ) (number : ℕ) → length text ≤ suc fuel → all ≡ done ++ text → text ≡ front ++ tail → ((octet : ℕ) (rest : List ℕ) → tail ≡ octet ∷ rest → octet ≡ 10) → HasNoEnd front → number ≡ 1 + count_by is_end done → ((longer shorter : List ℕ) (next : ℕ) → length shorter ≤ fuel → all ≡ longer ++ shorter → EndsLine longer → next ≡ 1 + count_by is_end longer → All (LineStandsIn all) (numbered_from next (lines shorter))) → All (LineStandsIn all) (numbered_from (number + 1) (lines (drop 1 tail)))
after_stand fuel all done text front [] number short is cut ending clean lines_are known = none_left all (number + 1)
after_stand fuel all done text front (octet ∷ rest) number short is cut ending clean lines_are known =
    let ten : octet ≡ 10 = ending octet rest refl in
    let here : all ≡ ((done ++ front) ++ 10 ∷ []) ++ rest = is ∙ rw (cut, ten) (simp append_assoc) in
    let count : number + 1 ≡ 1 + count_by is_end ((done ++ front) ++ 10 ∷ []) = omega (arith, sum_by-append (λ x. cond (is_end x) 1 0) (done ++ front) (10 ∷ []), sum_by-append (λ x. cond (is_end x) 1 0) done front, no_end_count front clean) in
    let less : length rest ≤ fuel = omega (arith, ap (λ (l : List ℕ). length l) cut, length-append front (octet ∷ rest)) in
    known ((done ++ front) ++ 10 ∷ []) rest (number + 1) less here (inr (done ++ front, refl)) count

-- the lines after a line end, for a text whose lines are cut
lines_stand : (fuel : ℕ) (all done text : List ℕ) (number : ℕ) → length text ≤ fuel → all ≡ done ++ text → EndsLine done → number ≡ 1 + count_by is_end done → All (LineStandsIn all) (numbered_from number (lines text))
lines_stand fuel all done [] number short is ends lines_are = none_left all number
lines_stand zero all done (octet ∷ text) number short is ends lines_are = absurd (omega arith)
lines_stand (suc fuel) all done (octet ∷ text) number short is ends lines_are =
    let front = take (prefix_len no_end (octet ∷ text)) (octet ∷ text) in
    let whole : front ++ drop (prefix_len no_end (octet ∷ text)) (octet ∷ text) ≡ octet ∷ text = take-append-drop (prefix_len no_end (octet ∷ text)) (octet ∷ text) in
    let clean : HasNoEnd front = no_end_before (octet ∷ text) in
    let here : All (LineStandsIn all) (option_to_list (line_of number front)) = line_stands all done front (drop (prefix_len no_end (octet ∷ text)) (octet ∷ text)) number (is ∙ ap (λ (l : List ℕ). done ++ l) (sym whole)) ends clean lines_are in
    let after : All (LineStandsIn all) (numbered_from (number + 1) (lines (drop 1 (drop (prefix_len no_end (octet ∷ text)) (octet ∷ text))))) =
    after_stand fuel all done (octet ∷ text) front (drop (prefix_len no_end (octet ∷ text)) (octet ∷ text)) number short is (sym whole) (end_after (octet ∷ text)) clean lines_are (λ d t n. lines_stand fuel all d t n) in
    rw (lines_cut octet text, numbered_cut number front (lines (drop 1 (drop (prefix_len no_end (octet ∷ text)) (octet ∷ text))))) (All-append (LineStandsIn all) (option_to_list (line_of number front)) (numbered_from (number + 1) (lines (drop 1 (drop (prefix_len no_end (octet ∷ text)) (octet ∷ text))))) here after)

pub places_are_right : PlacesAreRight
places_are_right text = lines_stand (length text) text [] text 1 (omega arith) refl (inl refl) (omega arith)
