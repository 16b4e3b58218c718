-- Each line is read as its step, or its first break is reported.
use Rattle.std.proofs.Common.{◌≡◌, ◌≢◌, ◌+◌, ◌<◌, ◌≤◌, ℕ, Bool, true, false, if◌then◌else◌, Option, Some, None, List, [], ◌∷◌, length, refl, sym, ap, ◌∙◌, inl, inr, arith, nat_lt, nat_le}
use Rattle.std.proofs.lemmas.Bool.{cases_Bool}
use Rattle.std.specs.Prelude.{codes, unwrap_or}
use Rattle.std.specs.List.{sum_by}
use Rattle.std.specs.Str.{bytes_eq}
use Rattle.std.proofs.lemmas.Bool.Decides.{nat_tests}
use Rattle.std.proofs.lemmas.Slice.Eq.{bytes_eq-Decides}
use Rattle.small_text.specs.Lines.{Part, Line, place_of}
use Rattle.small_text.specs.LineLaws.{PartsAscend}
use Rattle.small_text.specs.Numbers.{number_of}
use Rattle.small_text.specs.Hexadecimal.{octets_of}
use Rattle.stimulus_text.specs.declared.limits.TheConstants.{LARGEST_RUN, STIMULUS_CYCLES, STIMULUS_LINES}
use Rattle.stimulus_text.specs.declared.rule.StimulusRule.TheVariants.{UnknownWord, PartCount, BadPart, PastLimit}
use Rattle.stimulus_text.specs.RuleNumbers.{rule_number}
use Rattle.stimulus_text.specs.Stimulus.{put_of, switch_of, ready_of, run_of, put_step, ready_step, run_step, step_of}
use Rattle.stimulus_text.specs.LineRules.{switch_text, cycles_in, IsUnknown, IsMiscounted, IsNoOctets, IsNoSwitch, IsNoNumber, PassesLimits}
use Rattle.stimulus_text.specs.LineRules.IsMiscounted.{of_put, of_ready, of_run}
use Rattle.stimulus_text.specs.LineRules.Breaks.{unknown, miscounted, no_octets, no_switch, no_number, passes}
use Rattle.stimulus_text.proofs.FirstBreaks.{differ, put_run, put_ready, run_ready, first_unknown, first_miscounted, first_past_limit, first_bad_part, good, Reported, Explains, sum_with, within_limits}

-- ---- a `put` line

module _ (before : List Line) (line : Line) (up : PartsAscend line) (word : line.word.octets ≡ codes "put") (low : sum_by cycles_in before ≤ STIMULUS_CYCLES) where
  put_known : IsUnknown line → ⊥
  put_known h = h.not_put word

  put_no_switch : (other : Part) → IsNoSwitch line other → ⊥
  put_no_switch other h = put_ready (sym word ∙ h.word)

  put_no_number : (other : Part) → IsNoNumber line other → ⊥
  put_no_number other h = put_run (sym word ∙ h.word)

  put_cycles : cycles_in line ≡ 0
  put_cycles = rw word refl

  put_miscounted : (length line.others ≢ 2) → Reported before line (record { number = rule_number PartCount; place = place_of line.number line.word })
  put_miscounted wrong = record { rule = PartCount; number = refl; part = line.word; breaks = miscounted (of_put word wrong); place = refl; first = first_miscounted before line up put_known }

  put_counted : (length line.others ≡ 2) → IsMiscounted line → ⊥
  put_counted right (of_put w wrong) = wrong right
  put_counted right (of_ready w wrong) = put_ready (sym word ∙ w)
  put_counted right (of_run w wrong) = put_run (sym word ∙ w)

  put_full : (length line.others ≡ 2) → STIMULUS_LINES ≤ length before → Reported before line (record { number = rule_number PastLimit; place = place_of line.number line.word })
  put_full right full = record { rule = PastLimit; number = refl; part = line.word; breaks = passes (inl full); place = refl; first = first_past_limit before line up put_known (put_counted right) }

  put_within : length before < STIMULUS_LINES → PassesLimits before line → ⊥
  put_within few = within_limits before line few (omega (arith, put_cycles))

  put_read : (name digits : Part) (read : Option (List ℕ)) → line.others ≡ name ∷ digits ∷ [] → length before < STIMULUS_LINES → octets_of digits.octets ≡ read → Explains before line (put_of line name digits read)
  put_read name digits None parts few read =
      let right : length line.others ≡ 2 = rw parts refl in
      let same : (other : Part) → IsNoOctets line other → digits ≡ other = λ other h. (let e : name ∷ digits ∷ [] ≡ h.name ∷ other ∷ [] = sym parts ∙ h.parts in cc) in
      record { rule = BadPart; number = refl; part = digits; breaks = no_octets digits (record { name = name; word = word; parts = parts; unread = read }); place = refl; first = first_bad_part before line digits put_known (put_counted right) (put_within few) same (λ other h. absurd (put_no_switch other h)) (λ other h. absurd (put_no_number other h)) }
  put_read name digits (Some octets) parts few read =
      let right : length line.others ≡ 2 = rw parts refl in
      let readable : (other : Part) → IsNoOctets line other → ⊥ = λ other h. (let e : name ∷ digits ∷ [] ≡ h.name ∷ other ∷ [] = sym parts ∙ h.parts in let d : digits ≡ other = cc in let n = h.unread in cc) in
      record { step_is = record { second = name; third = digits; word = word; parts = parts; name_is = refl; octets_are = read; place_is = refl; octets_place_is = refl }; is_good = good before line put_known (put_counted right) (put_within few) readable put_no_switch put_no_number; few = few; cycles_are = put_cycles; low = omega arith }

  explain_put : (others : List Part) → line.others ≡ others → Explains before line (put_step (length before) line others)
  explain_put [] parts = put_miscounted (λ e. absurd (omega (arith, ap (λ (p : List Part). length p) parts)))
  explain_put (a ∷ []) parts = put_miscounted (λ e. absurd (omega (arith, ap (λ (p : List Part). length p) parts)))
  explain_put (a ∷ b ∷ []) parts =
      let right : length line.others ≡ 2 = rw parts refl in
      elim (cases_Bool (nat_le STIMULUS_LINES (length before))) [
        | inl e ↦ rw e (put_full right (grind (arith, nat_tests)))
        | inr e ↦ rw e (put_read a b (octets_of b.octets) parts (grind (arith, nat_tests)) refl)
      ]
  explain_put (a ∷ b ∷ c ∷ others) parts = put_miscounted (λ e. absurd (omega (arith, ap (λ (p : List Part). length p) parts)))

-- ---- a `ready` line

is_word : (x y : List ℕ) → bytes_eq x y ≡ true → x ≡ y
is_word x y h = (bytes_eq-Decides x y).0 h

no_word : (x y : List ℕ) → bytes_eq x y ≡ false → x ≡ y → ⊥
no_word x y h = differ x y h

-- the setting of a switch is the one that its octets write
switch_found : (octets : List ℕ) (on : Bool) → switch_of octets ≡ Some on → octets ≡ switch_text on
switch_found octets on is = by (bytes_eq octets (codes "1")) (bytes_eq octets (codes "0")) refl refl on is
  where
    by : (one zero : Bool) → bytes_eq octets (codes "1") ≡ one → bytes_eq octets (codes "0") ≡ zero → (set : Bool) → (if one then Some true else (if zero then Some false else None)) ≡ Some set → octets ≡ switch_text set
    by true zero a b true e = is_word _ _ a
    by true zero a b false e = absurd (cc)
    by false true a b true e = absurd (cc)
    by false true a b false e = is_word _ _ b
    by false false a b set e = absurd (cc)

-- octets that write a setting are read as it
pub switch_whole : (octets : List ℕ) (on : Bool) → octets ≡ switch_text on → switch_of octets ≡ Some on
switch_whole octets true is = rw is refl
switch_whole octets false is = rw is refl

module _ (before : List Line) (line : Line) (up : PartsAscend line) (word : line.word.octets ≡ codes "ready") (low : sum_by cycles_in before ≤ STIMULUS_CYCLES) where
  ready_known : IsUnknown line → ⊥
  ready_known h = h.not_ready word

  ready_no_octets : (other : Part) → IsNoOctets line other → ⊥
  ready_no_octets other h = put_ready (sym h.word ∙ word)

  ready_no_number : (other : Part) → IsNoNumber line other → ⊥
  ready_no_number other h = run_ready (sym h.word ∙ word)

  ready_cycles : cycles_in line ≡ 0
  ready_cycles = rw word refl

  ready_miscounted : (length line.others ≢ 2) → Reported before line (record { number = rule_number PartCount; place = place_of line.number line.word })
  ready_miscounted wrong = record { rule = PartCount; number = refl; part = line.word; breaks = miscounted (of_ready word wrong); place = refl; first = first_miscounted before line up ready_known }

  ready_counted : (length line.others ≡ 2) → IsMiscounted line → ⊥
  ready_counted right (of_put w wrong) = put_ready (sym w ∙ word)
  ready_counted right (of_ready w wrong) = wrong right
  ready_counted right (of_run w wrong) = run_ready (sym w ∙ word)

  ready_full : (length line.others ≡ 2) → STIMULUS_LINES ≤ length before → Reported before line (record { number = rule_number PastLimit; place = place_of line.number line.word })
  ready_full right full = record { rule = PastLimit; number = refl; part = line.word; breaks = passes (inl full); place = refl; first = first_past_limit before line up ready_known (ready_counted right) }

  ready_within : length before < STIMULUS_LINES → PassesLimits before line → ⊥
  ready_within few = within_limits before line few (omega (arith, ready_cycles))

  ready_read : (name digit : Part) (read : Option Bool) → line.others ≡ name ∷ digit ∷ [] → length before < STIMULUS_LINES → switch_of digit.octets ≡ read → Explains before line (ready_of line name digit read)
  ready_read name digit None parts few read =
      let right : length line.others ≡ 2 = rw parts refl in
      let unread : (on : Bool) → digit.octets ≡ switch_text on → ⊥ = λ on is. (let s : switch_of digit.octets ≡ Some on = switch_whole digit.octets on is in cc) in
      let same : (other : Part) → IsNoSwitch line other → digit ≡ other = λ other h. (let e : name ∷ digit ∷ [] ≡ h.name ∷ other ∷ [] = sym parts ∙ h.parts in cc) in
      record { rule = BadPart; number = refl; part = digit; breaks = no_switch digit (record { name = name; word = word; parts = parts; unread = unread }); place = refl; first = first_bad_part before line digit ready_known (ready_counted right) (ready_within few) (λ other h. absurd (ready_no_octets other h)) same (λ other h. absurd (ready_no_number other h)) }
  ready_read name digit (Some on) parts few read =
      let right : length line.others ≡ 2 = rw parts refl in
      let is : digit.octets ≡ switch_text on = switch_found digit.octets on read in
      let readable : (other : Part) → IsNoSwitch line other → ⊥ = λ other h. (let e : name ∷ digit ∷ [] ≡ h.name ∷ other ∷ [] = sym parts ∙ h.parts in let d : digit ≡ other = cc in h.unread on (ap (λ (p : Part). p.octets) (sym d) ∙ is)) in
      record { step_is = record { second = name; third = digit; word = word; parts = parts; name_is = refl; switch_is = is; place_is = refl }; is_good = good before line ready_known (ready_counted right) (ready_within few) ready_no_octets readable ready_no_number; few = few; cycles_are = ready_cycles; low = omega arith }

  explain_ready : (others : List Part) → line.others ≡ others → Explains before line (ready_step (length before) line others)
  explain_ready [] parts = ready_miscounted (λ e. absurd (omega (arith, ap (λ (p : List Part). length p) parts)))
  explain_ready (a ∷ []) parts = ready_miscounted (λ e. absurd (omega (arith, ap (λ (p : List Part). length p) parts)))
  explain_ready (a ∷ b ∷ []) parts =
      let right : length line.others ≡ 2 = rw parts refl in
      elim (cases_Bool (nat_le STIMULUS_LINES (length before))) [
        | inl e ↦ rw e (ready_full right (grind (arith, nat_tests)))
        | inr e ↦ rw e (ready_read a b (switch_of b.octets) parts (grind (arith, nat_tests)) refl)
      ]
  explain_ready (a ∷ b ∷ c ∷ others) parts = ready_miscounted (λ e. absurd (omega (arith, ap (λ (p : List Part). length p) parts)))

-- ---- a `run` line

module _ (before : List Line) (line : Line) (up : PartsAscend line) (word : line.word.octets ≡ codes "run") (low : sum_by cycles_in before ≤ STIMULUS_CYCLES) where
  run_known : IsUnknown line → ⊥
  run_known h = h.not_run word

  run_no_octets : (other : Part) → IsNoOctets line other → ⊥
  run_no_octets other h = put_run (sym h.word ∙ word)

  run_no_switch : (other : Part) → IsNoSwitch line other → ⊥
  run_no_switch other h = run_ready (sym word ∙ h.word)

  run_miscounted : (length line.others ≢ 1) → Reported before line (record { number = rule_number PartCount; place = place_of line.number line.word })
  run_miscounted wrong = record { rule = PartCount; number = refl; part = line.word; breaks = miscounted (of_run word wrong); place = refl; first = first_miscounted before line up run_known }

  run_counted : (length line.others ≡ 1) → IsMiscounted line → ⊥
  run_counted right (of_put w wrong) = put_run (sym w ∙ word)
  run_counted right (of_ready w wrong) = run_ready (sym word ∙ w)
  run_counted right (of_run w wrong) = wrong right

  run_passes : (length line.others ≡ 1) → PassesLimits before line → Reported before line (record { number = rule_number PastLimit; place = place_of line.number line.word })
  run_passes right h = record { rule = PastLimit; number = refl; part = line.word; breaks = passes h; place = refl; first = first_past_limit before line up run_known (run_counted right) }

  run_cycles : (digits : Part) (read : Option ℕ) → line.others ≡ digits ∷ [] → number_of LARGEST_RUN digits.octets ≡ read → cycles_in line ≡ unwrap_or read 0
  run_cycles digits read parts is = rw (word, parts, is) refl

  run_read : (digits : Part) (read : Option ℕ) → line.others ≡ digits ∷ [] → length before < STIMULUS_LINES → number_of LARGEST_RUN digits.octets ≡ read → Explains before line (run_of (sum_by cycles_in before) line digits read)
  run_read digits None parts few read =
      let right : length line.others ≡ 1 = rw parts refl in
      let none : cycles_in line ≡ 0 = run_cycles digits None parts read in
      let same : (other : Part) → IsNoNumber line other → digits ≡ other = λ other h. (let e : digits ∷ [] ≡ other ∷ [] = sym parts ∙ h.parts in cc) in
      record { rule = BadPart; number = refl; part = digits; breaks = no_number digits (record { word = word; parts = parts; unread = read }); place = refl; first = first_bad_part before line digits run_known (run_counted right) (within_limits before line few (omega arith)) (λ other h. absurd (run_no_octets other h)) (λ other h. absurd (run_no_switch other h)) same }
  run_read digits (Some more) parts few read =
      let right : length line.others ≡ 1 = rw parts refl in
      let run : cycles_in line ≡ more = run_cycles digits (Some more) parts read in
      let readable : (other : Part) → IsNoNumber line other → ⊥ = λ other h. (let e : digits ∷ [] ≡ other ∷ [] = sym parts ∙ h.parts in let d : digits ≡ other = cc in let n = h.unread in cc) in
      elim (cases_Bool (nat_lt STIMULUS_CYCLES (sum_by cycles_in before + more))) [
        | inl e ↦ rw e (run_passes right (inr (let h : STIMULUS_CYCLES < sum_by cycles_in before + more = grind (arith, nat_tests) in omega (arith, sum_with before line))))
        | inr e ↦ rw e (let h : sum_by cycles_in before + more ≤ STIMULUS_CYCLES = grind (arith, nat_tests) in
            record { step_is = record { second = digits; word = word; parts = parts; number = read }; is_good = good before line run_known (run_counted right) (within_limits before line few (omega arith)) run_no_octets run_no_switch readable; few = few; cycles_are = run; low = h })
      ]

  explain_run : (others : List Part) → line.others ≡ others → Explains before line (run_step (length before) (sum_by cycles_in before) line others)
  explain_run [] parts = run_miscounted (λ e. absurd (omega (arith, ap (λ (p : List Part). length p) parts)))
  explain_run (a ∷ []) parts =
      let right : length line.others ≡ 1 = rw parts refl in
      elim (cases_Bool (nat_le STIMULUS_LINES (length before))) [
        | inl e ↦ rw e (run_passes right (inl (grind (arith, nat_tests))))
        | inr e ↦ rw e (run_read a (number_of LARGEST_RUN a.octets) parts (grind (arith, nat_tests)) refl)
      ]
  explain_run (a ∷ b ∷ others) parts = run_miscounted (λ e. absurd (omega (arith, ap (λ (p : List Part). length p) parts)))

-- ---- any line

pub explain : (before : List Line) (line : Line) → PartsAscend line → sum_by cycles_in before ≤ STIMULUS_CYCLES → Explains before line (step_of (length before) (sum_by cycles_in before) line)
unfolding step_of
explain before line up low =
    elim (cases_Bool (bytes_eq line.word.octets (codes "put"))) [
      | inl p ↦ rw p (explain_put before line up (is_word _ _ p) low line.others refl)
      | inr p ↦ elim (cases_Bool (bytes_eq line.word.octets (codes "ready"))) [
        | inl y ↦ rw (p, y) (explain_ready before line up (is_word _ _ y) low line.others refl)
        | inr y ↦ elim (cases_Bool (bytes_eq line.word.octets (codes "run"))) [
          | inl r ↦ rw (p, y, r) (explain_run before line up (is_word _ _ r) low line.others refl)
          | inr r ↦ rw (p, y, r) (record { rule = UnknownWord; number = refl; part = line.word; breaks = unknown (record { not_put = no_word _ _ p; not_run = no_word _ _ r; not_ready = no_word _ _ y }); place = refl; first = first_unknown before line up })
        ]
      ]
    ]
