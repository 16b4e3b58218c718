-- The first break of a line, by the rule that it breaks.
use Rattle.std.proofs.Common.{◌≡◌, ◌+◌, ◌<◌, ◌≤◌, ℕ, false, Result, Ok, Err, List, [], ◌∷◌, ◌++◌, length, refl, sym, ap, ◌∙◌, inl, inr, arith}
use Rattle.std.specs.Prelude.{codes}
use Rattle.std.specs.List.{sum_by}
use Rattle.std.specs.Str.{bytes_eq}
use Rattle.std.proofs.lemmas.Bool.{false≢true}
use Rattle.std.proofs.lemmas.Slice.Eq.{bytes_eq-Decides}
use Rattle.std.proofs.lemmas.List.Sums.{sum_by-append}
use Rattle.esi_base.specs.declared.place.Refusal.{Refusal}
use Rattle.small_text.specs.Lines.{Part, Line, place_of}
use Rattle.small_text.specs.LineLaws.{PartsAscend, AscendFrom}
use Rattle.stimulus_text.specs.declared.limits.TheConstants.{STIMULUS_CYCLES, STIMULUS_LINES}
use Rattle.stimulus_text.specs.declared.rule.StimulusRule.{StimulusRule}
use Rattle.stimulus_text.specs.declared.rule.StimulusRule.TheVariants.{UnknownWord, PartCount, BadPart, PastLimit}
use Rattle.stimulus_text.specs.declared.step.Step.{Step}
use Rattle.stimulus_text.specs.RuleNumbers.{rule_number}
use Rattle.stimulus_text.specs.Stimulus.{cycles_of}
use Rattle.stimulus_text.specs.LineRules.{StepOf, cycles_in, IsUnknown, IsMiscounted, IsNoOctets, IsNoSwitch, IsNoNumber, PassesLimits, Breaks, IsGood, NoLater}
use Rattle.stimulus_text.specs.LineRules.Breaks.{unknown, miscounted, no_octets, no_switch, no_number, passes}

-- the words differ
pub differ : (x y : List ℕ) → bytes_eq x y ≡ false → x ≡ y → ⊥
differ x y apart same = false≢true (sym apart ∙ (bytes_eq-Decides x y).1 same)

pub put_run : codes "put" ≡ codes "run" → ⊥
put_run = differ (codes "put") (codes "run") refl

pub put_ready : codes "put" ≡ codes "ready" → ⊥
put_ready = differ (codes "put") (codes "ready") refl

pub run_ready : codes "run" ≡ codes "ready" → ⊥
run_ready = differ (codes "run") (codes "ready") refl

-- the part that no octets, no switch or no number stands at is after the first
after_octets : (line : Line) (part : Part) → PartsAscend line → IsNoOctets line part → line.word.column < part.column
after_octets line part up h = let up' : AscendFrom (line.word.column + 1) (h.name ∷ part ∷ []) = rw h.parts at up in omega arith

after_switch : (line : Line) (part : Part) → PartsAscend line → IsNoSwitch line part → line.word.column < part.column
after_switch line part up h = let up' : AscendFrom (line.word.column + 1) (h.name ∷ part ∷ []) = rw h.parts at up in omega arith

after_number : (line : Line) (part : Part) → PartsAscend line → IsNoNumber line part → line.word.column < part.column
after_number line part up h = let up' : AscendFrom (line.word.column + 1) (part ∷ []) = rw h.parts at up in omega arith

-- a break reported at the first part, with each smaller number ruled out
pub first_unknown : (before : List Line) (line : Line) → PartsAscend line → (rule : StimulusRule) (other : Part) → Breaks before line rule other → NoLater UnknownWord line.word rule other
first_unknown before line up rule other (unknown h) = inr (refl, omega arith)
first_unknown before line up rule other (miscounted h) = inr (refl, omega arith)
first_unknown before line up rule other (no_octets part h) = inl (after_octets line part up h)
first_unknown before line up rule other (no_switch part h) = inl (after_switch line part up h)
first_unknown before line up rule other (no_number part h) = inl (after_number line part up h)
first_unknown before line up rule other (passes h) = inr (refl, omega arith)

pub first_miscounted : (before : List Line) (line : Line) → PartsAscend line → (IsUnknown line → ⊥) → (rule : StimulusRule) (other : Part) → Breaks before line rule other → NoLater PartCount line.word rule other
first_miscounted before line up known rule other (unknown h) = absurd (known h)
first_miscounted before line up known rule other (miscounted h) = inr (refl, omega arith)
first_miscounted before line up known rule other (no_octets part h) = inl (after_octets line part up h)
first_miscounted before line up known rule other (no_switch part h) = inl (after_switch line part up h)
first_miscounted before line up known rule other (no_number part h) = inl (after_number line part up h)
first_miscounted before line up known rule other (passes h) = inr (refl, omega arith)

pub first_past_limit : (before : List Line) (line : Line) → PartsAscend line → (IsUnknown line → ⊥) → (IsMiscounted line → ⊥) → (rule : StimulusRule) (other : Part) → Breaks before line rule other → NoLater PastLimit line.word rule other
first_past_limit before line up known counted rule other (unknown h) = absurd (known h)
first_past_limit before line up known counted rule other (miscounted h) = absurd (counted h)
first_past_limit before line up known counted rule other (no_octets part h) = inl (after_octets line part up h)
first_past_limit before line up known counted rule other (no_switch part h) = inl (after_switch line part up h)
first_past_limit before line up known counted rule other (no_number part h) = inl (after_number line part up h)
first_past_limit before line up known counted rule other (passes h) = inr (refl, omega arith)

-- a break reported after the first part, with all others ruled out
pub first_bad_part : (before : List Line) (line : Line) (part : Part) → (IsUnknown line → ⊥) → (IsMiscounted line → ⊥) → (PassesLimits before line → ⊥) → ((other : Part) → IsNoOctets line other → part ≡ other) → ((other : Part) → IsNoSwitch line other → part ≡ other) → ((other : Part) → IsNoNumber line other → part ≡ other) → (rule : StimulusRule) (other : Part) → Breaks before line rule other → NoLater BadPart part rule other
first_bad_part before line part known counted within octets switch digits rule other (unknown h) = absurd (known h)
first_bad_part before line part known counted within octets switch digits rule other (miscounted h) = absurd (counted h)
first_bad_part before line part known counted within octets switch digits rule other (no_octets other' h) = inr (ap (λ (p : Part). p.column) (octets other' h), omega arith)
first_bad_part before line part known counted within octets switch digits rule other (no_switch other' h) = inr (ap (λ (p : Part). p.column) (switch other' h), omega arith)
first_bad_part before line part known counted within octets switch digits rule other (no_number other' h) = inr (ap (λ (p : Part). p.column) (digits other' h), omega arith)
first_bad_part before line part known counted within octets switch digits rule other (passes h) = absurd (within h)

pub good : (before : List Line) (line : Line) → (IsUnknown line → ⊥) → (IsMiscounted line → ⊥) → (PassesLimits before line → ⊥) → ((other : Part) → IsNoOctets line other → ⊥) → ((other : Part) → IsNoSwitch line other → ⊥) → ((other : Part) → IsNoNumber line other → ⊥) → IsGood before line
good before line known counted within octets switch digits rule other (unknown h) = known h
good before line known counted within octets switch digits rule other (miscounted h) = counted h
good before line known counted within octets switch digits rule other (no_octets other' h) = octets other' h
good before line known counted within octets switch digits rule other (no_switch other' h) = switch other' h
good before line known counted within octets switch digits rule other (no_number other' h) = digits other' h
good before line known counted within octets switch digits rule other (passes h) = within h

-- what is known of a line that is read, and of one that is refused
pub record Read (before : List Line) (line : Line) (step : Step) : Type 0 where
  pub step_is : StepOf line step
  pub is_good : IsGood before line
  pub few : length before < STIMULUS_LINES
  pub cycles_are : cycles_in line ≡ cycles_of step
  pub low : sum_by cycles_in before + cycles_of step ≤ STIMULUS_CYCLES

pub record Reported (before : List Line) (line : Line) (refusal : Refusal) : Type 0 where
  pub rule : StimulusRule
  pub part : Part
  pub breaks : Breaks before line rule part
  pub number : refusal.number ≡ rule_number rule
  pub place : refusal.place ≡ place_of line.number part
  pub first : (other : StimulusRule) (other_part : Part) → Breaks before line other other_part → NoLater rule part other other_part

abbrev pub Explains : List Line → Line → Result Step Refusal → Type 0
Explains before line (Ok step) = Read before line step
Explains before line (Err refusal) = Reported before line refusal

-- the sum of the cycles, this line's among them
pub sum_with : (before : List Line) (line : Line) → sum_by cycles_in (before ++ line ∷ []) ≡ sum_by cycles_in before + cycles_in line
sum_with before line = omega (arith, sum_by-append cycles_in before (line ∷ []))

-- a limit is passed by the count of lines or by the cycles alone
pub within_limits : (before : List Line) (line : Line) → length before < STIMULUS_LINES → sum_by cycles_in before + cycles_in line ≤ STIMULUS_CYCLES → PassesLimits before line → ⊥
within_limits before line few low (inl h) = omega arith
within_limits before line few low (inr h) = omega (arith, sum_with before line)
