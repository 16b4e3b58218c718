-- What a stimulus is and what breaks its rules, line by line, whatever way it is read.
use Rattle.std.specs.Prelude.{ℕ, ◌≡◌, ◌≢◌, ◌<◌, ◌≤◌, ◌⊎◌, Bool, true, false, Some, None, List, [], ◌∷◌, ◌++◌, if◌then◌else◌, length, codes, unwrap_or}
use Rattle.std.specs.List.{sum_by, AllZip}
use Rattle.std.specs.Str.{bytes_eq}
use Rattle.esi_base.specs.declared.place.Place.{Place}
use Rattle.esi_base.specs.declared.place.Refusal.{Refusal}
use Rattle.small_text.specs.Lines.{Part, Line, place_of, counting_lines}
use Rattle.small_text.specs.Numbers.{number_of}
use Rattle.small_text.specs.Hexadecimal.{octets_of}
use Rattle.stimulus_text.specs.declared.limits.TheConstants.{LARGEST_RUN, LONGEST_STIMULUS, STIMULUS_CYCLES, STIMULUS_LINES}
use Rattle.stimulus_text.specs.declared.rule.StimulusRule.{StimulusRule}
use Rattle.stimulus_text.specs.declared.rule.StimulusRule.TheVariants.{UnknownWord, PartCount, BadPart, PastLimit}
use Rattle.stimulus_text.specs.declared.step.Stimulus.{Stimulus}
use Rattle.stimulus_text.specs.declared.step.Step.{Step}
use Rattle.stimulus_text.specs.declared.step.Step.TheVariants.{Put, Ready, Run}
use Rattle.stimulus_text.specs.RuleNumbers.{rule_number}
use Rattle.stimulus_text.specs.Stimulus.{cycles_of}

-- ---- a line and its step

-- The line is `put NAME OCTETS`.
pub record IsPut (line : Line) (name octets : List ℕ) (place octets_place : Place) : Type 0 where
  pub second : Part
  pub third : Part
  pub word : line.word.octets ≡ codes "put"
  pub parts : line.others ≡ second ∷ third ∷ []
  pub name_is : second.octets ≡ name
  pub octets_are : octets_of third.octets ≡ Some octets
  pub place_is : place_of line.number second ≡ place
  pub octets_place_is : place_of line.number third ≡ octets_place

-- How a switch is written: on as `1` and off as `0`.
abbrev pub switch_text : Bool → List ℕ
switch_text true = codes "1"
switch_text false = codes "0"

-- The line is `ready NAME 0|1`.
pub record IsReady (line : Line) (name : List ℕ) (on : Bool) (place : Place) : Type 0 where
  pub second : Part
  pub third : Part
  pub word : line.word.octets ≡ codes "ready"
  pub parts : line.others ≡ second ∷ third ∷ []
  pub name_is : second.octets ≡ name
  pub switch_is : third.octets ≡ switch_text on
  pub place_is : place_of line.number second ≡ place

-- The line is `run N`.
pub record IsRun (line : Line) (cycles : ℕ) : Type 0 where
  pub second : Part
  pub word : line.word.octets ≡ codes "run"
  pub parts : line.others ≡ second ∷ []
  pub number : number_of LARGEST_RUN second.octets ≡ Some cycles

-- The step is what the line says.
abbrev pub StepOf : Line → Step → Type 0
StepOf line (Put name octets place octets_place) = IsPut line name octets place octets_place
StepOf line (Ready name on place) = IsReady line name on place
StepOf line (Run cycles) = IsRun line cycles

-- A text is a stimulus where each line that counts is a step, in order, and no limit is passed.
pub record IsStimulus (text : List ℕ) (stimulus : Stimulus) : Type 0 where
  pub short : length text ≤ LONGEST_STIMULUS
  pub steps : AllZip StepOf (counting_lines text) stimulus.steps
  pub few_lines : length (counting_lines text) ≤ STIMULUS_LINES
  pub few_cycles : sum_by cycles_of stimulus.steps ≤ STIMULUS_CYCLES

-- ---- the rules

-- The cycles that a line runs: its number where it is `run N`, and else none.
abbrev pub cycles_after : List Part → ℕ
cycles_after (part ∷ []) = unwrap_or (number_of LARGEST_RUN part.octets) 0
cycles_after _ = 0

abbrev pub cycles_in : Line → ℕ
cycles_in line = if bytes_eq line.word.octets (codes "run") then cycles_after line.others else 0

-- The first part is no word of a stimulus.
pub record IsUnknown (line : Line) : Type 0 where
  pub not_put : line.word.octets ≢ codes "put"
  pub not_run : line.word.octets ≢ codes "run"
  pub not_ready : line.word.octets ≢ codes "ready"

-- A `put` and a `ready` have two parts after the first one, and a `run` has one; this line has not.
pub data IsMiscounted (line : Line) : Type 0 where
  of_put : line.word.octets ≡ codes "put" → length line.others ≢ 2 → IsMiscounted line
  of_ready : line.word.octets ≡ codes "ready" → length line.others ≢ 2 → IsMiscounted line
  of_run : line.word.octets ≡ codes "run" → length line.others ≢ 1 → IsMiscounted line

-- The third part of a `put` is no octets.
pub record IsNoOctets (line : Line) (part : Part) : Type 0 where
  pub name : Part
  pub word : line.word.octets ≡ codes "put"
  pub parts : line.others ≡ name ∷ part ∷ []
  pub unread : octets_of part.octets ≡ None

-- The third part of a `ready` is no switch, neither `0` nor `1`.
pub record IsNoSwitch (line : Line) (part : Part) : Type 0 where
  pub name : Part
  pub word : line.word.octets ≡ codes "ready"
  pub parts : line.others ≡ name ∷ part ∷ []
  pub unread : (on : Bool) → part.octets ≢ switch_text on

-- The second part of a `run` is no number.
pub record IsNoNumber (line : Line) (part : Part) : Type 0 where
  pub word : line.word.octets ≡ codes "run"
  pub parts : line.others ≡ part ∷ []
  pub unread : number_of LARGEST_RUN part.octets ≡ None

-- With this line more lines count, or more cycles are run, than the limits allow.
abbrev pub PassesLimits : List Line → Line → Type 0
PassesLimits before line = (STIMULUS_LINES ≤ length before) ⊎ (STIMULUS_CYCLES < sum_by cycles_in (before ++ line ∷ []))

-- A line breaks a rule at one of its parts, after the lines that count before it.
pub data Breaks (before : List Line) (line : Line) : StimulusRule → Part → Type 0 where
  unknown : IsUnknown line → Breaks before line UnknownWord line.word
  miscounted : IsMiscounted line → Breaks before line PartCount line.word
  no_octets : (part : Part) → IsNoOctets line part → Breaks before line BadPart part
  no_switch : (part : Part) → IsNoSwitch line part → Breaks before line BadPart part
  no_number : (part : Part) → IsNoNumber line part → Breaks before line BadPart part
  passes : PassesLimits before line → Breaks before line PastLimit line.word

-- A line that breaks no rule.
abbrev pub IsGood : List Line → Line → Type 0
IsGood before line = (rule : StimulusRule) (part : Part) → Breaks before line rule part → ⊥

-- Lines that break no rule, each after those before it.
abbrev pub AllGood : List Line → List Line → Type 0
AllGood before [] = Unit {0}
AllGood before (line ∷ rest) = IsGood before line × AllGood (before ++ line ∷ []) rest

-- One break is reported before another: at a smaller column, or at the same one with a smaller number.
abbrev pub NoLater : StimulusRule → Part → StimulusRule → Part → Type 0
NoLater rule part other other_part =
    (part.column < other_part.column) ⊎ ((part.column ≡ other_part.column) × (rule_number rule ≤ rule_number other))

-- The refusal reports the first break of the first line that breaks a rule.
pub record FirstBreak (lines : List Line) (refusal : Refusal) : Type 0 where
  pub before : List Line
  pub line : Line
  pub after : List Line
  pub rule : StimulusRule
  pub part : Part
  pub split : lines ≡ before ++ line ∷ after
  pub good : AllGood [] before
  pub breaks : Breaks before line rule part
  pub number : refusal.number ≡ rule_number rule
  pub place : refusal.place ≡ place_of line.number part
  pub first : (other : StimulusRule) (other_part : Part) → Breaks before line other other_part → NoLater rule part other other_part
