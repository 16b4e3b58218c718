-- What a stimulus text means, line by line.
use Rattle.std.specs.Prelude.{ℕ, ◌≡◌, ◌+◌, Bool, true, false, nat_lt, nat_le, Option, Some, None, Result, Ok, Err, List, [], ◌∷◌, if◌then◌else◌, length, codes, ◌++◌, refl}
use Rattle.std.specs.Str.{bytes_eq}
use Rattle.esi_base.specs.Answers.{◌>>=◌}
use Rattle.esi_base.specs.declared.place.Refusal.{Refusal}
use Rattle.small_text.specs.Lines.{Part, Line, place_of, lines, parts_from, numbered_from, counting_lines}
use Rattle.small_text.specs.Numbers.{number_of}
use Rattle.small_text.specs.Hexadecimal.{octets_of_digits, octets_of}
use Rattle.stimulus_text.specs.declared.limits.TheConstants.{LARGEST_RUN, LONGEST_STIMULUS, STIMULUS_CYCLES, STIMULUS_LINES}
use Rattle.stimulus_text.specs.declared.rule.StimulusRule.{StimulusRule}
use Rattle.stimulus_text.specs.declared.rule.StimulusRule.TheVariants.{TooLong, UnknownWord, PartCount, BadPart, PastLimit}
use Rattle.stimulus_text.specs.declared.step.Stimulus.{Stimulus}
use Rattle.stimulus_text.specs.declared.step.Step.{Step}
use Rattle.stimulus_text.specs.declared.step.Step.TheVariants.{Put, Ready, Run}
use Rattle.stimulus_text.specs.RuleNumbers.{rule_number}

-- A rule is broken at a part of the line with a number.
abbrev pub refuse_at : {A : Type 0} → StimulusRule → ℕ → Part → Result A Refusal
refuse_at rule line part = Err (record { number = rule_number rule; place = place_of line part })

-- What a line puts, where its second part is these octets or none.
abbrev pub put_of : Line → Part → Part → Option (List ℕ) → Result Step Refusal
put_of line name digits None = refuse_at BadPart line.number digits
put_of line name digits (Some octets) =
    Ok (Put name.octets octets (place_of line.number name) (place_of line.number digits))

-- What a switch is set to: `1` is on and `0` is off.
abbrev pub switch_of : List ℕ → Option Bool
switch_of octets =
    if bytes_eq octets (codes "1") then Some true else (if bytes_eq octets (codes "0") then Some false else None)

-- What a line switches, where its second part is this setting or none.
abbrev pub ready_of : Line → Part → Part → Option Bool → Result Step Refusal
ready_of line name digit None = refuse_at BadPart line.number digit
ready_of line name digit (Some on) = Ok (Ready name.octets on (place_of line.number name))

-- What a line runs, where its part is this number or none and so many cycles are run before it.
abbrev pub run_of : ℕ → Line → Part → Option ℕ → Result Step Refusal
run_of cycles line digits None = refuse_at BadPart line.number digits
run_of cycles line digits (Some more) =
    if nat_lt STIMULUS_CYCLES (cycles + more) then refuse_at PastLimit line.number line.word else Ok (Run more)

-- A `put` line has a name and octets after its first part; so many lines count before it.
abbrev pub put_step : ℕ → Line → List Part → Result Step Refusal
put_step lines line (name ∷ digits ∷ []) =
    if nat_le STIMULUS_LINES lines then refuse_at PastLimit line.number line.word
    else put_of line name digits (octets_of digits.octets)
put_step lines line _ = refuse_at PartCount line.number line.word

-- A `ready` line has a name and a switch after its first part.
abbrev pub ready_step : ℕ → Line → List Part → Result Step Refusal
ready_step lines line (name ∷ digit ∷ []) =
    if nat_le STIMULUS_LINES lines then refuse_at PastLimit line.number line.word
    else ready_of line name digit (switch_of digit.octets)
ready_step lines line _ = refuse_at PartCount line.number line.word

-- A `run` line has a number after its first part.
abbrev pub run_step : ℕ → ℕ → Line → List Part → Result Step Refusal
run_step lines cycles line (digits ∷ []) =
    if nat_le STIMULUS_LINES lines then refuse_at PastLimit line.number line.word
    else run_of cycles line digits (number_of LARGEST_RUN digits.octets)
run_step lines cycles line _ = refuse_at PartCount line.number line.word

-- What a line asks for, by its first part; so many lines count and so many cycles are run before it.
unfoldable pub step_of : ℕ → ℕ → Line → Result Step Refusal
step_of lines cycles line =
    if bytes_eq line.word.octets (codes "put") then put_step lines line line.others
    else (if bytes_eq line.word.octets (codes "ready") then ready_step lines line line.others
    else (if bytes_eq line.word.octets (codes "run") then run_step lines cycles line line.others
    else refuse_at UnknownWord line.number line.word))

-- The cycles that a step runs.
abbrev pub cycles_of : Step → ℕ
cycles_of (Put _ _ _ _) = 0
cycles_of (Ready _ _ _) = 0
cycles_of (Run cycles) = cycles

-- The steps of the lines that are left, after so many lines and cycles.
unfoldable pub steps_of : ℕ → ℕ → List Line → Result (List Step) Refusal
steps_of lines cycles [] = Ok []
steps_of lines cycles (line ∷ rest) = do
  step ← step_of lines cycles line
  steps ← steps_of (lines + 1) (cycles + cycles_of step) rest
  Ok (step ∷ steps)

-- A text that is too long is refused at its first octet.
abbrev pub too_long_refusal : Refusal
too_long_refusal = record { number = rule_number TooLong; place = record { line = 1; column = 1 } }

-- A text that is too long is refused before any line is read.
unfoldable pub stimulus_of : List ℕ → Result Stimulus Refusal
stimulus_of text =
    if nat_lt LONGEST_STIMULUS (length text) then Err too_long_refusal
    else (do
      steps ← steps_of 0 0 (counting_lines text)
      Ok (record { steps = steps }))

-- Texts and what they mean: steps, or a refusal and its place.
pub stimulus_examples :
    (stimulus_of [] ≡ Ok (record { steps = [] }))
    × (stimulus_of (codes "put in 05")
    ≡ Ok (record { steps = Put (codes "in") (5 ∷ []) (record { line = 1; column = 5 }) (record { line = 1; column = 8 }) ∷ [] }))
    × (stimulus_of (codes "ready out 0")
    ≡ Ok (record { steps = Ready (codes "out") false (record { line = 1; column = 7 }) ∷ [] }))
    × (stimulus_of (codes "ready out 1")
    ≡ Ok (record { steps = Ready (codes "out") true (record { line = 1; column = 7 }) ∷ [] }))
    × (stimulus_of (codes "ready out 2") ≡ Err (record { number = rule_number BadPart; place = record { line = 1; column = 11 } }))
    × (stimulus_of (codes "push in 01") ≡ Err (record { number = rule_number UnknownWord; place = record { line = 1; column = 1 } }))
    × (stimulus_of (codes "put in 0") ≡ Err (record { number = rule_number BadPart; place = record { line = 1; column = 8 } }))
    × (stimulus_of (codes "run 01") ≡ Err (record { number = rule_number BadPart; place = record { line = 1; column = 5 } }))
    × (stimulus_of (codes "run 1000000" ++ 10 ∷ codes "run 1") ≡ Err (record { number = rule_number PastLimit; place = record { line = 2; column = 1 } }))
unfolding stimulus_of steps_of step_of lines parts_from numbered_from octets_of_digits
stimulus_examples = (refl, refl, refl, refl, refl, refl, refl, refl, refl)
