-- What a text is whose lines say steps, and what breaks its rules, whatever way it is read.
use Rattle.std.specs.Prelude.{ℕ, ◌≡◌, ◌≤◌, nat_lt, Result, Ok, Err, List, [], ◌∷◌, ◌++◌, if◌then◌else◌, length}
use Rattle.esi_base.specs.Answers.{◌>>=◌}
use Rattle.esi_base.specs.declared.place.Refusal.{Refusal}
use Rattle.small_text.specs.Lines.{Line, counting_lines}
use Rattle.small_text.specs.LineLaws.{PartsAscend}
use Rattle.line_rules.specs.LineTests.{LineTest, BreaksNone, ReportsFirst, InOrder, judged}

-- The rules of a text: those of a line that comes after steps, and the step that a line says which breaks none.
pub record TextRules (S : Type 0) : Type 0 where
  pub tests : List S → Line → List LineTest
  pub said : Line → S
  pub longest : ℕ
  pub too_long : ℕ

-- The tests of each line stand in the order in which they are reported.
abbrev pub AllInOrder : {S : Type 0} → TextRules S → Type 0
AllInOrder {S} rules = (before : List S) (line : Line) → PartsAscend line → InOrder line.word.column 0 (rules.tests before line)

-- The lines are these steps, after the steps before them: each breaks no rule, and says its step.
abbrev pub AreSteps : {S : Type 0} → TextRules S → List S → List Line → List S → Type 0
AreSteps rules before [] [] = Unit {0}
AreSteps rules before [] (step ∷ steps) = ⊥
AreSteps rules before (line ∷ rest) [] = ⊥
AreSteps rules before (line ∷ rest) (step ∷ steps) =
    BreaksNone (rules.tests before line) × (rules.said line ≡ step) × AreSteps rules (before ++ step ∷ []) rest steps

-- A text is these steps: it is not too long, and the lines that count are the steps in order.
pub record IsText {S : Type 0} (rules : TextRules S) (text : List ℕ) (steps : List S) : Type 0 where
  pub short : length text ≤ rules.longest
  pub are : AreSteps rules [] (counting_lines text) steps

-- The refusal reports the first break of the first line that breaks a rule; the lines before it are steps.
pub record FirstBreak {S : Type 0} (rules : TextRules S) (before : List S) (lines : List Line) (refusal : Refusal) : Type 0 where
  pub front : List Line
  pub line : Line
  pub after : List Line
  pub split : lines ≡ front ++ line ∷ after
  pub steps : List S
  pub are : AreSteps rules before front steps
  pub reports : ReportsFirst (rules.tests (before ++ steps) line) line refusal

-- The steps before and those of the lines that are left, each line judged after all steps before it.
unfoldable pub steps_from : {S : Type 0} → TextRules S → List S → List Line → Result (List S) Refusal
steps_from rules before [] = Ok before
steps_from rules before (line ∷ rest) =
    judged line (rules.tests before line) (rules.said line) >>= (λ step. steps_from rules (before ++ step ∷ []) rest)

-- How a text that is too long is reported.
abbrev pub too_long_refusal : {S : Type 0} → TextRules S → Refusal
too_long_refusal rules = record { number = rules.too_long; place = record { line = 1; column = 1 } }

-- What a text means: its steps, or its refusal, which for a text that is too long comes before any line is read.
unfoldable pub steps_of : {S : Type 0} → TextRules S → List ℕ → Result (List S) Refusal
steps_of rules text =
    if nat_lt rules.longest (length text) then Err (too_long_refusal rules) else steps_from rules [] (counting_lines text)
