-- What a line means, part by part, is what its rules say of it.
use Rattle.std.proofs.Common.{◌≡◌, ◌+◌, ◌<◌, ℕ, Bool, true, false, Option, Some, None, Result, Ok, List, [], ◌∷◌, ◌++◌, length, refl, sym, ap, ◌∙◌, inl, inr, arith, nat_le}
use Rattle.std.proofs.lemmas.Bool.{cases_Bool}
use Rattle.std.specs.Prelude.{codes, unwrap_or, if◌then◌else◌}
use Rattle.std.specs.Str.{bytes_eq}
use Rattle.esi_base.specs.declared.place.Refusal.{Refusal}
use Rattle.esi_base.specs.declared.stop.Stop.{Stop}
use Rattle.esi_base.specs.declared.stop.Stop.TheVariants.{Refused, NoMemory}
use Rattle.esi_base.specs.Answers.{StopsAs}
use Rattle.small_text.specs.Lines.{Part, Line}
use Rattle.small_text.specs.LineLaws.{PartsAscend, AscendFrom}
use Rattle.small_text.specs.Hexadecimal.{octets_of}
use Rattle.line_rules.specs.LineTests.{LineTest, broken_at, judged, InOrder}
use Rattle.line_rules.specs.Shapes.{alone_holds, two_holds}
use Rattle.line_rules.specs.TextRules.{AllInOrder}
use Rattle.line_rules.specs.RuleLaws.{NoneTooLong, has_others, none_has}
use Rattle.script_text.specs.declared.earlier.Earlier.{Earlier}
use Rattle.script_text.specs.declared.limits.TheConstants.{SCRIPT_ATTACHES, SCRIPT_LINES}
use Rattle.script_text.specs.declared.rule.ScriptRule.{ScriptRule}
use Rattle.script_text.specs.declared.rule.ScriptRule.TheVariants.{UnknownWord, PartCount, BadPart, AttachAfterSend, NotAttached, PastLimit}
use Rattle.script_text.specs.declared.step.ScriptStep.{ScriptStep}
use Rattle.script_text.specs.declared.step.ScriptStep.TheVariants.{Attach, Send, Expect, Listing}
use Rattle.script_text.specs.RuleNumbers.{rule_number}
use Rattle.script_text.specs.ScriptLines.{ScriptForm, attach_form, send_form, form_of, status_of, count_of, form_says, after_step, after_steps, said_by, is_unread, is_long, is_status, is_attached, status_tests, attach_tests, part_tests, form_tests, line_tests, script_rules}
use Rattle.script_text.specs.ScriptLines.ScriptForm.{unknown, miscounted, attaching, attaching_with, sending, sending_with, expecting, listing}
use Rattle.script_text.specs.ScriptReading.{refuse_at, unless, with_read, with_status, attached, named, form_means}

-- ---- the meaning is the judgement

unless_is : (broken : Bool) (rule : ScriptRule) (line : Line) (part : Part) (next : Result ScriptStep Refusal) (rest : List LineTest) (says : ScriptStep) → next ≡ judged line rest says → unless broken rule line part next ≡ judged line (broken_at (rule_number rule) part broken ∷ rest) says
unless_is true rule line part next rest says same = refl
unless_is false rule line part next rest says same = same

read_is : {A : Type 0} → (line : Line) (part : Part) (next : A → Result ScriptStep Refusal) (rest : List LineTest) (says : A → ScriptStep) (default : A) → ((value : A) → next value ≡ judged line rest (says value)) → (read : Option A) → with_read line part read next ≡ judged line (broken_at (rule_number BadPart) part (is_unread read) ∷ rest) (says (unwrap_or read default))
read_is line part next rest says default same None = refl
read_is line part next rest says default same (Some value) = same value

status_is : (line : Line) (word status : Part) (step : ℕ → ScriptStep) → with_status line word status step ≡ judged line (status_tests word status) (step (unwrap_or (status_of status) 0))
status_is line word status step =
    elim (cases_Bool (is_status word)) [
      | inl e ↦ rw e (read_is line status (λ n. Ok (step n)) [] step 0 (λ n. refl) (status_of status))
      | inr e ↦ rw e refl
    ]

head_is : (line : Line) (meaning : Result ScriptStep Refusal) (rest : List LineTest) (says : ScriptStep) → meaning ≡ judged line rest says → meaning ≡ judged line (broken_at (rule_number UnknownWord) line.word false ∷ broken_at (rule_number PartCount) line.word false ∷ rest) says
head_is line meaning rest says same = same

attached_is : (earlier : Earlier) (lines : ℕ) (line : Line) (name : Part) (next : Result ScriptStep Refusal) (rest : List LineTest) (says : ScriptStep) → next ≡ judged line rest says → attached earlier lines line name next ≡ judged line (broken_at (rule_number AttachAfterSend) line.word earlier.sent ∷ broken_at (rule_number PastLimit) line.word (nat_le SCRIPT_LINES lines) ∷ attach_tests earlier.names line name rest) says
attached_is earlier lines line name next rest says same =
    unless_is earlier.sent AttachAfterSend line line.word _ (broken_at (rule_number PastLimit) line.word (nat_le SCRIPT_LINES lines) ∷ attach_tests earlier.names line name rest) says
    (unless_is (nat_le SCRIPT_LINES lines) PastLimit line line.word _ (attach_tests earlier.names line name rest) says
    (unless_is (nat_le SCRIPT_ATTACHES (length earlier.names)) PastLimit line line.word _ (broken_at (rule_number PastLimit) name (is_long name) ∷ rest) says
    (unless_is (is_long name) PastLimit line name next rest says same)))

named_is : (lines : ℕ) (line : Line) (name : Part) (next : Result ScriptStep Refusal) (rest : List LineTest) (says : ScriptStep) → next ≡ judged line rest says → named lines line name next ≡ judged line (broken_at (rule_number AttachAfterSend) line.word false ∷ broken_at (rule_number PastLimit) line.word (nat_le SCRIPT_LINES lines) ∷ broken_at (rule_number PastLimit) name (is_long name) ∷ rest) says
named_is lines line name next rest says same =
    unless_is (nat_le SCRIPT_LINES lines) PastLimit line line.word _ (broken_at (rule_number PastLimit) name (is_long name) ∷ rest) says (unless_is (is_long name) PastLimit line name next rest says same)

expect_is : (names : List (List ℕ)) (line : Line) (name count : Part) → (if is_attached names name.octets then unless (is_long name) PastLimit line name (with_read line count (count_of count) (λ number. Ok (Expect name.octets number))) else refuse_at NotAttached line name) ≡ judged line (part_tests names line (expecting name count)) (form_says (expecting name count))
expect_is names line name count =
    elim (cases_Bool (is_attached names name.octets)) [
      | inl e ↦ rw e (unless_is (is_long name) PastLimit line name _ (broken_at (rule_number BadPart) count (is_unread (count_of count)) ∷ []) (form_says (expecting name count)) (read_is line count (λ n. Ok (Expect name.octets n)) [] (λ n. Expect name.octets n) 0 (λ n. refl) (count_of count)))
      | inr e ↦ rw e refl
    ]

pub form_judged : (earlier : Earlier) (lines : ℕ) (line : Line) (form : ScriptForm) → form_means earlier lines line form ≡ judged line (form_tests earlier lines line form) (form_says form)
form_judged earlier lines line unknown = refl
form_judged earlier lines line miscounted = refl
form_judged earlier lines line (attaching name) = attached_is earlier lines line name _ [] (form_says (attaching name)) refl
form_judged earlier lines line (attaching_with name word status) =
    attached_is earlier lines line name _ (status_tests word status) (form_says (attaching_with name word status)) (status_is line word status (λ n. Attach name.octets n))
form_judged earlier lines line (sending name octets) =
    named_is lines line name _ (broken_at (rule_number BadPart) octets (is_unread (octets_of octets.octets)) ∷ []) (form_says (sending name octets)) (read_is line octets (λ v. Ok (Send name.octets v 0)) [] (λ v. Send name.octets v 0) [] (λ v. refl) (octets_of octets.octets))
form_judged earlier lines line (sending_with name octets word status) =
    named_is lines line name _ (broken_at (rule_number BadPart) octets (is_unread (octets_of octets.octets)) ∷ status_tests word status) (form_says (sending_with name octets word status))
    (read_is line octets (λ v. with_status line word status (λ n. Send name.octets v n)) (status_tests word status) (λ v. Send name.octets v (unwrap_or (status_of status) 0)) [] (λ v. status_is line word status (λ n. Send name.octets v n)) (octets_of octets.octets))
form_judged earlier lines line (expecting name count) =
    unless_is (nat_le SCRIPT_LINES lines) PastLimit line line.word _ (part_tests earlier.names line (expecting name count)) (form_says (expecting name count)) (expect_is earlier.names line name count)
form_judged earlier lines line listing = unless_is (nat_le SCRIPT_LINES lines) PastLimit line line.word _ [] Listing refl

-- ---- the rules stand in order

module _ (earlier : Earlier) (lines : ℕ) (line : Line) where
  abbrev Ordered : ScriptForm → Type 0
  Ordered form = InOrder line.word.column 0 (form_tests earlier lines line form)

  head_order : (form : ScriptForm) → InOrder line.word.column 806 (part_tests earlier.names line form) → Ordered form
  head_order form rest = (inr (refl, omega arith), (inr (refl, omega arith), (inr (refl, omega arith), (inr (refl, omega arith), rest))))

  status_order : (column number : ℕ) (word status : Part) → column < word.column → word.column < status.column → InOrder column number (status_tests word status)
  status_order column number word status a b = (inl a, (inl b, tt))

  attach_order : (parts : List Part) → AscendFrom (line.word.column + 1) parts → Ordered miscounted → Ordered (attach_form parts)
  attach_order [] up other = other
  attach_order (name ∷ []) up other = head_order (attaching name) (inr (refl, omega arith), (inl (omega (arith, up.0)), tt))
  attach_order (name ∷ word ∷ []) up other = other
  attach_order (name ∷ word ∷ status ∷ []) up other =
      head_order (attaching_with name word status) (inr (refl, omega arith), (inl (omega (arith, up.0)), status_order name.column 806 word status (omega (arith, up.1.0)) (omega (arith, up.1.1.0))))
  attach_order (name ∷ word ∷ status ∷ more ∷ parts) up other = other

  send_order : (parts : List Part) → AscendFrom (line.word.column + 1) parts → Ordered miscounted → Ordered (send_form parts)
  send_order [] up other = other
  send_order (name ∷ []) up other = other
  send_order (name ∷ octets ∷ []) up other = head_order (sending name octets) (inl (omega (arith, up.0)), (inl (omega (arith, up.1.0)), tt))
  send_order (name ∷ octets ∷ word ∷ []) up other = other
  send_order (name ∷ octets ∷ word ∷ status ∷ []) up other =
      head_order (sending_with name octets word status) (inl (omega (arith, up.0)), (inl (omega (arith, up.1.0)), status_order octets.column 803 word status (omega (arith, up.1.1.0)) (omega (arith, up.1.1.1.0))))
  send_order (name ∷ octets ∷ word ∷ status ∷ more ∷ parts) up other = other

  expect_order : (name count : Part) → line.word.column < name.column → name.column < count.column → Ordered (expecting name count)
  expect_order name count a b = head_order (expecting name count) (inl a, (inr (refl, omega arith), (inl b, tt)))

  form_order : PartsAscend line → Ordered (form_of line)
  form_order up =
      let other : Ordered miscounted = head_order miscounted tt in
      elim (cases_Bool (bytes_eq line.word.octets (codes "attach"))) [
        | inl e ↦ rw e (attach_order line.others up other)
        | inr e1 ↦ elim (cases_Bool (bytes_eq line.word.octets (codes "send"))) [
          | inl e ↦ rw (e1, e) (send_order line.others up other)
          | inr e2 ↦ elim (cases_Bool (bytes_eq line.word.octets (codes "expect"))) [
            | inl e ↦ rw (e1, e2, e) (two_holds Ordered line.word.column miscounted expecting line.others up other expect_order)
            | inr e3 ↦ elim (cases_Bool (bytes_eq line.word.octets (codes "list"))) [
              | inl e ↦ rw (e1, e2, e3, e) (alone_holds Ordered miscounted listing line.others other (head_order listing tt))
              | inr e4 ↦ rw (e1, e2, e3, e4) (head_order unknown tt)
            ]
          ]
        ]
      ]

pub in_order : AllInOrder script_rules
in_order before line up = form_order (said_by before) (length before) line up

-- no test has the number of a text that is too long
parts_apart : (names : List (List ℕ)) (line : Line) (form : ScriptForm) → has_others 210 (part_tests names line form) ≡ true
parts_apart names line unknown = refl
parts_apart names line miscounted = refl
parts_apart names line (attaching name) = refl
parts_apart names line (attaching_with name word status) = refl
parts_apart names line (sending name octets) = refl
parts_apart names line (sending_with name octets word status) = refl
parts_apart names line (expecting name count) = refl
parts_apart names line listing = refl

pub none_too_long : NoneTooLong script_rules
none_too_long before line part h = none_has 210 (line_tests before line) part (parts_apart (said_by before).names line (form_of line)) h

-- ---- a line with what the steps before it said

pub after_more : (earlier : Earlier) (steps : List ScriptStep) (step : ScriptStep) → after_steps earlier (steps ++ step ∷ []) ≡ after_step (after_steps earlier steps) step
after_more earlier [] step = refl
after_more earlier (first ∷ rest) step = after_more (after_step earlier first) rest step

pub line_judged : (steps : List ScriptStep) (earlier : Earlier) (count : ℕ) (line : Line) (step : ScriptStep) → earlier ≡ said_by steps → count ≡ length steps → form_means earlier count line (form_of line) ≡ Ok step → judged line (script_rules.tests steps line) (script_rules.said line) ≡ Ok step
line_judged steps earlier count line step same many is =
    sym (form_judged (said_by steps) (length steps) line (form_of line))
    ∙ ap (λ (l : Earlier). form_means l (length steps) line (form_of line)) (sym same)
    ∙ ap (λ (n : ℕ). form_means earlier n line (form_of line)) (sym many) ∙ is

pub line_stopped : (steps : List ScriptStep) (earlier : Earlier) (count : ℕ) (line : Line) (stop : Stop Refusal) → earlier ≡ said_by steps → count ≡ length steps → StopsAs (form_means earlier count line (form_of line)) stop → StopsAs (judged line (script_rules.tests steps line) (script_rules.said line)) stop
line_stopped steps earlier count line (Refused refusal) same many is =
    sym (form_judged (said_by steps) (length steps) line (form_of line))
    ∙ ap (λ (l : Earlier). form_means l (length steps) line (form_of line)) (sym same)
    ∙ ap (λ (n : ℕ). form_means earlier n line (form_of line)) (sym many) ∙ is
line_stopped steps earlier count line NoMemory same many is = tt
