-- What a line means, part by part, is what its rules say of it.
use Rattle.std.proofs.Common.{◌≡◌, ◌+◌, ℕ, Bool, true, false, Option, Some, None, Result, Ok, List, [], ◌∷◌, length, refl, sym, ap, ◌∙◌, inl, inr, arith, nat_lt, nat_le}
use Rattle.std.proofs.lemmas.Bool.{cases_Bool}
use Rattle.std.specs.Prelude.{codes, unwrap_or}
use Rattle.std.specs.List.{sum_by}
use Rattle.std.specs.Str.{bytes_eq}
use Rattle.esi_base.specs.declared.place.Refusal.{Refusal}
use Rattle.esi_base.specs.declared.stop.Stop.{Stop}
use Rattle.esi_base.specs.declared.stop.Stop.TheVariants.{Refused, NoMemory}
use Rattle.esi_base.specs.Answers.{StopsAs}
use Rattle.small_text.specs.Lines.{Part, Line}
use Rattle.small_text.specs.LineLaws.{PartsAscend}
use Rattle.line_rules.specs.LineTests.{LineTest, broken_at, judged, InOrder}
use Rattle.line_rules.specs.Shapes.{alone_holds, one_holds}
use Rattle.line_rules.specs.TextRules.{AllInOrder}
use Rattle.line_rules.specs.RuleLaws.{NoneTooLong, has_others, none_has}
use Rattle.schedule_text.specs.declared.limits.TheConstants.{SCHEDULE_LINES, SCHEDULE_ROUNDS}
use Rattle.schedule_text.specs.declared.rule.ScheduleRule.TheVariants.{UnknownWord, PartCount, BadPart, PastLimit}
use Rattle.schedule_text.specs.declared.step.Move.{Move}
use Rattle.schedule_text.specs.declared.step.Move.TheVariants.{Client, Server, Up, Down, Round}
use Rattle.schedule_text.specs.RuleNumbers.{rule_number}
use Rattle.schedule_text.specs.ScheduleLines.{ScheduleForm, form_of, move_of, round_of, form_says, rounds_of, is_unread, passes_rounds, part_tests, form_tests, line_tests, schedule_rules}
use Rattle.schedule_text.specs.ScheduleLines.ScheduleForm.{unknown, miscounted, for_client, for_server, moving_up, moving_down, rounding}
use Rattle.schedule_text.specs.ScheduleReading.{moved, rounded, counted, form_means}

-- ---- the meaning is the judgement

moved_is : (line : Line) (part : Part) (move : ℕ → Move) (read : Option ℕ) → moved line part move read ≡ judged line (broken_at (rule_number BadPart) part (is_unread read) ∷ []) (move (unwrap_or read 0))
moved_is line part move None = refl
moved_is line part move (Some octets) = refl

rounded_is : (rounds : ℕ) (line : Line) (part : Part) (read : Option ℕ) → rounded rounds line part read ≡ judged line (broken_at (rule_number PastLimit) line.word (passes_rounds rounds read) ∷ broken_at (rule_number BadPart) part (is_unread read) ∷ []) (Round (unwrap_or read 0))
rounded_is rounds line part None = refl
rounded_is rounds line part (Some more) =
    elim (cases_Bool (nat_lt SCHEDULE_ROUNDS (rounds + more))) [
      | inl e ↦ rw e refl
      | inr e ↦ rw e refl
    ]

counted_is : (count : ℕ) (line : Line) (meaning : Result Move Refusal) (rest : List LineTest) (says : Move) → meaning ≡ judged line rest says → counted count line meaning ≡ judged line (broken_at (rule_number UnknownWord) line.word false ∷ broken_at (rule_number PartCount) line.word false ∷ broken_at (rule_number PastLimit) line.word (nat_le SCHEDULE_LINES count) ∷ rest) says
counted_is count line meaning rest says same =
    elim (cases_Bool (nat_le SCHEDULE_LINES count)) [
      | inl e ↦ rw e refl
      | inr e ↦ rw e same
    ]

pub form_judged : (rounds count : ℕ) (line : Line) (form : ScheduleForm) → form_means rounds count line form ≡ judged line (form_tests rounds count line form) (form_says form)
form_judged rounds count line unknown = refl
form_judged rounds count line miscounted = refl
form_judged rounds count line for_client = counted_is count line _ [] Client refl
form_judged rounds count line for_server = counted_is count line _ [] Server refl
form_judged rounds count line (moving_up part) =
    counted_is count line _ (part_tests rounds line (moving_up part)) (form_says (moving_up part)) (moved_is line part (λ n. Up n) (move_of part))
form_judged rounds count line (moving_down part) =
    counted_is count line _ (part_tests rounds line (moving_down part)) (form_says (moving_down part)) (moved_is line part (λ n. Down n) (move_of part))
form_judged rounds count line (rounding part) =
    counted_is count line _ (part_tests rounds line (rounding part)) (form_says (rounding part)) (rounded_is rounds line part (round_of part))

-- ---- the rules stand in order

module _ (rounds count : ℕ) (line : Line) where
  abbrev Ordered : ScheduleForm → Type 0
  Ordered form = InOrder line.word.column 0 (form_tests rounds count line form)

  head_order : (form : ScheduleForm) → InOrder line.word.column 914 (part_tests rounds line form) → Ordered form
  head_order form rest = (inr (refl, omega arith), (inr (refl, omega arith), (inr (refl, omega arith), rest)))

  form_order : PartsAscend line → Ordered (form_of line)
  form_order up =
      let other : Ordered miscounted = head_order miscounted tt in
      elim (cases_Bool (bytes_eq line.word.octets (codes "client"))) [
        | inl e ↦ rw e (alone_holds Ordered miscounted for_client line.others other (head_order for_client tt))
        | inr e1 ↦ elim (cases_Bool (bytes_eq line.word.octets (codes "server"))) [
          | inl e ↦ rw (e1, e) (alone_holds Ordered miscounted for_server line.others other (head_order for_server tt))
          | inr e2 ↦ elim (cases_Bool (bytes_eq line.word.octets (codes "up"))) [
            | inl e ↦ rw (e1, e2, e) (one_holds Ordered line.word.column miscounted moving_up line.others up other (λ part a. head_order (moving_up part) (inl a, tt)))
            | inr e3 ↦ elim (cases_Bool (bytes_eq line.word.octets (codes "down"))) [
              | inl e ↦ rw (e1, e2, e3, e) (one_holds Ordered line.word.column miscounted moving_down line.others up other (λ part a. head_order (moving_down part) (inl a, tt)))
              | inr e4 ↦ elim (cases_Bool (bytes_eq line.word.octets (codes "round"))) [
                | inl e ↦ rw (e1, e2, e3, e4, e) (one_holds Ordered line.word.column miscounted rounding line.others up other (λ part a. head_order (rounding part) (inr (refl, omega arith), (inl a, tt))))
                | inr e5 ↦ rw (e1, e2, e3, e4, e5) (head_order unknown tt)
              ]
            ]
          ]
        ]
      ]

pub in_order : AllInOrder schedule_rules
in_order before line up = form_order (sum_by rounds_of before) (length before) line up

-- no test has the number of a text that is too long
parts_apart : (rounds : ℕ) (line : Line) (form : ScheduleForm) → has_others 210 (part_tests rounds line form) ≡ true
parts_apart rounds line unknown = refl
parts_apart rounds line miscounted = refl
parts_apart rounds line for_client = refl
parts_apart rounds line for_server = refl
parts_apart rounds line (moving_up part) = refl
parts_apart rounds line (moving_down part) = refl
parts_apart rounds line (rounding part) = refl

pub none_too_long : NoneTooLong schedule_rules
none_too_long before line part h = none_has 210 (line_tests before line) part (parts_apart (sum_by rounds_of before) line (form_of line)) h

-- ---- a line with the rounds of the moves before it

pub line_judged : (steps : List Move) (rounds : ℕ) (count : ℕ) (line : Line) (step : Move) → rounds ≡ sum_by rounds_of steps → count ≡ length steps → form_means rounds count line (form_of line) ≡ Ok step → judged line (schedule_rules.tests steps line) (schedule_rules.said line) ≡ Ok step
line_judged steps rounds count line step same many is =
    sym (form_judged (sum_by rounds_of steps) (length steps) line (form_of line))
    ∙ ap (λ (l : ℕ). form_means l (length steps) line (form_of line)) (sym same)
    ∙ ap (λ (n : ℕ). form_means rounds n line (form_of line)) (sym many) ∙ is

pub line_stopped : (steps : List Move) (rounds : ℕ) (count : ℕ) (line : Line) (stop : Stop Refusal) → rounds ≡ sum_by rounds_of steps → count ≡ length steps → StopsAs (form_means rounds count line (form_of line)) stop → StopsAs (judged line (schedule_rules.tests steps line) (schedule_rules.said line)) stop
line_stopped steps rounds count line (Refused refusal) same many is =
    sym (form_judged (sum_by rounds_of steps) (length steps) line (form_of line))
    ∙ ap (λ (l : ℕ). form_means l (length steps) line (form_of line)) (sym same)
    ∙ ap (λ (n : ℕ). form_means rounds n line (form_of line)) (sym many) ∙ is
line_stopped steps rounds count line NoMemory same many is = tt
