-- What a line means, part by part, is what its rules say of it.
use Rattle.std.proofs.Common.{◌≡◌, ◌+◌, ◌<◌, ℕ, Bool, true, false, Option, Some, None, Result, Ok, List, [], ◌∷◌, ◌++◌, length, refl, sym, ap, ◌∙◌, inl, inr, arith, nat_lt, nat_le}
use Rattle.std.proofs.lemmas.Bool.{cases_Bool}
use Rattle.std.specs.Prelude.{codes, unwrap_or}
use Rattle.std.specs.Str.{bytes_eq}
use Rattle.esi_base.specs.declared.place.Refusal.{Refusal}
use Rattle.esi_base.specs.Answers.{◌>>=◌, StopsAs}
use Rattle.esi_base.specs.declared.stop.Stop.{Stop}
use Rattle.esi_base.specs.declared.stop.Stop.TheVariants.{Refused, NoMemory}
use Rattle.small_text.specs.Lines.{Part, Line}
use Rattle.small_text.specs.LineLaws.{PartsAscend}
use Rattle.small_text.specs.Hexadecimal.{octets_of}
use Rattle.line_rules.specs.LineTests.{LineTest, broken_at, judged, InOrder}
use Rattle.line_rules.specs.Shapes.{alone_holds, one_holds, two_holds}
use Rattle.line_rules.specs.TextRules.{AllInOrder}
use Rattle.line_rules.specs.RuleLaws.{NoneTooLong, has_others, none_has}
use Rattle.link_log.specs.declared.limits.TheConstants.{LOG_LINES, LOG_OCTETS}
use Rattle.link_log.specs.declared.rule.LogRule.TheVariants.{UnknownWord, PartCount, BadPart, NotOpen, NeverOpened, PastLimit}
use Rattle.link_log.specs.declared.step.LogStep.{LogStep}
use Rattle.link_log.specs.declared.step.LogStep.TheVariants.{Opened, Bytes, Writable, Closed, Idle, Fail, Room}
use Rattle.link_log.specs.RuleNumbers.{rule_number}
use Rattle.link_log.specs.LogLines.{LogForm, form_of, conn_of, room_of, form_says, after_step, after_steps, open_by, is_open, is_unread, is_shut, is_new, is_long, part_tests, form_tests, line_tests, log_rules}
use Rattle.link_log.specs.LogLines.LogForm.{unknown, miscounted, opening, bringing, writing, closing, idling, failing, rooming}
use Rattle.link_log.specs.LogReading.{open_number, brought, roomed, room_step, counted, form_means}

-- ---- the meaning is the judgement

abbrev conn_rules : List Bool → Part → Option ℕ → List LineTest → List LineTest
conn_rules conns conn read rest =
    broken_at (rule_number BadPart) conn (is_unread read) ∷ broken_at (rule_number NotOpen) conn (is_shut conns read) ∷ rest

opened_is : (conns : List Bool) (line : Line) (conn : Part) (rest : List LineTest) (says : ℕ → LogStep) (next : ℕ → Result LogStep Refusal) → ((n : ℕ) → next n ≡ judged line rest (says n)) → (read : Option ℕ) → (open_number conns line conn read >>= next) ≡ judged line (conn_rules conns conn read rest) (says (unwrap_or read 0))
opened_is conns line conn rest says next same None = refl
opened_is conns line conn rest says next same (Some number) =
    elim (cases_Bool (is_open conns number)) [
      | inl e ↦ rw e (same number)
      | inr e ↦ rw e refl
    ]

brought_is : (line : Line) (part : Part) (read : Option (List ℕ)) (conn : ℕ) → brought line part read conn ≡ judged line (broken_at (rule_number BadPart) part (is_unread read) ∷ broken_at (rule_number PastLimit) part (is_long read) ∷ []) (Bytes conn (unwrap_or read []))
brought_is line part None conn = refl
brought_is line part (Some octets) conn =
    elim (cases_Bool (nat_lt LOG_OCTETS (length octets))) [
      | inl e ↦ rw e refl
      | inr e ↦ rw e refl
    ]

roomed_is : (line : Line) (part : Part) (read : Option ℕ) (conn : ℕ) → roomed line part read conn ≡ judged line (broken_at (rule_number BadPart) part (is_unread read) ∷ []) (Room conn (unwrap_or read 0))
roomed_is line part None conn = refl
roomed_is line part (Some octets) conn = refl

room_is : (conns : List Bool) (line : Line) (conn room : Part) (read more : Option ℕ) → room_step conns line conn room read more ≡ judged line (broken_at (rule_number BadPart) conn (is_unread read) ∷ broken_at (rule_number NeverOpened) conn (is_new conns read) ∷ broken_at (rule_number BadPart) room (is_unread more) ∷ []) (Room (unwrap_or read 0) (unwrap_or more 0))
room_is conns line conn room None more = refl
room_is conns line conn room (Some number) more =
    elim (cases_Bool (nat_le (length conns) number)) [
      | inl e ↦ rw e refl
      | inr e ↦ rw e (roomed_is line room more number)
    ]

counted_is : (count : ℕ) (line : Line) (meaning : Result LogStep Refusal) (rest : List LineTest) (says : LogStep) → meaning ≡ judged line rest says → counted count line meaning ≡ judged line (broken_at (rule_number UnknownWord) line.word false ∷ broken_at (rule_number PartCount) line.word false ∷ broken_at (rule_number PastLimit) line.word (nat_le LOG_LINES count) ∷ rest) says
counted_is count line meaning rest says same =
    elim (cases_Bool (nat_le LOG_LINES count)) [
      | inl e ↦ rw e refl
      | inr e ↦ rw e same
    ]

pub form_judged : (conns : List Bool) (count : ℕ) (line : Line) (form : LogForm) → form_means conns count line form ≡ judged line (form_tests conns count line form) (form_says form)
form_judged conns count line unknown = refl
form_judged conns count line miscounted = refl
form_judged conns count line opening = counted_is count line _ [] Opened refl
form_judged conns count line (bringing conn octets) =
    counted_is count line _ (part_tests conns (bringing conn octets)) (form_says (bringing conn octets))
    (opened_is conns line conn (broken_at (rule_number BadPart) octets (is_unread (octets_of octets.octets)) ∷ broken_at (rule_number PastLimit) octets (is_long (octets_of octets.octets)) ∷ []) (λ n. Bytes n (unwrap_or (octets_of octets.octets) [])) (brought line octets (octets_of octets.octets)) (brought_is line octets (octets_of octets.octets)) (conn_of conn))
form_judged conns count line (writing conn) =
    counted_is count line _ (part_tests conns (writing conn)) (form_says (writing conn)) (opened_is conns line conn [] (λ n. Writable n) (λ n. Ok (Writable n)) (λ n. refl) (conn_of conn))
form_judged conns count line (closing conn) =
    counted_is count line _ (part_tests conns (closing conn)) (form_says (closing conn)) (opened_is conns line conn [] (λ n. Closed n) (λ n. Ok (Closed n)) (λ n. refl) (conn_of conn))
form_judged conns count line idling = counted_is count line _ [] Idle refl
form_judged conns count line failing = counted_is count line _ [] Fail refl
form_judged conns count line (rooming conn room) =
    counted_is count line _ (part_tests conns (rooming conn room)) (form_says (rooming conn room)) (room_is conns line conn room (conn_of conn) (room_of room))

-- ---- the rules stand in order

module _ (conns : List Bool) (count : ℕ) (line : Line) where
  abbrev Ordered : LogForm → Type 0
  Ordered form = InOrder line.word.column 0 (form_tests conns count line form)

  head_order : (form : LogForm) → InOrder line.word.column 906 (part_tests conns form) → Ordered form
  head_order form rest = (inr (refl, omega arith), (inr (refl, omega arith), (inr (refl, omega arith), rest)))

  two_order : (conn octets : Part) → line.word.column < conn.column → conn.column < octets.column → Ordered (bringing conn octets)
  two_order conn octets a b = head_order (bringing conn octets) (inl a, (inr (refl, omega arith), (inl b, (inr (refl, omega arith), tt))))

  room_order : (conn room : Part) → line.word.column < conn.column → conn.column < room.column → Ordered (rooming conn room)
  room_order conn room a b = head_order (rooming conn room) (inl a, (inr (refl, omega arith), (inl b, tt)))

  form_order : PartsAscend line → Ordered (form_of line)
  form_order up =
      let other : Ordered miscounted = head_order miscounted tt in
      elim (cases_Bool (bytes_eq line.word.octets (codes "opened"))) [
        | inl e ↦ rw e (alone_holds Ordered miscounted opening line.others other (head_order opening tt))
        | inr e1 ↦ elim (cases_Bool (bytes_eq line.word.octets (codes "bytes"))) [
          | inl e ↦ rw (e1, e) (two_holds Ordered line.word.column miscounted bringing line.others up other two_order)
          | inr e2 ↦ elim (cases_Bool (bytes_eq line.word.octets (codes "writable"))) [
            | inl e ↦ rw (e1, e2, e) (one_holds Ordered line.word.column miscounted writing line.others up other (λ conn a. head_order (writing conn) (inl a, (inr (refl, omega arith), tt))))
            | inr e3 ↦ elim (cases_Bool (bytes_eq line.word.octets (codes "closed"))) [
              | inl e ↦ rw (e1, e2, e3, e) (one_holds Ordered line.word.column miscounted closing line.others up other (λ conn a. head_order (closing conn) (inl a, (inr (refl, omega arith), tt))))
              | inr e4 ↦ elim (cases_Bool (bytes_eq line.word.octets (codes "idle"))) [
                | inl e ↦ rw (e1, e2, e3, e4, e) (alone_holds Ordered miscounted idling line.others other (head_order idling tt))
                | inr e5 ↦ elim (cases_Bool (bytes_eq line.word.octets (codes "fail"))) [
                  | inl e ↦ rw (e1, e2, e3, e4, e5, e) (alone_holds Ordered miscounted failing line.others other (head_order failing tt))
                  | inr e6 ↦ elim (cases_Bool (bytes_eq line.word.octets (codes "room"))) [
                    | inl e ↦ rw (e1, e2, e3, e4, e5, e6, e) (two_holds Ordered line.word.column miscounted rooming line.others up other room_order)
                    | inr e7 ↦ rw (e1, e2, e3, e4, e5, e6, e7) (head_order unknown tt)
                  ]
                ]
              ]
            ]
          ]
        ]
      ]

pub in_order : AllInOrder log_rules
in_order before line up = form_order (open_by before) (length before) line up

-- no test has the number of a text that is too long
parts_apart : (conns : List Bool) (form : LogForm) → has_others 210 (part_tests conns form) ≡ true
parts_apart conns unknown = refl
parts_apart conns miscounted = refl
parts_apart conns opening = refl
parts_apart conns (bringing conn octets) = refl
parts_apart conns (writing conn) = refl
parts_apart conns (closing conn) = refl
parts_apart conns idling = refl
parts_apart conns failing = refl
parts_apart conns (rooming conn room) = refl

pub none_too_long : NoneTooLong log_rules
none_too_long before line part h = none_has 210 (line_tests before line) part (parts_apart (open_by before) (form_of line)) h

-- ---- the connections after one step more

pub after_more : (conns : List Bool) (steps : List LogStep) (step : LogStep) → after_steps conns (steps ++ step ∷ []) ≡ after_step (after_steps conns steps) step
after_more conns [] step = refl
after_more conns (first ∷ rest) step = after_more (after_step conns first) rest step

-- ---- a line with the connections of the steps before it

pub line_judged : (steps : List LogStep) (conns : List Bool) (count : ℕ) (line : Line) (step : LogStep) → conns ≡ open_by steps → count ≡ length steps → form_means conns count line (form_of line) ≡ Ok step → judged line (log_rules.tests steps line) (log_rules.said line) ≡ Ok step
line_judged steps conns count line step same many is =
    sym (form_judged (open_by steps) (length steps) line (form_of line))
    ∙ ap (λ (l : List Bool). form_means l (length steps) line (form_of line)) (sym same)
    ∙ ap (λ (n : ℕ). form_means conns n line (form_of line)) (sym many) ∙ is

pub line_stopped : (steps : List LogStep) (conns : List Bool) (count : ℕ) (line : Line) (stop : Stop Refusal) → conns ≡ open_by steps → count ≡ length steps → StopsAs (form_means conns count line (form_of line)) stop → StopsAs (judged line (log_rules.tests steps line) (log_rules.said line)) stop
line_stopped steps conns count line (Refused refusal) same many is =
    sym (form_judged (open_by steps) (length steps) line (form_of line))
    ∙ ap (λ (l : List Bool). form_means l (length steps) line (form_of line)) (sym same)
    ∙ ap (λ (n : ℕ). form_means conns n line (form_of line)) (sym many) ∙ is
line_stopped steps conns count line NoMemory same many is = tt
