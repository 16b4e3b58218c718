-- A log that was read can be played.
use Rattle.std.proofs.Common.{◌≡◌, ℕ, ◌+◌, ◌<◌, ◌≤◌, Bool, true, false, List, [], ◌∷◌, ◌++◌, Option, Some, None, IsTrue, length, refl, sym, ap, ◌∙◌, inl, inr, arith, rules, nat_lt, nat_le}
use Rattle.std.specs.Prelude.{unwrap_or}
use Rattle.std.specs.List.{list_all}
use Rattle.std.proofs.lemmas.Bool.Decides.{nat_tests}
use Rattle.std.proofs.lemmas.List.{length-append}
use Rattle.std.proofs.lemmas.List.Sums.{sum_by-cons}
use Rattle.small_text.specs.Lines.{Line}
use Rattle.small_text.specs.Hexadecimal.{octets_of}
use Rattle.small_text.specs.HexadecimalLaws.{octets_again}
use Rattle.line_rules.specs.LineTests.{BreaksNone}
use Rattle.line_rules.specs.TextRules.{AreSteps, IsText}
use Rattle.link_log.specs.declared.rule.LogRule.TheVariants.{BadPart, PastLimit}
use Rattle.link_log.specs.declared.step.LogStep.{LogStep}
use Rattle.link_log.specs.declared.step.LogStep.TheVariants.{Opened, Bytes, Writable, Closed, Idle, Fail, Room}
use Rattle.link_log.specs.RuleNumbers.{rule_number}
use Rattle.link_log.specs.LogLines.{LogForm, form_of, conn_of, form_says, form_tests, line_tests, log_rules, open_by, is_unread, is_long}
use Rattle.link_log.specs.LogLines.LogForm.{unknown, miscounted, opening, bringing, writing, closing, idling, failing, rooming}
use Rattle.memory_links.specs.Plays.{is_sized_step, opening_step, openings}

not_broken : (b : Bool) → (b ≡ true → ⊥) → b ≡ false
not_broken true h = absurd (h refl)
not_broken false h = refl

-- ---- octets are as many as an event may bring

bytes_sized : (conn : ℕ) (part : List ℕ) (read : Option (List ℕ)) → octets_of part ≡ read → is_unread read ≡ false → is_long read ≡ false → is_sized_step (Bytes conn (unwrap_or read [])) ≡ true
bytes_sized conn part None is unread long = absurd (cc)
bytes_sized conn part (Some []) is unread long = absurd ((octets_again.read part [] is).octets_are.some refl)
bytes_sized conn part (Some (octet ∷ octets)) is unread long =
    let some : nat_lt 0 (length (octet ∷ octets)) ≡ true = grind (arith, nat_tests) in
    let few : nat_le (length (octet ∷ octets)) 16384 ≡ true = grind (arith, nat_tests) in
    rw (some, few) refl

said_sized : (conns : List Bool) (count : ℕ) (line : Line) (form : LogForm) → BreaksNone (form_tests conns count line form) → is_sized_step (form_says form) ≡ true
said_sized conns count line unknown none = refl
said_sized conns count line miscounted none = refl
said_sized conns count line opening none = refl
said_sized conns count line (bringing conn octets) none =
    let read : is_unread (octets_of octets.octets) ≡ false = not_broken _ (λ e. none (rule_number BadPart) octets (inr (inr (inr (inr (inr (inl (record { number_is = refl; part_is = refl; broken = e })))))))) in
    let short : is_long (octets_of octets.octets) ≡ false = not_broken _ (λ e. none (rule_number PastLimit) octets (inr (inr (inr (inr (inr (inr (inl (record { number_is = refl; part_is = refl; broken = e }))))))))) in
    bytes_sized (unwrap_or (conn_of conn) 0) octets.octets (octets_of octets.octets) refl read short
said_sized conns count line (writing conn) none = refl
said_sized conns count line (closing conn) none = refl
said_sized conns count line idling none = refl
said_sized conns count line failing none = refl
said_sized conns count line (rooming conn room) none = refl

all_sized : (before : List LogStep) (lines : List Line) (steps : List LogStep) → AreSteps log_rules before lines steps → IsTrue (list_all is_sized_step steps)
all_sized before [] [] h = search rules
all_sized before [] (step ∷ steps) h = absurd h
all_sized before (line ∷ rest) [] h = absurd h
all_sized before (line ∷ rest) (step ∷ steps) h =
    let one : is_sized_step step ≡ true = ap is_sized_step (sym h.1) ∙ said_sized (open_by before) (length before) line (form_of line) h.0 in
    let others : IsTrue (list_all is_sized_step steps) = all_sized (before ++ step ∷ []) rest steps h.2 in
    rw one others

pub text_sized : (text : List ℕ) (steps : List LogStep) → IsText log_rules text steps → IsTrue (list_all is_sized_step steps)
text_sized text steps is = all_sized [] _ steps is.are

-- ---- few connections open

room_left : (before : List LogStep) (line : Line) → BreaksNone (line_tests before line) → length before < 1048576
room_left before line none =
    let counted : nat_le 1048576 (length before) ≡ false = not_broken _ (λ e. none (rule_number PastLimit) line.word (inr (inr (inl (record { number_is = refl; part_is = refl; broken = e }))))) in
    grind (arith, nat_tests)

few_steps : (before : List LogStep) (lines : List Line) (steps : List LogStep) → length before ≤ 1048576 → AreSteps log_rules before lines steps → length before + length steps ≤ 1048576
few_steps before [] [] few h = omega (arith, few)
few_steps before [] (step ∷ steps) few h = absurd h
few_steps before (line ∷ rest) [] few h = absurd h
few_steps before (line ∷ rest) (step ∷ steps) few h =
    let room : length before < 1048576 = room_left before line h.0 in
    let one : length (before ++ step ∷ []) ≡ length before + 1 = length-append before (step ∷ []) in
    let e = few_steps (before ++ step ∷ []) rest steps (omega (arith, one, room)) h.2 in
    omega (arith, e, one)

opening_once : (step : LogStep) → opening_step step ≤ 1
opening_once Opened = omega arith
opening_once (Bytes conn octets) = omega arith
opening_once (Writable conn) = omega arith
opening_once (Closed conn) = omega arith
opening_once Idle = omega arith
opening_once Fail = omega arith
opening_once (Room conn octets) = omega arith

few_openings : (steps : List LogStep) → openings steps ≤ length steps
few_openings [] = omega arith
few_openings (step ∷ steps) = (let one = opening_once step in let e = few_openings steps in omega (arith, one, e, sum_by-cons opening_step step steps))

pub text_few : (text : List ℕ) (steps : List LogStep) → IsText log_rules text steps → openings steps < 4294967296
text_few text steps is = (let e = few_steps [] _ steps (omega arith) is.are in let o = few_openings steps in omega (arith, e, o))
