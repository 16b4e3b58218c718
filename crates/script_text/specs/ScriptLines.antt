-- What a script is and what breaks its rules, line by line, whatever way it is read.
use Rattle.std.specs.Prelude.{ℕ, Bool, true, false, not, nat_lt, nat_le, Option, Some, None, List, [], ◌∷◌, ◌++◌, if◌then◌else◌, length, codes, unwrap_or}
use Rattle.std.specs.List.{list_any}
use Rattle.std.specs.Str.{bytes_eq}
use Rattle.small_text.specs.Lines.{Part, Line}
use Rattle.small_text.specs.Numbers.{number_of}
use Rattle.small_text.specs.Hexadecimal.{octets_of}
use Rattle.line_rules.specs.LineTests.{LineTest, broken_at}
use Rattle.line_rules.specs.Shapes.{alone, with_two}
use Rattle.line_rules.specs.TextRules.{TextRules}
use Rattle.script_text.specs.declared.earlier.Earlier.{Earlier}
use Rattle.script_text.specs.declared.limits.TheConstants.{LARGEST_COUNT, LARGEST_STATUS, LONGEST_NAME, LONGEST_SCRIPT, SCRIPT_ATTACHES, SCRIPT_LINES}
use Rattle.script_text.specs.declared.rule.ScriptRule.{ScriptRule}
use Rattle.script_text.specs.declared.rule.ScriptRule.TheVariants.{TooLong, UnknownWord, PartCount, BadPart, AttachAfterSend, NotAttached, PastLimit}
use Rattle.script_text.specs.declared.step.ScriptStep.{ScriptStep}
use Rattle.script_text.specs.declared.step.ScriptStep.TheVariants.{Attach, Send, Expect, Listing}
use Rattle.script_text.specs.RuleNumbers.{rule_number}

-- ---- the form of a line

-- What a line is by its word and the number of its parts, with the parts after the word.
pub data ScriptForm : Type 0 where
  unknown : ScriptForm
  miscounted : ScriptForm
  attaching : Part → ScriptForm
  attaching_with : Part → Part → Part → ScriptForm
  sending : Part → Part → ScriptForm
  sending_with : Part → Part → Part → Part → ScriptForm
  expecting : Part → Part → ScriptForm
  listing : ScriptForm

-- An `attach` line has a name, and may have a word and a status after it.
abbrev pub attach_form : List Part → ScriptForm
attach_form (name ∷ []) = attaching name
attach_form (name ∷ word ∷ status ∷ []) = attaching_with name word status
attach_form _ = miscounted

-- A `send` line has a name and octets, and may have a word and a status after them.
abbrev pub send_form : List Part → ScriptForm
send_form (name ∷ octets ∷ []) = sending name octets
send_form (name ∷ octets ∷ word ∷ status ∷ []) = sending_with name octets word status
send_form _ = miscounted

abbrev pub form_of : Line → ScriptForm
form_of line =
    if bytes_eq line.word.octets (codes "attach") then attach_form line.others
    else (if bytes_eq line.word.octets (codes "send") then send_form line.others
    else (if bytes_eq line.word.octets (codes "expect") then with_two miscounted expecting line.others
    else (if bytes_eq line.word.octets (codes "list") then alone miscounted listing line.others
    else unknown)))

-- A status, and a count of values.
abbrev pub status_of : Part → Option ℕ
status_of part = number_of LARGEST_STATUS part.octets

abbrev pub count_of : Part → Option ℕ
count_of part = number_of LARGEST_COUNT part.octets

-- What a form says where its parts can be read; a line that is no form says nothing.
abbrev pub form_says : ScriptForm → ScriptStep
form_says unknown = Listing
form_says miscounted = Listing
form_says (attaching name) = Attach name.octets 0
form_says (attaching_with name word status) = Attach name.octets (unwrap_or (status_of status) 0)
form_says (sending name octets) = Send name.octets (unwrap_or (octets_of octets.octets) []) 0
form_says (sending_with name octets word status) = Send name.octets (unwrap_or (octets_of octets.octets) []) (unwrap_or (status_of status) 0)
form_says (expecting name count) = Expect name.octets (unwrap_or (count_of count) 0)
form_says listing = Listing

-- ---- what the lines before said

-- What a step adds to what the lines before it said.
abbrev pub after_step : Earlier → ScriptStep → Earlier
after_step earlier (Attach name _) = record earlier { names = earlier.names ++ name ∷ [] }
after_step earlier (Send _ _ _) = record earlier { sent = true }
after_step earlier (Expect _ _) = earlier
after_step earlier Listing = earlier

abbrev pub after_steps : Earlier → List ScriptStep → Earlier
after_steps earlier [] = earlier
after_steps earlier (step ∷ rest) = after_steps (after_step earlier step) rest

-- What steps said, of which none attached or sent before.
abbrev pub said_by : List ScriptStep → Earlier
said_by steps = after_steps (record { names = []; sent = false }) steps

-- ---- the rules

abbrev pub is_unknown : ScriptForm → Bool
is_unknown unknown = true
is_unknown _ = false

abbrev pub is_miscounted : ScriptForm → Bool
is_miscounted miscounted = true
is_miscounted _ = false

-- An `attach` line comes after a `send` line.
abbrev pub is_late : Bool → ScriptForm → Bool
is_late sent unknown = false
is_late sent miscounted = false
is_late sent (attaching _) = sent
is_late sent (attaching_with _ _ _) = sent
is_late sent (sending _ _) = false
is_late sent (sending_with _ _ _ _) = false
is_late sent (expecting _ _) = false
is_late sent listing = false

-- A part cannot be read.
abbrev pub is_unread : {A : Type 0} → Option A → Bool
is_unread None = true
is_unread (Some _) = false

-- A name is too long.
abbrev pub is_long : Part → Bool
is_long name = nat_lt LONGEST_NAME (length name.octets)

-- A part is the word before a status.
abbrev pub is_status : Part → Bool
is_status word = bytes_eq word.octets (codes "status")

-- A name was attached.
abbrev pub is_attached : List (List ℕ) → List ℕ → Bool
is_attached names name = list_any (λ other. bytes_eq other name) names

-- The rules of a status and the word before it.
abbrev pub status_tests : Part → Part → List LineTest
status_tests word status =
    broken_at (rule_number UnknownWord) word (not (is_status word))
    ∷ broken_at (rule_number BadPart) status (is_unread (status_of status))
    ∷ []

-- The rules of an `attach` line, after so many others.
abbrev pub attach_tests : List (List ℕ) → Line → Part → List LineTest → List LineTest
attach_tests names line name rest =
    broken_at (rule_number PastLimit) line.word (nat_le SCRIPT_ATTACHES (length names))
    ∷ broken_at (rule_number PastLimit) name (is_long name)
    ∷ rest

-- The rules of a `send` line.
abbrev pub send_tests : Part → Part → List LineTest → List LineTest
send_tests name octets rest =
    broken_at (rule_number PastLimit) name (is_long name)
    ∷ broken_at (rule_number BadPart) octets (is_unread (octets_of octets.octets))
    ∷ rest

-- The rules of the parts after the word.
abbrev pub part_tests : List (List ℕ) → Line → ScriptForm → List LineTest
part_tests names line unknown = []
part_tests names line miscounted = []
part_tests names line (attaching name) = attach_tests names line name []
part_tests names line (attaching_with name word status) = attach_tests names line name (status_tests word status)
part_tests names line (sending name octets) = send_tests name octets []
part_tests names line (sending_with name octets word status) = send_tests name octets (status_tests word status)
part_tests names line (expecting name count) =
    broken_at (rule_number NotAttached) name (not (is_attached names name.octets))
    ∷ broken_at (rule_number PastLimit) name (is_long name)
    ∷ broken_at (rule_number BadPart) count (is_unread (count_of count))
    ∷ []
part_tests names line listing = []

-- The rules of a line of a form, after what the lines before said and after so many of them.
abbrev pub form_tests : Earlier → ℕ → Line → ScriptForm → List LineTest
form_tests earlier lines line form =
    broken_at (rule_number UnknownWord) line.word (is_unknown form)
    ∷ broken_at (rule_number PartCount) line.word (is_miscounted form)
    ∷ broken_at (rule_number AttachAfterSend) line.word (is_late earlier.sent form)
    ∷ broken_at (rule_number PastLimit) line.word (nat_le SCRIPT_LINES lines)
    ∷ part_tests earlier.names line form

-- The rules of a line, after the steps of the lines before it.
abbrev pub line_tests : List ScriptStep → Line → List LineTest
line_tests before line = form_tests (said_by before) (length before) line (form_of line)

-- The rules of a script.
abbrev pub script_rules : TextRules ScriptStep
script_rules =
    record { tests = line_tests; said = λ line. form_says (form_of line); longest = LONGEST_SCRIPT; too_long = rule_number TooLong }
