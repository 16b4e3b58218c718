-- What a log is and what breaks its rules, line by line, whatever way it is read.
use Rattle.std.specs.Prelude.{ℕ, ◌≡◌, Bool, true, false, not, nat_lt, nat_le, Option, Some, None, List, [], ◌∷◌, ◌++◌, if◌then◌else◌, length, codes, unwrap_or, slice_get, slice_set, refl}
use Rattle.std.specs.Str.{bytes_eq}
use Rattle.small_text.specs.Lines.{Part, Line}
use Rattle.small_text.specs.Numbers.{number_of}
use Rattle.small_text.specs.Hexadecimal.{octets_of}
use Rattle.line_rules.specs.LineTests.{LineTest, broken_at}
use Rattle.line_rules.specs.Shapes.{alone, with_one, with_two}
use Rattle.line_rules.specs.TextRules.{TextRules}
use Rattle.link_log.specs.declared.limits.TheConstants.{LARGEST_CONN, LARGEST_ROOM, LOG_LINES, LOG_OCTETS, LONGEST_LOG}
use Rattle.link_log.specs.declared.rule.LogRule.{LogRule}
use Rattle.link_log.specs.declared.rule.LogRule.TheVariants.{TooLong, UnknownWord, PartCount, BadPart, NotOpen, NeverOpened, PastLimit}
use Rattle.link_log.specs.declared.step.LogStep.{LogStep}
use Rattle.link_log.specs.declared.step.LogStep.TheVariants.{Opened, Bytes, Writable, Closed, Idle, Fail, Room}
use Rattle.link_log.specs.RuleNumbers.{rule_number}

-- ---- the form of a line

-- What a line is by its word and the number of its parts, with the parts after the word.
pub data LogForm : Type 0 where
  unknown : LogForm
  miscounted : LogForm
  opening : LogForm
  bringing : Part → Part → LogForm
  writing : Part → LogForm
  closing : Part → LogForm
  idling : LogForm
  failing : LogForm
  rooming : Part → Part → LogForm

abbrev pub form_of : Line → LogForm
form_of line =
    if bytes_eq line.word.octets (codes "opened") then alone miscounted opening line.others
    else (if bytes_eq line.word.octets (codes "bytes") then with_two miscounted bringing line.others
    else (if bytes_eq line.word.octets (codes "writable") then with_one miscounted writing line.others
    else (if bytes_eq line.word.octets (codes "closed") then with_one miscounted closing line.others
    else (if bytes_eq line.word.octets (codes "idle") then alone miscounted idling line.others
    else (if bytes_eq line.word.octets (codes "fail") then alone miscounted failing line.others
    else (if bytes_eq line.word.octets (codes "room") then with_two miscounted rooming line.others
    else unknown))))))

-- The number of a connection.
abbrev pub conn_of : Part → Option ℕ
conn_of part = number_of LARGEST_CONN part.octets

-- The room of a connection.
abbrev pub room_of : Part → Option ℕ
room_of part = number_of LARGEST_ROOM part.octets

-- What a form says where its parts can be read; a line that is no form says nothing.
abbrev pub form_says : LogForm → LogStep
form_says unknown = Idle
form_says miscounted = Idle
form_says opening = Opened
form_says (bringing conn octets) = Bytes (unwrap_or (conn_of conn) 0) (unwrap_or (octets_of octets.octets) [])
form_says (writing conn) = Writable (unwrap_or (conn_of conn) 0)
form_says (closing conn) = Closed (unwrap_or (conn_of conn) 0)
form_says idling = Idle
form_says failing = Fail
form_says (rooming conn room) = Room (unwrap_or (conn_of conn) 0) (unwrap_or (room_of room) 0)

-- ---- the connections that are open

-- What a step makes of the connections, of which the k-th that opened, from 0, is open or not.
abbrev pub after_step : List Bool → LogStep → List Bool
after_step conns Opened = conns ++ true ∷ []
after_step conns (Closed conn) = if nat_lt conn (length conns) then slice_set conns conn false else conns
after_step conns (Bytes _ _) = conns
after_step conns (Writable _) = conns
after_step conns Idle = conns
after_step conns Fail = conns
after_step conns (Room _ _) = conns

abbrev pub after_steps : List Bool → List LogStep → List Bool
after_steps conns [] = conns
after_steps conns (step ∷ rest) = after_steps (after_step conns step) rest

-- The connections by a log, of which none is there at first.
abbrev pub open_by : List LogStep → List Bool
open_by steps = after_steps [] steps

-- A connection is open where it opened and was not closed.
abbrev pub is_set : Option Bool → Bool
is_set None = false
is_set (Some flag) = flag

abbrev pub is_open : List Bool → ℕ → Bool
is_open conns conn = is_set (slice_get conns conn)

-- ---- the rules

abbrev pub is_unknown : LogForm → Bool
is_unknown unknown = true
is_unknown _ = false

abbrev pub is_miscounted : LogForm → Bool
is_miscounted miscounted = true
is_miscounted _ = false

-- A part cannot be read.
abbrev pub is_unread : {A : Type 0} → Option A → Bool
is_unread None = true
is_unread (Some _) = false

-- A number is that of a connection which is not open.
abbrev pub is_shut : List Bool → Option ℕ → Bool
is_shut conns None = false
is_shut conns (Some conn) = not (is_open conns conn)

-- A number is that of a connection which was never opened.
abbrev pub is_new : List Bool → Option ℕ → Bool
is_new conns None = false
is_new conns (Some conn) = nat_le (length conns) conn

-- Octets are more than an event brings.
abbrev pub is_long : Option (List ℕ) → Bool
is_long None = false
is_long (Some octets) = nat_lt LOG_OCTETS (length octets)

-- The rules of the parts after the word.
abbrev pub conn_tests : List Bool → Part → List LineTest → List LineTest
conn_tests conns conn rest =
    broken_at (rule_number BadPart) conn (is_unread (conn_of conn))
    ∷ broken_at (rule_number NotOpen) conn (is_shut conns (conn_of conn))
    ∷ rest

abbrev pub part_tests : List Bool → LogForm → List LineTest
part_tests conns unknown = []
part_tests conns miscounted = []
part_tests conns opening = []
part_tests conns (bringing conn octets) =
    conn_tests conns conn
    (broken_at (rule_number BadPart) octets (is_unread (octets_of octets.octets))
    ∷ broken_at (rule_number PastLimit) octets (is_long (octets_of octets.octets))
    ∷ [])
part_tests conns (writing conn) = conn_tests conns conn []
part_tests conns (closing conn) = conn_tests conns conn []
part_tests conns idling = []
part_tests conns failing = []
part_tests conns (rooming conn room) =
    broken_at (rule_number BadPart) conn (is_unread (conn_of conn))
    ∷ broken_at (rule_number NeverOpened) conn (is_new conns (conn_of conn))
    ∷ broken_at (rule_number BadPart) room (is_unread (room_of room))
    ∷ []

-- The rules of a line of a form, after so many lines and with these connections.
abbrev pub form_tests : List Bool → ℕ → Line → LogForm → List LineTest
form_tests conns count line form =
    broken_at (rule_number UnknownWord) line.word (is_unknown form)
    ∷ broken_at (rule_number PartCount) line.word (is_miscounted form)
    ∷ broken_at (rule_number PastLimit) line.word (nat_le LOG_LINES count)
    ∷ part_tests conns form

-- The rules of a line, after the steps of the lines before it.
abbrev pub line_tests : List LogStep → Line → List LineTest
line_tests before line = form_tests (open_by before) (length before) line (form_of line)

-- The rules of a log.
abbrev pub log_rules : TextRules LogStep
log_rules = record { tests = line_tests; said = λ line. form_says (form_of line); longest = LONGEST_LOG; too_long = rule_number TooLong }

-- The first connection of a log is open until it closes.
pub open_examples :
    (open_by [] ≡ [])
    × (open_by (Opened ∷ []) ≡ true ∷ [])
    × (open_by (Opened ∷ Opened ∷ Closed 0 ∷ []) ≡ false ∷ true ∷ [])
open_examples = (refl, refl, refl)
