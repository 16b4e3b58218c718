-- What a schedule is and what breaks its rules, line by line, whatever way it is read.
use Rattle.std.specs.Prelude.{ℕ, ◌+◌, Bool, true, false, nat_lt, nat_le, Option, Some, None, List, [], ◌∷◌, if◌then◌else◌, length, codes, unwrap_or}
use Rattle.std.specs.List.{sum_by}
use Rattle.std.specs.Str.{bytes_eq}
use Rattle.small_text.specs.Lines.{Part, Line}
use Rattle.small_text.specs.Numbers.{number_of}
use Rattle.line_rules.specs.LineTests.{LineTest, broken_at}
use Rattle.line_rules.specs.Shapes.{alone, with_one}
use Rattle.line_rules.specs.TextRules.{TextRules}
use Rattle.schedule_text.specs.declared.limits.TheConstants.{LARGEST_MOVE, LARGEST_ROUND, LONGEST_SCHEDULE, SCHEDULE_LINES, SCHEDULE_ROUNDS}
use Rattle.schedule_text.specs.declared.rule.ScheduleRule.{ScheduleRule}
use Rattle.schedule_text.specs.declared.rule.ScheduleRule.TheVariants.{TooLong, UnknownWord, PartCount, BadPart, PastLimit}
use Rattle.schedule_text.specs.declared.step.Move.{Move}
use Rattle.schedule_text.specs.declared.step.Move.TheVariants.{Client, Server, Up, Down, Round}
use Rattle.schedule_text.specs.RuleNumbers.{rule_number}

-- ---- the form of a line

-- What a line is by its word and the number of its parts, with the part after the word.
pub data ScheduleForm : Type 0 where
  unknown : ScheduleForm
  miscounted : ScheduleForm
  for_client : ScheduleForm
  for_server : ScheduleForm
  moving_up : Part → ScheduleForm
  moving_down : Part → ScheduleForm
  rounding : Part → ScheduleForm

abbrev pub form_of : Line → ScheduleForm
form_of line =
    if bytes_eq line.word.octets (codes "client") then alone miscounted for_client line.others
    else (if bytes_eq line.word.octets (codes "server") then alone miscounted for_server line.others
    else (if bytes_eq line.word.octets (codes "up") then with_one miscounted moving_up line.others
    else (if bytes_eq line.word.octets (codes "down") then with_one miscounted moving_down line.others
    else (if bytes_eq line.word.octets (codes "round") then with_one miscounted rounding line.others
    else unknown))))

-- A count of octets to move, and a count of rounds.
abbrev pub move_of : Part → Option ℕ
move_of part = number_of LARGEST_MOVE part.octets

abbrev pub round_of : Part → Option ℕ
round_of part = number_of LARGEST_ROUND part.octets

-- What a form says where its part can be read; a line that is no form says nothing.
abbrev pub form_says : ScheduleForm → Move
form_says unknown = Client
form_says miscounted = Client
form_says for_client = Client
form_says for_server = Server
form_says (moving_up part) = Up (unwrap_or (move_of part) 0)
form_says (moving_down part) = Down (unwrap_or (move_of part) 0)
form_says (rounding part) = Round (unwrap_or (round_of part) 0)

-- The rounds that a move asks for.
abbrev pub rounds_of : Move → ℕ
rounds_of Client = 0
rounds_of Server = 0
rounds_of (Up _) = 0
rounds_of (Down _) = 0
rounds_of (Round count) = count

-- ---- the rules

abbrev pub is_unknown : ScheduleForm → Bool
is_unknown unknown = true
is_unknown _ = false

abbrev pub is_miscounted : ScheduleForm → Bool
is_miscounted miscounted = true
is_miscounted _ = false

-- A part cannot be read.
abbrev pub is_unread : Option ℕ → Bool
is_unread None = true
is_unread (Some _) = false

-- With so many rounds before and these more, more are asked for than all lines may.
abbrev pub passes_rounds : ℕ → Option ℕ → Bool
passes_rounds rounds None = false
passes_rounds rounds (Some more) = nat_lt SCHEDULE_ROUNDS (rounds + more)

-- The rules of the part after the word.
abbrev pub part_tests : ℕ → Line → ScheduleForm → List LineTest
part_tests rounds line unknown = []
part_tests rounds line miscounted = []
part_tests rounds line for_client = []
part_tests rounds line for_server = []
part_tests rounds line (moving_up part) = broken_at (rule_number BadPart) part (is_unread (move_of part)) ∷ []
part_tests rounds line (moving_down part) = broken_at (rule_number BadPart) part (is_unread (move_of part)) ∷ []
part_tests rounds line (rounding part) =
    broken_at (rule_number PastLimit) line.word (passes_rounds rounds (round_of part))
    ∷ broken_at (rule_number BadPart) part (is_unread (round_of part))
    ∷ []

-- The rules of a line of a form, after so many rounds and lines.
abbrev pub form_tests : ℕ → ℕ → Line → ScheduleForm → List LineTest
form_tests rounds count line form =
    broken_at (rule_number UnknownWord) line.word (is_unknown form)
    ∷ broken_at (rule_number PartCount) line.word (is_miscounted form)
    ∷ broken_at (rule_number PastLimit) line.word (nat_le SCHEDULE_LINES count)
    ∷ part_tests rounds line form

-- The rules of a line, after the moves of the lines before it.
abbrev pub line_tests : List Move → Line → List LineTest
line_tests before line = form_tests (sum_by rounds_of before) (length before) line (form_of line)

-- The rules of a schedule.
abbrev pub schedule_rules : TextRules Move
schedule_rules =
    record { tests = line_tests; said = λ line. form_says (form_of line); longest = LONGEST_SCHEDULE; too_long = rule_number TooLong }
