-- What a line of a schedule means, part by part.
use Rattle.std.specs.Prelude.{ℕ, ◌+◌, nat_lt, nat_le, Option, Some, None, Result, Ok, Err, if◌then◌else◌}
use Rattle.esi_base.specs.declared.place.Refusal.{Refusal}
use Rattle.small_text.specs.Lines.{Part, Line, place_of}
use Rattle.schedule_text.specs.declared.limits.TheConstants.{SCHEDULE_LINES, SCHEDULE_ROUNDS}
use Rattle.schedule_text.specs.declared.rule.ScheduleRule.{ScheduleRule}
use Rattle.schedule_text.specs.declared.rule.ScheduleRule.TheVariants.{UnknownWord, PartCount, BadPart, PastLimit}
use Rattle.schedule_text.specs.declared.step.Move.{Move}
use Rattle.schedule_text.specs.declared.step.Move.TheVariants.{Client, Server, Up, Down, Round}
use Rattle.schedule_text.specs.RuleNumbers.{rule_number}
use Rattle.schedule_text.specs.ScheduleLines.{ScheduleForm, move_of, round_of}
use Rattle.schedule_text.specs.ScheduleLines.ScheduleForm.{unknown, miscounted, for_client, for_server, moving_up, moving_down, rounding}

-- A rule is broken at a part of a line.
abbrev pub refuse_at : ScheduleRule → Line → Part → Result Move Refusal
refuse_at rule line part = Err (record { number = rule_number rule; place = place_of line.number part })

-- A move of so many octets.
abbrev pub moved : Line → Part → (ℕ → Move) → Option ℕ → Result Move Refusal
moved line part move None = refuse_at BadPart line part
moved line part move (Some octets) = Ok (move octets)

-- So many rounds, where all lines may ask for them.
abbrev pub rounded : ℕ → Line → Part → Option ℕ → Result Move Refusal
rounded rounds line part None = refuse_at BadPart line part
rounded rounds line part (Some more) =
    if nat_lt SCHEDULE_ROUNDS (rounds + more) then refuse_at PastLimit line line.word else Ok (Round more)

-- A line counts toward the limit where it is of a form.
abbrev pub counted : ℕ → Line → Result Move Refusal → Result Move Refusal
counted count line meaning = if nat_le SCHEDULE_LINES count then refuse_at PastLimit line line.word else meaning

abbrev pub form_means : ℕ → ℕ → Line → ScheduleForm → Result Move Refusal
form_means rounds count line unknown = refuse_at UnknownWord line line.word
form_means rounds count line miscounted = refuse_at PartCount line line.word
form_means rounds count line for_client = counted count line (Ok Client)
form_means rounds count line for_server = counted count line (Ok Server)
form_means rounds count line (moving_up part) = counted count line (moved line part (λ octets. Up octets) (move_of part))
form_means rounds count line (moving_down part) = counted count line (moved line part (λ octets. Down octets) (move_of part))
form_means rounds count line (rounding part) = counted count line (rounded rounds line part (round_of part))
