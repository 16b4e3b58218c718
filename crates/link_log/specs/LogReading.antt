-- What a line of a log means, part by part.
use Rattle.std.specs.Prelude.{ℕ, Bool, nat_lt, nat_le, Option, Some, None, Result, Ok, Err, List, if◌then◌else◌, length}
use Rattle.esi_base.specs.Answers.{◌>>=◌}
use Rattle.esi_base.specs.declared.place.Refusal.{Refusal}
use Rattle.small_text.specs.Lines.{Part, Line, place_of}
use Rattle.small_text.specs.Hexadecimal.{octets_of}
use Rattle.link_log.specs.declared.limits.TheConstants.{LOG_LINES, LOG_OCTETS}
use Rattle.link_log.specs.declared.rule.LogRule.{LogRule}
use Rattle.link_log.specs.declared.rule.LogRule.TheVariants.{UnknownWord, PartCount, BadPart, NotOpen, NeverOpened, PastLimit}
use Rattle.link_log.specs.declared.step.LogStep.{LogStep}
use Rattle.link_log.specs.declared.step.LogStep.TheVariants.{Opened, Bytes, Writable, Closed, Idle, Fail, Room}
use Rattle.link_log.specs.RuleNumbers.{rule_number}
use Rattle.link_log.specs.LogLines.{LogForm, conn_of, room_of, is_open}
use Rattle.link_log.specs.LogLines.LogForm.{unknown, miscounted, opening, bringing, writing, closing, idling, failing, rooming}

-- A rule is broken at a part of a line.
abbrev pub refuse_at : {A : Type 0} → LogRule → Line → Part → Result A Refusal
refuse_at rule line part = Err (record { number = rule_number rule; place = place_of line.number part })

-- The number of an open connection.
abbrev pub open_number : List Bool → Line → Part → Option ℕ → Result ℕ Refusal
open_number conns line conn None = refuse_at BadPart line conn
open_number conns line conn (Some number) = if is_open conns number then Ok number else refuse_at NotOpen line conn

abbrev pub brought : Line → Part → Option (List ℕ) → ℕ → Result LogStep Refusal
brought line part None conn = refuse_at BadPart line part
brought line part (Some octets) conn = if nat_lt LOG_OCTETS (length octets) then refuse_at PastLimit line part else Ok (Bytes conn octets)

abbrev pub roomed : Line → Part → Option ℕ → ℕ → Result LogStep Refusal
roomed line part None conn = refuse_at BadPart line part
roomed line part (Some octets) conn = Ok (Room conn octets)

-- The number of a connection that was opened, and its room.
abbrev pub room_step : List Bool → Line → Part → Part → Option ℕ → Option ℕ → Result LogStep Refusal
room_step conns line conn room None read = refuse_at BadPart line conn
room_step conns line conn room (Some number) read =
    if nat_le (length conns) number then refuse_at NeverOpened line conn else roomed line room read number

-- What the parts after the word mean.
abbrev pub parts_mean : List Bool → Line → LogForm → Result LogStep Refusal
parts_mean conns line unknown = refuse_at UnknownWord line line.word
parts_mean conns line miscounted = refuse_at PartCount line line.word
parts_mean conns line opening = Ok Opened
parts_mean conns line (bringing conn octets) = open_number conns line conn (conn_of conn) >>= brought line octets (octets_of octets.octets)
parts_mean conns line (writing conn) = open_number conns line conn (conn_of conn) >>= (λ number. Ok (Writable number))
parts_mean conns line (closing conn) = open_number conns line conn (conn_of conn) >>= (λ number. Ok (Closed number))
parts_mean conns line idling = Ok Idle
parts_mean conns line failing = Ok Fail
parts_mean conns line (rooming conn room) = room_step conns line conn room (conn_of conn) (room_of room)

-- A line counts toward the limit where it is of a form.
abbrev pub counted : ℕ → Line → Result LogStep Refusal → Result LogStep Refusal
counted count line meaning = if nat_le LOG_LINES count then refuse_at PastLimit line line.word else meaning

abbrev pub form_means : List Bool → ℕ → Line → LogForm → Result LogStep Refusal
form_means conns count line unknown = refuse_at UnknownWord line line.word
form_means conns count line miscounted = refuse_at PartCount line line.word
form_means conns count line opening = counted count line (parts_mean conns line opening)
form_means conns count line (bringing conn octets) = counted count line (parts_mean conns line (bringing conn octets))
form_means conns count line (writing conn) = counted count line (parts_mean conns line (writing conn))
form_means conns count line (closing conn) = counted count line (parts_mean conns line (closing conn))
form_means conns count line idling = counted count line (parts_mean conns line idling)
form_means conns count line failing = counted count line (parts_mean conns line failing)
form_means conns count line (rooming conn room) = counted count line (parts_mean conns line (rooming conn room))
