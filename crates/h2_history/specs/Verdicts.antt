-- What a frame comes to where it stands, by its type, at either end.
use Rattle.std.specs.Prelude.{ℕ, ◌==◌, ◌%◌, nat_lt, Option, Some, None, List, [], ◌∷◌, length, if◌then◌else◌}
use Rattle.h2_flow.specs.declared.limits.TheConstants.{OPEN_STREAMS}
use Rattle.h2_flow.specs.Windows.{receive_window, has_room_for}
use Rattle.h2_history.specs.declared.event.CallEvent.{CallEvent}
use Rattle.h2_history.specs.declared.event.CallEvent.TheVariants.{Reset as ResetEvent}
use Rattle.h2_history.specs.declared.verdict.Verdict.{Verdict}
use Rattle.h2_history.specs.declared.verdict.Verdict.TheVariants.{ConnectionError, StreamError, Ignored, Accepted}
use Rattle.h2_history.specs.Puts.{Put, goaway}
use Rattle.h2_history.specs.Puts.Put.{Plain}
use Rattle.h2_history.specs.Standing.{Standing, was_opened}
use Rattle.h2_layouts.specs.declared.code.TheConstants.{PROTOCOL_ERROR, FLOW_CONTROL_ERROR, STREAM_CLOSED, REFUSED_STREAM}
use Rattle.h2_layouts.specs.declared.frame.Frame.TheVariants.{Reset, Update}
use Rattle.h2_layouts.specs.declared.role.Role.{Role}
use Rattle.h2_layouts.specs.declared.role.Role.TheVariants.{Server, Client}
use Rattle.stream_table.specs.declared.open_stream.OpenStream.{OpenStream}
use Rattle.stream_table.specs.Rows.{row_of, is_open}

-- a frame on a stream that was not opened breaks a rule of the connection; one on a closed stream is ignored
abbrev pub on_open : ℕ → Verdict → Standing → Verdict
on_open stream verdict s = if was_opened stream s then (if is_open stream s.streams then verdict else Ignored) else ConnectionError PROTOCOL_ERROR

-- ---- DATA

-- a server counts the octets on the stream too. A client gives each frame's octets back before it reads the next one, so
-- its streams' windows are whole again, and it counts on the connection alone
abbrev pub counted_on : Role → ℕ → ℕ
counted_on Server stream = stream
counted_on Client stream = 0

abbrev pub data_on_row : Option OpenStream → ℕ → ℕ → Standing → Verdict
data_on_row None stream flow s = Ignored
data_on_row (Some row) stream flow s = if row.peer_ended then StreamError stream STREAM_CLOSED
    else (if nat_lt (receive_window (counted_on s.role stream) s.flow) flow then StreamError stream FLOW_CONTROL_ERROR else Accepted)

abbrev pub data_verdict : ℕ → ℕ → Standing → Verdict
data_verdict stream flow s = if was_opened stream s then
    (if nat_lt s.flow.receive flow then ConnectionError FLOW_CONTROL_ERROR else data_on_row (row_of stream s.streams) stream flow s)
    else ConnectionError PROTOCOL_ERROR

-- ---- HEADERS

-- a client opens streams, and no server does
abbrev pub new_stream_verdict : Role → ℕ → Standing → Verdict
new_stream_verdict Server stream s = if nat_lt (length s.streams) OPEN_STREAMS then Accepted else StreamError stream REFUSED_STREAM
new_stream_verdict Client stream s = ConnectionError PROTOCOL_ERROR

abbrev pub headers_on_row : Option OpenStream → ℕ → Verdict
headers_on_row None stream = Ignored
headers_on_row (Some row) stream = if row.peer_ended then StreamError stream STREAM_CLOSED else Accepted

abbrev pub headers_verdict : ℕ → Standing → Verdict
headers_verdict stream s = if stream % 2 == 0 then ConnectionError PROTOCOL_ERROR
    else (if nat_lt s.greatest stream then new_stream_verdict s.role stream s else headers_on_row (row_of stream s.streams) stream)

-- ---- RST_STREAM and WINDOW_UPDATE

abbrev pub reset_verdict : ℕ → Standing → Verdict
reset_verdict stream s = on_open stream Accepted s

abbrev pub update_on_stream : ℕ → ℕ → Standing → Verdict
update_on_stream stream increment s = if increment == 0 then StreamError stream PROTOCOL_ERROR
    else (if has_room_for stream increment s.flow then Accepted else StreamError stream FLOW_CONTROL_ERROR)

abbrev pub update_verdict : ℕ → ℕ → Standing → Verdict
update_verdict stream increment s = if stream == 0
    then (if has_room_for 0 increment s.flow then Accepted else ConnectionError FLOW_CONTROL_ERROR)
    else on_open stream (update_on_stream stream increment s) s

-- ---- what follows from a verdict

-- octets of DATA from which nothing comes are given back at once
abbrev pub update_due : ℕ → List Put
update_due flow = if flow == 0 then [] else Plain (Update 0 flow) ∷ []

-- what is put for a frame that took so many octets of the windows
abbrev pub owed : Verdict → ℕ → Standing → List Put
owed (ConnectionError code) flow s = goaway code s ∷ []
owed (StreamError stream code) flow s = Plain (Reset stream code) ∷ update_due flow
owed Ignored flow s = update_due flow
owed Accepted flow s = []

-- what is reported of a frame that reports this where it is accepted
abbrev pub reported : Verdict → Option CallEvent → Option CallEvent
reported (ConnectionError code) event = None
reported (StreamError stream code) event = Some (ResetEvent stream code)
reported Ignored event = None
reported Accepted event = event
