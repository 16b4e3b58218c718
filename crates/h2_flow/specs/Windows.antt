-- What a ledger holds, and what each of its calls does.
use Rattle.std.specs.Prelude.{ℕ, ◌+◌, ◌-◌, ◌≤◌, ℤ, pos, ◌+ℤ◌, ◌-ℤ◌, Bool, true, false, ◌&&◌, not, ◌==◌, min, nat_lt, is_some, is_none, Option, Some, None, List, [], ◌∷◌, ◌++◌, length, Result, Ok, Err, if◌then◌else◌}
use Rattle.std.specs.List.{list_any}
use Rattle.h2_flow.specs.declared.ledger.FlowFault.{FlowFault}
use Rattle.h2_flow.specs.declared.limits.TheConstants.{FIRST_WINDOW, GREATEST_WINDOW, OPEN_STREAMS}
use Rattle.h2_flow.specs.declared.stream_windows.StreamWindows.{StreamWindows}
use Rattle.h2_flow.specs.Streams.{new_windows, send_window_of, is_too_great, octets_of, windows_on, with_windows, without_stream}

-- The windows of a connection, in octets. The connection's own are never negative: nothing is sent or
-- taken in past them, and no setting changes them. So is a stream's window to receive. A stream's window
-- to send may be negative: the peer's setting is a part of it, and may fall.
pub record Windows : Type 0 where
  -- the peer's last setting INITIAL_WINDOW_SIZE
  pub initial : ℕ
  -- the connection's windows
  pub send : ℕ
  pub receive : ℕ
  -- those of each open stream
  pub streams : List StreamWindows

-- the setting and the connection's windows are no greater than 31 bits can say
pub record AreBounded (w : Windows) : Type 0 where
  pub initial : w.initial ≤ GREATEST_WINDOW
  pub send : w.send ≤ GREATEST_WINDOW
  pub receive : w.receive ≤ GREATEST_WINDOW

-- those of a new connection
abbrev pub first_windows : Windows
first_windows = record { initial = FIRST_WINDOW; send = FIRST_WINDOW; receive = FIRST_WINDOW; streams = [] }

-- ---- which streams are open

abbrev pub is_open : ℕ → Windows → Bool
is_open stream w = is_some (windows_on stream w.streams)

-- no stream has the number 0, and at most OPEN_STREAMS are open at once
abbrev pub may_open : ℕ → Windows → Bool
may_open stream w = nat_lt 0 stream && not (is_open stream w) && nat_lt (length w.streams) OPEN_STREAMS

abbrev pub after_opening : ℕ → Windows → Windows
after_opening stream w = if may_open stream w then record w { streams = w.streams ++ new_windows stream ∷ [] } else w

abbrev pub after_closing : ℕ → Windows → Windows
after_closing stream w = record w { streams = without_stream stream w.streams }

-- ---- answers

-- the answer of a call that may report a fault, and the windows after it
pub record Answer : Type 0 where
  pub fault : Option FlowFault
  pub windows : Windows

-- everything was counted
abbrev pub no_fault : Windows → Answer
no_fault w = record { fault = None; windows = w }

-- a fault: of the connection's window, or of a stream's
abbrev pub fault_of_connection : Windows → Answer
fault_of_connection w = record { fault = Some (record { whole = true }); windows = w }

abbrev pub fault_of_stream : Windows → Answer
fault_of_stream w = record { fault = Some (record { whole = false }); windows = w }

-- the fault in what the code's call answers
abbrev pub fault_in : Result Unit FlowFault → Option FlowFault
fault_in (Ok done) = None
fault_in (Err fault) = Some fault

-- ---- DATA that arrives

abbrev pub receipt_on : Option StreamWindows → ℕ → Windows → Answer
receipt_on None octets w = no_fault w
receipt_on (Some row) octets w = if nat_lt row.receive octets then fault_of_stream w
    else no_fault (record w { streams = with_windows (record row { receive = row.receive - octets }) w.streams })

-- first on the connection, then on the stream, where it is open
abbrev pub answer_at_receipt : ℕ → ℕ → Windows → Answer
answer_at_receipt stream octets w = if nat_lt w.receive octets then fault_of_connection w
    else (if stream == 0 then no_fault (record w { receive = w.receive - octets })
    else receipt_on (windows_on stream w.streams) octets (record w { receive = w.receive - octets }))

-- the increment that is due for octets that were taken in: these, as far as the window has room
abbrev pub increment_due : ℕ → Windows → ℕ
increment_due octets w = min octets (GREATEST_WINDOW - w.receive)

abbrev pub after_resolving : ℕ → Windows → Windows
after_resolving octets w = record w { receive = w.receive + increment_due octets w }

-- the window to receive: the connection's at 0, else that of the stream, where it is open
abbrev pub receive_window_on : Option StreamWindows → ℕ
receive_window_on None = 0
receive_window_on (Some row) = row.receive

abbrev pub receive_window : ℕ → Windows → ℕ
receive_window stream w = if stream == 0 then w.receive else receive_window_on (windows_on stream w.streams)

-- ---- DATA that is sent

-- the window to send: the connection's at 0, else that of the stream, where it is open
abbrev pub send_window_on : Option StreamWindows → ℕ → ℤ
send_window_on None initial = pos 0
send_window_on (Some row) initial = send_window_of initial row

abbrev pub send_window : ℕ → Windows → ℤ
send_window stream w = if stream == 0 then pos w.send else send_window_on (windows_on stream w.streams) w.initial

abbrev pub may_send_on : Option StreamWindows → Windows → ℕ
may_send_on None w = 0
may_send_on (Some row) w = min (octets_of (send_window_of w.initial row)) w.send

-- the lesser of the stream's window and the connection's, or 0
abbrev pub may_send : ℕ → Windows → ℕ
may_send stream w = may_send_on (windows_on stream w.streams) w

abbrev pub after_sending_on : Option StreamWindows → ℕ → Windows → Windows
after_sending_on None octets w = w
after_sending_on (Some row) octets w = record w { send = w.send - octets; streams = with_windows (record row { credit = row.credit -ℤ pos octets }) w.streams }

abbrev pub after_sending : ℕ → ℕ → Windows → Windows
after_sending stream octets w = after_sending_on (windows_on stream w.streams) octets w

-- ---- WINDOW_UPDATE and SETTINGS

abbrev pub update_on : Option StreamWindows → ℕ → Windows → Answer
update_on None increment w = no_fault w
update_on (Some row) increment w = if is_too_great (send_window_of w.initial row +ℤ pos increment) then fault_of_stream w
    else no_fault (record w { streams = with_windows (record row { credit = row.credit +ℤ pos increment }) w.streams })

abbrev pub answer_at_update : ℕ → ℕ → Windows → Answer
answer_at_update stream increment w = if stream == 0 then
    (if nat_lt GREATEST_WINDOW (w.send + increment) then fault_of_connection w else no_fault (record w { send = w.send + increment }))
    else update_on (windows_on stream w.streams) increment w

-- an increment of so much reports no fault
abbrev pub has_room_for : ℕ → ℕ → Windows → Bool
has_room_for stream increment w = is_none (answer_at_update stream increment w).fault

-- some open stream's window would be too great, were this the peer's setting
abbrev pub passes_some : ℕ → List StreamWindows → Bool
passes_some value streams = list_any (λ row. is_too_great (send_window_of value row)) streams

abbrev pub answer_at_setting : ℕ → Windows → Answer
answer_at_setting value w = if nat_lt GREATEST_WINDOW value then fault_of_stream w
    else (if passes_some value w.streams then fault_of_stream w else no_fault (record w { initial = value }))
