-- The history of a ledger: its calls, and the windows as sums over them (RFC 9113, sections 5.2 and 6.9).
use Rattle.std.specs.Prelude.{◌≡◌, ℕ, ◌+◌, ◌≤◌, ℤ, pos, ◌+ℤ◌, ◌-ℤ◌, ◌≤ℤ◌, Bool, true, false, ◌==◌, Option, Some, None, List, [], ◌∷◌, if◌then◌else◌}
use Rattle.std.specs.Int.{int_min}
use Rattle.h2_flow.specs.declared.ledger.FlowFault.{FlowFault}
use Rattle.h2_flow.specs.declared.limits.TheConstants.{FIRST_WINDOW, GREATEST_WINDOW}
use Rattle.h2_flow.specs.declared.stream_windows.StreamWindows.{StreamWindows}
use Rattle.h2_flow.specs.Streams.{send_window_of, octets_of, windows_on}
use Rattle.h2_flow.specs.Windows.{Windows, AreBounded, is_open, may_open, after_opening, after_closing, answer_at_receipt, increment_due, after_resolving, may_send, after_sending, answer_at_update, answer_at_setting}

-- A call that changes the windows, with what it answered: whether it opened the stream, the fault that
-- it reported, the increment that was due.
pub data Call : Type 0 where
  OpenStream : (stream : ℕ) → (opens : Bool) → Call
  CloseStream : (stream : ℕ) → Call
  Received : (stream octets : ℕ) → (fault : Option FlowFault) → Call
  Resolve : (octets increment : ℕ) → Call
  Sent : (stream octets : ℕ) → Call
  Update : (stream increment : ℕ) → (fault : Option FlowFault) → Call
  Initial : (value : ℕ) → (fault : Option FlowFault) → Call

-- the call found the one windows and left the other
abbrev pub Step : Windows → Call → Windows → Type 0
Step old (OpenStream stream opens) new = (opens ≡ may_open stream old) × (new ≡ after_opening stream old)
Step old (CloseStream stream) new = new ≡ after_closing stream old
Step old (Received stream octets fault) new = record { fault = fault; windows = new } ≡ answer_at_receipt stream octets old
Step old (Resolve octets increment) new = (increment ≡ increment_due octets old) × (new ≡ after_resolving octets old)
Step old (Sent stream octets) new = (octets ≤ may_send stream old) × (new ≡ after_sending stream octets old)
Step old (Update stream increment fault) new = record { fault = fault; windows = new } ≡ answer_at_update stream increment old
Step old (Initial value fault) new = record { fault = fault; windows = new } ≡ answer_at_setting value old

-- the calls, one after another, lead from the one windows to the other
abbrev pub IsRun : Windows → List Call → Windows → Type 0
IsRun old [] new = old ≡ new
IsRun old (call ∷ calls) new = (between : Windows) × (Step old call between × IsRun between calls new)

-- ---- what each call counts for

-- the octets, where the stream is the one that is asked for
abbrev pub only : ℕ → ℕ → ℕ → ℕ
only asked stream octets = if stream == asked then octets else 0

-- an increment that the peer gave the stream, or the connection, which is 0; one that reported a fault is none
abbrev pub increment_for : ℕ → Call → ℕ
increment_for asked (Update stream increment None) = only asked stream increment
increment_for asked call = 0

-- octets of DATA sent on the stream, and on any stream
abbrev pub octets_sent_on : ℕ → Call → ℕ
octets_sent_on asked (Sent stream octets) = only asked stream octets
octets_sent_on asked call = 0

abbrev pub octets_sent : Call → ℕ
octets_sent (Sent stream octets) = octets
octets_sent call = 0

-- octets of DATA that arrived on the stream; those that reported a fault are not counted on it
abbrev pub octets_arrived_on : ℕ → Call → ℕ
octets_arrived_on asked (Received stream octets None) = only asked stream octets
octets_arrived_on asked call = 0

-- those on any stream; only the connection's own fault keeps them from being counted on the connection
abbrev pub octets_arrived : Call → ℕ
octets_arrived (Received stream octets None) = octets
octets_arrived (Received stream octets (Some fault)) = if fault.whole then 0 else octets
octets_arrived call = 0

-- an increment that was due to the peer
abbrev pub octets_resolved : Call → ℕ
octets_resolved (Resolve octets increment) = increment
octets_resolved call = 0

abbrev pub opens : ℕ → Call → Bool
opens asked (OpenStream stream true) = stream == asked
opens asked call = false

abbrev pub closes : ℕ → Call → Bool
closes asked (CloseStream stream) = stream == asked
closes asked call = false

-- ---- sums

-- over all calls
abbrev pub total : (Call → ℕ) → List Call → ℕ
total f [] = 0
total f (call ∷ calls) = f call + total f calls

-- over the calls since the stream was last opened; so_far is the sum before them
abbrev pub total_since : ℕ → (Call → ℕ) → ℕ → List Call → ℕ
total_since stream f so_far [] = so_far
total_since stream f so_far (call ∷ calls) = total_since stream f (if opens stream call then 0 else so_far + f call) calls

-- whether the stream is open after the calls, from whether it was before
abbrev pub stays_open : ℕ → Bool → List Call → Bool
stays_open stream was [] = was
stays_open stream was (call ∷ calls) = stays_open stream (if opens stream call then true else (if closes stream call then false else was)) calls

-- the peer's setting after the calls
abbrev pub setting_after : ℕ → List Call → ℕ
setting_after value [] = value
setting_after value (Initial other None ∷ calls) = setting_after other calls
setting_after value (call ∷ calls) = setting_after value calls

-- ---- the windows of a connection that begins with these calls

abbrev pub is_open_after : ℕ → List Call → Bool
is_open_after stream calls = stays_open stream false calls

-- to send, a stream has the peer's last setting and the increments for it, less what was sent on it
abbrev pub stream_send_window : ℕ → List Call → ℤ
stream_send_window stream calls = pos (setting_after FIRST_WINDOW calls)
    +ℤ (pos (total_since stream (increment_for stream) 0 calls) -ℤ pos (total_since stream (octets_sent_on stream) 0 calls))

-- the connection has the first window and the increments for stream 0, less all that was sent
abbrev pub connection_send_window : List Call → ℤ
connection_send_window calls = pos FIRST_WINDOW +ℤ pos (total (increment_for 0) calls) -ℤ pos (total octets_sent calls)

-- to receive, a stream has the first window less what arrived on it
abbrev pub stream_receive_window : ℕ → List Call → ℤ
stream_receive_window stream calls = pos FIRST_WINDOW -ℤ pos (total_since stream (octets_arrived_on stream) 0 calls)

-- the connection has the first window and the increments that were due, less all that arrived
abbrev pub connection_receive_window : List Call → ℤ
connection_receive_window calls = pos FIRST_WINDOW +ℤ pos (total octets_resolved calls) -ℤ pos (total octets_arrived calls)

-- ---- what the law says of the windows after the calls

-- what calls add to the connection's windows, and to the setting
pub record IsSummed (old : Windows) (calls : List Call) (new : Windows) : Type 0 where
  pub send : new.send + total octets_sent calls ≡ old.send + total (increment_for 0) calls
  pub receive : new.receive + total octets_arrived calls ≡ old.receive + total octets_resolved calls
  pub setting : new.initial ≡ setting_after old.initial calls

-- the connection's windows are the sums, and within what 31 bits can say
pub record AreConnectionSums (calls : List Call) (w : Windows) : Type 0 where
  pub setting : w.initial ≡ setting_after FIRST_WINDOW calls
  pub send : pos w.send ≡ connection_send_window calls
  pub receive : pos w.receive ≡ connection_receive_window calls
  pub bounded : AreBounded w

-- a stream is open where it was opened and not closed since, and then its windows are the sums, and
-- within what 31 bits can say
pub record AreStreamSums (stream : ℕ) (calls : List Call) (w : Windows) : Type 0 where
  pub is_open : is_open stream w ≡ is_open_after stream calls
  pub send : (row : StreamWindows) → windows_on stream w.streams ≡ Some row → send_window_of w.initial row ≡ stream_send_window stream calls
  pub receive : (row : StreamWindows) → windows_on stream w.streams ≡ Some row → pos row.receive ≡ stream_receive_window stream calls
  pub bounded : (row : StreamWindows) → windows_on stream w.streams ≡ Some row → send_window_of w.initial row ≤ℤ pos GREATEST_WINDOW
  pub may_send : may_send stream w ≡ (if is_open_after stream calls then octets_of (int_min (stream_send_window stream calls) (connection_send_window calls)) else 0)
