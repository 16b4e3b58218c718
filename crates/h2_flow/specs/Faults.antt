-- When a call reports a flow-control fault, and what has changed after it: by the windows, not by the order
-- of the tests (RFC 9113, sections 6.9 and 6.9.2).
use Rattle.std.specs.Prelude.{◌≡◌, ◌≢◌, ◌↔◌, ℕ, ◌+◌, ◌-◌, ◌<◌, ◌≤◌, ◌⊎◌, pos, ◌+ℤ◌, ◌<ℤ◌, true, false, Option, Some, None, IsSomeAnd}
use Rattle.std.specs.List.{Any}
use Rattle.h2_flow.specs.declared.ledger.FlowFault.{FlowFault}
use Rattle.h2_flow.specs.declared.limits.TheConstants.{GREATEST_WINDOW}
use Rattle.h2_flow.specs.Streams.{windows_on, send_window_of}
use Rattle.h2_flow.specs.Windows.{Windows, Answer}

-- the fault of the connection's window, and that of a stream's
abbrev pub connection_fault : Option FlowFault
connection_fault = Some (record { whole = true })

abbrev pub stream_fault : Option FlowFault
stream_fault = Some (record { whole = false })

-- the stream is open, and so many octets would take its window to receive below 0
abbrev pub FallsBelow : ℕ → ℕ → Windows → Type 0
FallsBelow stream octets w = (0 < stream) × IsSomeAnd (windows_on stream w.streams) (λ row. row.receive < octets)

-- the stream is open, and the increment would take its window to send past the greatest one
abbrev pub Passes : ℕ → ℕ → Windows → Type 0
Passes stream increment w = (0 < stream) × IsSomeAnd (windows_on stream w.streams) (λ row. pos GREATEST_WINDOW <ℤ (send_window_of w.initial row +ℤ pos increment))

-- the setting, or under it the window to send of some open stream, is past the greatest one
abbrev pub PassesAsSetting : ℕ → Windows → Type 0
PassesAsSetting value w = (GREATEST_WINDOW < value) ⊎ Any (λ row. pos GREATEST_WINDOW <ℤ send_window_of value row) w.streams

-- octets that arrived: the connection is checked first, and has counted them where the stream is at fault
pub record IsCheckedAtReceipt (stream octets : ℕ) (w : Windows) (answer : Answer) : Type 0 where
  pub of_connection : (answer.fault ≡ connection_fault) ↔ (w.receive < octets)
  pub of_stream : (answer.fault ≡ stream_fault) ↔ ((octets ≤ w.receive) × FallsBelow stream octets w)
  pub unchanged : answer.fault ≡ connection_fault → answer.windows ≡ w
  pub counted : answer.fault ≡ stream_fault → answer.windows ≡ record w { receive = w.receive - octets }

-- an increment: a fault changes nothing
pub record IsCheckedAtUpdate (stream increment : ℕ) (w : Windows) (answer : Answer) : Type 0 where
  pub of_connection : (answer.fault ≡ connection_fault) ↔ ((stream ≡ 0) × (GREATEST_WINDOW < w.send + increment))
  pub of_stream : (answer.fault ≡ stream_fault) ↔ Passes stream increment w
  pub unchanged : answer.fault ≢ None → answer.windows ≡ w

-- a setting: it is a stream's window that is at fault, and nothing is changed
pub record IsCheckedAtSetting (value : ℕ) (w : Windows) (answer : Answer) : Type 0 where
  pub of_connection : answer.fault ≢ connection_fault
  pub of_stream : (answer.fault ≡ stream_fault) ↔ PassesAsSetting value w
  pub unchanged : answer.fault ≢ None → answer.windows ≡ w
