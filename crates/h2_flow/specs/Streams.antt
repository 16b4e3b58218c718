-- The windows of the open streams, as a list with an entry for each, and one stream's windows in it.
use Rattle.std.specs.Prelude.{ℕ, ℤ, pos, negsuc, ◌+ℤ◌, Bool, int_lt, Option, List}
use Rattle.h2_flow.specs.declared.limits.TheConstants.{FIRST_WINDOW, GREATEST_WINDOW}
use Rattle.h2_flow.specs.KeyedRows.{row_at, rows_with, rows_without}
use Rattle.h2_flow.specs.declared.stream_windows.StreamWindows.{StreamWindows}

-- the windows of a stream that has just been opened: nothing was given, sent or received on it
abbrev pub new_windows : ℕ → StreamWindows
new_windows stream = record { stream = stream; credit = pos 0; receive = FIRST_WINDOW }

-- the window to send: the peer's setting, and what it has given the stream less what was sent on it
abbrev pub send_window_of : ℕ → StreamWindows → ℤ
send_window_of initial row = pos initial +ℤ row.credit

-- the window as a number of octets that may be sent: 0 where it is negative
abbrev pub octets_of : ℤ → ℕ
octets_of (pos octets) = octets
octets_of (negsuc octets) = 0

-- the window would be one that 31 bits do not hold
abbrev pub is_too_great : ℤ → Bool
is_too_great window = int_lt (pos GREATEST_WINDOW) window

-- the stream that the windows are of
abbrev pub stream_of : StreamWindows → ℕ
stream_of row = row.stream

-- the windows of a stream, None where it is not open
abbrev pub windows_on : ℕ → List StreamWindows → Option StreamWindows
windows_on stream rows = row_at stream_of stream rows

-- the open streams, with these windows for the stream that they name
abbrev pub with_windows : StreamWindows → List StreamWindows → List StreamWindows
with_windows new rows = rows_with stream_of new rows

-- the open streams without this one
abbrev pub without_stream : ℕ → List StreamWindows → List StreamWindows
without_stream stream rows = rows_without stream_of stream rows
