-- The open streams, a row for each, and one stream's row among them.
use Rattle.std.specs.Prelude.{ℕ, Bool, false, is_some, nat_lt, Option, List, [], ◌∷◌, ◌++◌, length, if◌then◌else◌}
use Rattle.h2_flow.specs.declared.limits.TheConstants.{OPEN_STREAMS}
use Rattle.h2_flow.specs.KeyedRows.{row_at, rows_with, rows_without}
use Rattle.stream_table.specs.declared.open_stream.OpenStream.{OpenStream}

-- the row of a stream that was just opened
abbrev pub new_row : ℕ → OpenStream
new_row stream = record { stream = stream; peer_ended = false; here_ended = false; begun = false }

-- the stream that the row is of
abbrev pub stream_of : OpenStream → ℕ
stream_of row = row.stream

-- the row of a stream, None where it is not open
abbrev pub row_of : ℕ → List OpenStream → Option OpenStream
row_of stream rows = row_at stream_of stream rows

abbrev pub is_open : ℕ → List OpenStream → Bool
is_open stream rows = is_some (row_of stream rows)

-- the rows, with this one for the stream that it names
abbrev pub with_row : OpenStream → List OpenStream → List OpenStream
with_row new rows = rows_with stream_of new rows

-- the rows without this stream's
abbrev pub without_stream : ℕ → List OpenStream → List OpenStream
without_stream stream rows = rows_without stream_of stream rows

-- the rows with one more, where there is room
abbrev pub after_opening : ℕ → List OpenStream → List OpenStream
after_opening stream rows = if nat_lt (length rows) OPEN_STREAMS then rows ++ new_row stream ∷ [] else rows
