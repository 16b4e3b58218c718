-- What each entry of a history says of streams, each where it stands: which it opens, which it ends, which it closes.
use Rattle.std.specs.Prelude.{◌≡◌, ℕ, ◌==◌, ◌&&◌, ◌||◌, not, nat_lt, Bool, false, Option, Some, None, List, [], ◌∷◌, ◌++◌, length, map, Result, Ok, Err, if◌then◌else◌}
use Rattle.std.specs.List.{list_any}
use Rattle.h2_flow.specs.declared.limits.TheConstants.{OPEN_STREAMS}
use Rattle.hpack.specs.declared.stop.BlockRule.{BlockRule}
use Rattle.hpack.specs.Representations.{Listing}
use Rattle.h2_history.specs.Blocks.{block_begun, block_grown, is_too_long, has_all_frames, decoded_at, list_verdict, row_wanted}
use Rattle.h2_history.specs.declared.header_block.HeaderBlock.{HeaderBlock}
use Rattle.h2_history.specs.declared.verdict.Verdict.{Verdict}
use Rattle.h2_history.specs.declared.verdict.Verdict.TheVariants.{ConnectionError, Accepted}
use Rattle.h2_history.specs.Frames.{headers_opens}
use Rattle.h2_history.specs.History.{Entry, passed, after}
use Rattle.h2_history.specs.History.Entry.{Fed, In, Out, Took}
use Rattle.h2_history.specs.Puts.{Put}
use Rattle.h2_history.specs.Puts.Put.{Plain, Headers}
use Rattle.h2_history.specs.Standing.{Standing}
use Rattle.h2_history.specs.Verdicts.{data_verdict, headers_verdict, reset_verdict}
use Rattle.h2_layouts.specs.declared.frame.Frame.{Frame}
use Rattle.h2_layouts.specs.declared.frame.Frame.TheVariants.{Content, Head, Reset, GoAway, Continued}
use Rattle.stream_table.specs.declared.open_stream.OpenStream.{OpenStream}
use Rattle.stream_table.specs.Rows.{row_of, is_open, after_opening}

-- HEADERS opened the stream; the peer ended it, or this end did; RST_STREAM or GOAWAY closed it
pub data Mark : Type 0 where
  Opens : (stream : ℕ) → Mark
  EndsThere : (stream : ℕ) → Mark
  EndsHere : (stream : ℕ) → Mark
  Closes : (stream : ℕ) → Mark

-- ---- the questions

abbrev pub is_opening : ℕ → Mark → Bool
is_opening stream (Opens other) = other == stream
is_opening stream mark = false

abbrev pub is_end_there : ℕ → Mark → Bool
is_end_there stream (EndsThere other) = other == stream
is_end_there stream mark = false

abbrev pub is_end_here : ℕ → Mark → Bool
is_end_here stream (EndsHere other) = other == stream
is_end_here stream mark = false

abbrev pub is_closing : ℕ → Mark → Bool
is_closing stream (Closes other) = other == stream
is_closing stream mark = false

abbrev pub was_opened : ℕ → List Mark → Bool
was_opened stream marks = list_any (is_opening stream) marks

abbrev pub was_ended_there : ℕ → List Mark → Bool
was_ended_there stream marks = list_any (is_end_there stream) marks

abbrev pub was_ended_here : ℕ → List Mark → Bool
was_ended_here stream marks = list_any (is_end_here stream) marks

abbrev pub was_closed : ℕ → List Mark → Bool
was_closed stream marks = list_any (is_closing stream) marks

-- opened, and neither closed nor ended by both ends
abbrev pub open_by : Bool → Bool → Bool → Bool → Bool
open_by opened there here closed = opened && not (closed || (there && here))

abbrev pub is_open_by : ℕ → List Mark → Bool
is_open_by stream marks = open_by (was_opened stream marks) (was_ended_there stream marks) (was_ended_here stream marks) (was_closed stream marks)

-- ---- what is put: a stream that is not open can be neither ended nor closed

abbrev pub if_open : Option OpenStream → Mark → List Mark
if_open None mark = []
if_open (Some row) mark = mark ∷ []

-- where 64 streams are open one more is refused: it is opened and closed
abbrev pub marks_opening : ℕ → List OpenStream → List Mark
marks_opening stream rows = if nat_lt (length rows) OPEN_STREAMS then Opens stream ∷ [] else Opens stream ∷ Closes stream ∷ []

abbrev pub marks_ended_here : ℕ → List OpenStream → List Mark
marks_ended_here stream rows = if_open (row_of stream rows) (EndsHere stream)

abbrev pub marks_ended_there : ℕ → List OpenStream → List Mark
marks_ended_there stream rows = if_open (row_of stream rows) (EndsThere stream)

abbrev pub marks_closed : ℕ → List OpenStream → List Mark
marks_closed stream rows = if_open (row_of stream rows) (Closes stream)

-- no stream is open after GOAWAY of this end
abbrev pub closes_row : OpenStream → Mark
closes_row row = Closes row.stream

abbrev pub marks_of_frame : Frame → List OpenStream → List Mark
marks_of_frame (Content stream end octets flow) rows = if end then marks_ended_here stream rows else []
marks_of_frame (Reset stream code) rows = marks_closed stream rows
marks_of_frame (GoAway last code) rows = map closes_row rows
marks_of_frame frame rows = []

abbrev pub marks_of_put : Put → Standing → List Mark
marks_of_put (Plain frame) s = marks_of_frame frame s.streams
marks_of_put (Headers stream end headers) s =
    let rows : List OpenStream = if nat_lt s.greatest stream then after_opening stream s.streams else s.streams in
    (if nat_lt s.greatest stream then marks_opening stream s.streams else []) ++ (if end then marks_ended_here stream rows else [])

-- ---- what is read

abbrev pub marks_of_data : Verdict → ℕ → Bool → Standing → List Mark
marks_of_data Accepted stream end s = if end then marks_ended_there stream s.streams else []
marks_of_data verdict stream end s = []

-- a header list that is accepted ends its stream where its HEADERS had END_STREAM
abbrev pub marks_of_row : HeaderBlock → Option OpenStream → List Mark
marks_of_row block None = []
marks_of_row block (Some row) = if block.end then EndsThere block.stream ∷ [] else []

abbrev pub marks_of_list : Verdict → HeaderBlock → List OpenStream → List Mark
marks_of_list Accepted block rows = marks_of_row block (row_of block.stream rows)
marks_of_list verdict block rows = []

abbrev pub marks_of_listing : Result Listing BlockRule → HeaderBlock → Standing → List Mark
marks_of_listing (Err rule) block s = []
marks_of_listing (Ok listing) block s = marks_of_list (list_verdict s.role block listing.headers (row_wanted block s)) block s.streams

abbrev pub marks_of_fragment : Bool → HeaderBlock → Standing → List Mark
marks_of_fragment last block s = if is_too_long block then [] else (if last then marks_of_listing (decoded_at s.tables block.octets) block s else [])

abbrev pub marks_of_headers : Verdict → ℕ → Bool → Bool → List ℕ → Standing → List Mark
marks_of_headers (ConnectionError code) stream end last octets s = []
marks_of_headers verdict stream end last octets s =
    (if nat_lt s.greatest stream then marks_opening stream s.streams else []) ++ marks_of_fragment last (block_begun verdict stream end octets) (headers_opens stream s)

abbrev pub marks_of_continuation : Option HeaderBlock → Bool → List ℕ → Standing → List Mark
marks_of_continuation None last octets s = []
marks_of_continuation (Some block) last octets s = if has_all_frames block then [] else marks_of_fragment last (block_grown octets block) (record s { block = None })

abbrev pub marks_of_reset : Verdict → ℕ → Standing → List Mark
marks_of_reset Accepted stream s = marks_closed stream s.streams
marks_of_reset verdict stream s = []

abbrev pub marks_of_read : Frame → Standing → List Mark
marks_of_read (Content stream end octets flow) s = marks_of_data (data_verdict stream flow s) stream end s
marks_of_read (Head stream end last octets) s = marks_of_headers (headers_verdict stream s) stream end last octets s
marks_of_read (Reset stream code) s = marks_of_reset (reset_verdict stream s) stream s
marks_of_read (Continued stream last octets) s = marks_of_continuation s.block last octets s
marks_of_read frame s = []

-- ---- entries

abbrev pub marks_of_entry : Entry → Standing → List Mark
marks_of_entry (Fed octets) s = []
marks_of_entry (In frame) s = marks_of_read frame (passed s)
marks_of_entry (Out put) s = marks_of_put put s
marks_of_entry (Took octets) s = []

abbrev pub all_marks : List Entry → Standing → List Mark
all_marks [] s = []
all_marks (entry ∷ entries) s = marks_of_entry entry s ++ all_marks entries (after entry s)

-- ---- what the law says of a stream after the marks

pub record IsAsMarked (stream : ℕ) (marks : List Mark) (rows : List OpenStream) : Type 0 where
  pub opened : is_open stream rows ≡ is_open_by stream marks
  pub there : (row : OpenStream) → row_of stream rows ≡ Some row → row.peer_ended ≡ was_ended_there stream marks
  pub here : (row : OpenStream) → row_of stream rows ≡ Some row → row.here_ended ≡ was_ended_here stream marks
