-- What is put: frames, of which HEADERS stand with their header list, and what each does.
use Rattle.std.specs.Prelude.{ℕ, ◌+◌, ◌==◌, nat_le, nat_lt, Bool, true, false, Option, Some, None, List, [], ◌∷◌, ◌++◌, length, if◌then◌else◌}
use Rattle.hpack.specs.declared.header.Header.{Header}
use Rattle.hpack.specs.Encoding.{Writing, new_writing, encoded_block, writing_after}
use Rattle.h2_flow.specs.Windows.{after_opening as with_new_windows, after_closing, after_resolving, after_sending}
use Rattle.h2_layouts.specs.declared.code.TheConstants.{ENHANCE_YOUR_CALM}
use Rattle.h2_layouts.specs.declared.frame.Frame.{Frame}
use Rattle.h2_layouts.specs.declared.frame.Frame.TheVariants.{Content, Head, Reset, Update, GoAway}
use Rattle.h2_layouts.specs.Written.{octets_of, payload_of}
use Rattle.h2_output.specs.declared.limits.TheConstants.{MOST_UNSENT}
use Rattle.h2_history.specs.declared.limits.TheConstants.{GOAWAY_OCTETS}
use Rattle.h2_history.specs.Standing.{Standing, last_stream}
use Rattle.stream_table.specs.declared.open_stream.OpenStream.{OpenStream}
use Rattle.stream_table.specs.Rows.{row_of, with_row, without_stream, after_opening}

-- a frame that is put
pub data Put : Type 0 where
  -- any but HEADERS
  Plain : (frame : Frame) → Put
  -- HEADERS, with its whole block
  Headers : (stream : ℕ) (end : Bool) (headers : List Header) → Put

-- ---- its octets

abbrev pub frame_put : Writing → Put → Frame
frame_put writing (Plain frame) = frame
frame_put writing (Headers stream end headers) = Head stream end true (encoded_block writing headers)

abbrev pub octets_put : Writing → Put → List ℕ
octets_put writing put = octets_of (frame_put writing put)

abbrev pub is_goaway : Frame → Bool
is_goaway (GoAway last code) = true
is_goaway frame = false

-- what the encoder keeps after it
abbrev pub writing_behind : Writing → Put → Writing
writing_behind writing (Headers stream end headers) = writing_after writing headers
writing_behind writing (Plain frame) = if is_goaway frame then new_writing else writing

-- ---- streams

-- nothing more is said on the stream
abbrev pub shut : ℕ → Standing → Standing
shut stream s = record s { streams = without_stream stream s.streams; flow = after_closing stream s.flow }

-- the stream is opened, where there is room for one more
abbrev pub opened : ℕ → Standing → Standing
opened stream s = record s { greatest = stream; streams = after_opening stream s.streams; flow = with_new_windows stream s.flow }

-- a stream that both ends have ended is shut
abbrev pub row_ended_here : ℕ → Option OpenStream → Standing → Standing
row_ended_here stream None s = s
row_ended_here stream (Some row) s = if row.peer_ended then shut stream s else record s { streams = with_row (record row { here_ended = true }) s.streams }

abbrev pub ended_here : ℕ → Standing → Standing
ended_here stream s = row_ended_here stream (row_of stream s.streams) s

abbrev pub row_ended_by_peer : ℕ → Option OpenStream → Standing → Standing
row_ended_by_peer stream None s = s
row_ended_by_peer stream (Some row) s = if row.here_ended then shut stream s else record s { streams = with_row (record row { peer_ended = true }) s.streams }

abbrev pub ended_by_peer : ℕ → Standing → Standing
ended_by_peer stream s = row_ended_by_peer stream (row_of stream s.streams) s

-- ---- what a frame does that is put

-- the end of a stream by this end, where the frame says it
abbrev pub ended_here_if : Bool → ℕ → Standing → Standing
ended_here_if end stream s = if end then ended_here stream s else s

abbrev pub effect_of_frame : Frame → Standing → Standing
effect_of_frame (Content stream end octets flow) s = ended_here_if end stream (record s { flow = after_sending stream (length octets) s.flow })
effect_of_frame (Reset stream code) s = shut stream s
effect_of_frame (Update stream increment) s = if stream == 0 then record s { flow = after_resolving increment s.flow } else s
effect_of_frame (GoAway last code) s = record s { broken = Some code; streams = [] }
effect_of_frame frame s = s

-- HEADERS on a stream above the greatest open it: a client's do
abbrev pub effect : Put → Standing → Standing
effect (Plain frame) s = effect_of_frame frame s
effect (Headers stream end headers) s = ended_here_if end stream (if nat_lt s.greatest stream then opened stream s else s)

-- the frame is put
abbrev pub out : Put → Standing → Standing
out put s = effect put (record s { output = s.output ++ octets_put s.writing put; writing = writing_behind s.writing put })

-- ---- the limit of the output

-- the octets that stay free behind a frame: those of the last GOAWAY, and none behind it
abbrev pub kept_behind : Put → ℕ
kept_behind (Plain frame) = if is_goaway frame then 0 else GOAWAY_OCTETS
kept_behind (Headers stream end headers) = GOAWAY_OCTETS

-- those that are free in any case
abbrev pub kept : Option ℕ → ℕ
kept None = GOAWAY_OCTETS
kept (Some code) = 0

abbrev pub fits : Put → Standing → Bool
fits put s = nat_le (length s.output + (9 + length (payload_of (frame_put s.writing put))) + kept_behind put) MOST_UNSENT

-- the connection ends with an error
abbrev pub goaway : ℕ → Standing → Put
goaway code s = Plain (GoAway (last_stream s) code)

abbrev pub broke : ℕ → Standing → Standing
broke code s = out (goaway code s) s

-- a frame is put where it fits; where it does not, the peer lets too much wait, and the connection ends; nothing is put
-- on one that has ended
abbrev pub offered_by : Option ℕ → Put → Standing → Standing
offered_by (Some code) put s = s
offered_by None put s = if fits put s then out put s else broke ENHANCE_YOUR_CALM s

abbrev pub offered : Put → Standing → Standing
offered put s = offered_by s.broken put s

abbrev pub offer_all : List Put → Standing → Standing
offer_all [] s = s
offer_all (put ∷ puts) s = offer_all puts (offered put s)

-- what of them is put: nothing once the connection has ended, and the last GOAWAY where one does not fit
abbrev pub placed_by : Option ℕ → Put → Standing → List Put
placed_by (Some code) put s = []
placed_by None put s = if fits put s then put ∷ [] else goaway ENHANCE_YOUR_CALM s ∷ []

abbrev pub placed : Put → Standing → List Put
placed put s = placed_by s.broken put s

abbrev pub placed_all : List Put → Standing → List Put
placed_all [] s = []
placed_all (put ∷ puts) s = placed put s ++ placed_all puts (offered put s)
