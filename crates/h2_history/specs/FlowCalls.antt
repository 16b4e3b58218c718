-- What each entry of a history does to the windows: calls of the ledger, over which the windows are sums.
use Rattle.std.specs.Prelude.{ℕ, ◌==◌, ◌≤◌, nat_lt, Bool, true, Option, Some, None, List, [], ◌∷◌, ◌++◌, length, Result, Ok, Err, if◌then◌else◌}
use Rattle.h2_flow.specs.declared.limits.TheConstants.{OPEN_STREAMS}
use Rattle.h2_flow.specs.History.{Call}
use Rattle.h2_flow.specs.History.Call.{OpenStream as Opening, CloseStream, Received, Resolve, Sent, Update as Updated, Initial}
use Rattle.h2_flow.specs.Windows.{may_open, may_send, answer_at_receipt, answer_at_update, answer_at_setting, increment_due}
use Rattle.hpack.specs.declared.stop.BlockRule.{BlockRule}
use Rattle.hpack.specs.Representations.{Listing}
use Rattle.h2_history.specs.Blocks.{block_begun, block_grown, is_too_long, has_all_frames, decoded_at, list_verdict, row_wanted}
use Rattle.h2_history.specs.declared.header_block.HeaderBlock.{HeaderBlock}
use Rattle.h2_history.specs.declared.verdict.Verdict.{Verdict}
use Rattle.h2_history.specs.declared.verdict.Verdict.TheVariants.{ConnectionError, StreamError, Ignored, Accepted}
use Rattle.h2_history.specs.Frames.{headers_opens}
use Rattle.h2_history.specs.History.{Entry, passed, after}
use Rattle.h2_history.specs.History.Entry.{Fed, In, Out, Took}
use Rattle.h2_history.specs.Puts.{Put}
use Rattle.h2_history.specs.Puts.Put.{Plain, Headers}
use Rattle.h2_history.specs.Settings.{breaks_windows, with_setting}
use Rattle.h2_history.specs.Standing.{Standing}
use Rattle.h2_history.specs.Verdicts.{counted_on, data_verdict, headers_verdict, reset_verdict, update_verdict}
use Rattle.h2_layouts.specs.declared.frame.Frame.{Frame}
use Rattle.h2_layouts.specs.declared.frame.Frame.TheVariants.{Content, Head, Reset, Settings, Update, Continued}
use Rattle.h2_layouts.specs.declared.setting.Setting.{Setting}
use Rattle.h2_layouts.specs.declared.setting.TheConstants.{HEADER_TABLE_SIZE, INITIAL_WINDOW_SIZE}
use Rattle.stream_table.specs.declared.open_stream.OpenStream.{OpenStream}
use Rattle.stream_table.specs.Rows.{row_of, with_row, after_opening}

-- ---- what is put

-- a stream that both ends have ended is closed
abbrev pub calls_ended_here : ℕ → Option OpenStream → List Call
calls_ended_here stream None = []
calls_ended_here stream (Some row) = if row.peer_ended then CloseStream stream ∷ [] else []

abbrev pub calls_ended_by_peer : ℕ → Option OpenStream → List Call
calls_ended_by_peer stream None = []
calls_ended_by_peer stream (Some row) = if row.here_ended then CloseStream stream ∷ [] else []

abbrev pub calls_of_frame : Frame → Standing → List Call
calls_of_frame (Content stream end octets flow) s = Sent stream (length octets) ∷ (if end then calls_ended_here stream (row_of stream s.streams) else [])
calls_of_frame (Reset stream code) s = CloseStream stream ∷ []
calls_of_frame (Update stream increment) s = if stream == 0 then Resolve increment (increment_due increment s.flow) ∷ [] else []
calls_of_frame frame s = []

abbrev pub calls_opening : ℕ → Standing → List Call
calls_opening stream s = Opening stream (may_open stream s.flow) ∷ []

abbrev pub calls_of_put : Put → Standing → List Call
calls_of_put (Plain frame) s = calls_of_frame frame s
calls_of_put (Headers stream end headers) s =
    let rows : List OpenStream = if nat_lt s.greatest stream then after_opening stream s.streams else s.streams in
    (if nat_lt s.greatest stream then calls_opening stream s else []) ++ (if end then calls_ended_here stream (row_of stream rows) else [])

-- ---- what is read

abbrev pub call_received : ℕ → ℕ → Standing → Call
call_received stream flow s = Received stream flow (answer_at_receipt stream flow s.flow).fault

abbrev pub calls_of_data : Verdict → ℕ → Bool → ℕ → Standing → List Call
calls_of_data (ConnectionError code) stream end flow s = []
calls_of_data (StreamError on code) stream end flow s = call_received 0 flow s ∷ []
calls_of_data Ignored stream end flow s = call_received 0 flow s ∷ []
calls_of_data Accepted stream end flow s = call_received (counted_on s.role stream) flow s ∷ (if end then calls_ended_by_peer stream (row_of stream s.streams) else [])

abbrev pub calls_of_row : HeaderBlock → Option OpenStream → List OpenStream → List Call
calls_of_row block None rows = []
calls_of_row block (Some row) rows = if block.end then calls_ended_by_peer block.stream (row_of block.stream (with_row (record row { begun = true }) rows)) else []

abbrev pub calls_of_list : Verdict → HeaderBlock → List OpenStream → List Call
calls_of_list Accepted block rows = calls_of_row block (row_of block.stream rows) rows
calls_of_list verdict block rows = []

abbrev pub calls_of_listing : Result Listing BlockRule → HeaderBlock → Standing → List Call
calls_of_listing (Err rule) block s = []
calls_of_listing (Ok listing) block s = calls_of_list (list_verdict s.role block listing.headers (row_wanted block s)) block s.streams

abbrev pub calls_of_fragment : Bool → HeaderBlock → Standing → List Call
calls_of_fragment last block s = if is_too_long block then [] else (if last then calls_of_listing (decoded_at s.tables block.octets) block s else [])

abbrev pub calls_of_headers : Verdict → ℕ → Bool → Bool → List ℕ → Standing → List Call
calls_of_headers (ConnectionError code) stream end last octets s = []
calls_of_headers verdict stream end last octets s =
    (if nat_lt s.greatest stream then (if nat_lt (length s.streams) OPEN_STREAMS then calls_opening stream s else []) else [])
    ++ calls_of_fragment last (block_begun verdict stream end octets) (headers_opens stream s)

abbrev pub calls_of_continuation : Option HeaderBlock → Bool → List ℕ → Standing → List Call
calls_of_continuation None last octets s = []
calls_of_continuation (Some block) last octets s = if has_all_frames block then [] else calls_of_fragment last (block_grown octets block) (record s { block = None })

abbrev pub calls_of_reset : Verdict → ℕ → List Call
calls_of_reset Accepted stream = CloseStream stream ∷ []
calls_of_reset verdict stream = []

abbrev pub calls_of_update : Verdict → ℕ → ℕ → Standing → List Call
calls_of_update Accepted stream increment s = Updated stream increment (answer_at_update stream increment s.flow).fault ∷ []
calls_of_update verdict stream increment s = []

abbrev pub calls_of_setting : Setting → Standing → List Call
calls_of_setting setting s = if setting.id == HEADER_TABLE_SIZE then []
    else (if setting.id == INITIAL_WINDOW_SIZE then Initial setting.value (answer_at_setting setting.value s.flow).fault ∷ [] else [])

abbrev pub calls_of_settings : List Setting → Standing → List Call
calls_of_settings [] s = []
calls_of_settings (setting ∷ settings) s = if breaks_windows setting s then [] else calls_of_setting setting s ++ calls_of_settings settings (with_setting setting s)

abbrev pub calls_of_read : Frame → Standing → List Call
calls_of_read (Content stream end octets flow) s = calls_of_data (data_verdict stream flow s) stream end flow s
calls_of_read (Head stream end last octets) s = calls_of_headers (headers_verdict stream s) stream end last octets s
calls_of_read (Reset stream code) s = calls_of_reset (reset_verdict stream s) stream
calls_of_read (Settings settings) s = calls_of_settings settings s
calls_of_read (Update stream increment) s = calls_of_update (update_verdict stream increment s) stream increment s
calls_of_read (Continued stream last octets) s = calls_of_continuation s.block last octets s
calls_of_read frame s = []

-- ---- entries

abbrev pub calls_of_entry : Entry → Standing → List Call
calls_of_entry (Fed octets) s = []
calls_of_entry (In frame) s = calls_of_read frame (passed s)
calls_of_entry (Out put) s = calls_of_put put s
calls_of_entry (Took octets) s = []

abbrev pub flow_calls : List Entry → Standing → List Call
flow_calls [] s = []
flow_calls (entry ∷ entries) s = calls_of_entry entry s ++ flow_calls entries (after entry s)

-- DATA that is put is within the windows
abbrev pub IsWithin : Put → Standing → Type 0
IsWithin (Plain (Content stream end octets flow)) s = length octets ≤ may_send stream s.flow
IsWithin put s = Unit {0}

-- so is all DATA among these, where it stands
abbrev pub AreWithin : List Entry → Standing → Type 0
AreWithin [] s = Unit {0}
AreWithin (Out put ∷ entries) s = IsWithin put s × AreWithin entries (after (Out put) s)
AreWithin (Fed octets ∷ entries) s = AreWithin entries (after (Fed octets) s)
AreWithin (In frame ∷ entries) s = AreWithin entries (after (In frame) s)
AreWithin (Took octets ∷ entries) s = AreWithin entries (after (Took octets) s)
