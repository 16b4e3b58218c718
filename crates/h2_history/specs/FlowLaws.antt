-- The windows are those that the calls of the entries make, so they are sums over a history.
use Rattle.std.proofs.Common.{◌≡◌, ℕ, ◌≤◌, Bool, true, false, cond, Option, Some, None, List, [], ◌∷◌, ◌++◌, length, Result, Ok, Err, refl, ap, sym, subst}
use Rattle.std.specs.Prelude.{nat_lt, ◌==◌}
use Rattle.h2_flow.specs.declared.limits.TheConstants.{OPEN_STREAMS}
use Rattle.h2_flow.specs.History.{Call, IsRun}
use Rattle.h2_flow.specs.History.Call.{CloseStream, Resolve, Sent, Initial}
use Rattle.h2_flow.specs.Windows.{Windows, may_send, answer_at_update, answer_at_setting, increment_due, after_closing, after_sending, after_resolving}
use Rattle.hpack.specs.declared.stop.BlockRule.{BlockRule}
use Rattle.hpack.specs.Encoding.{Writing, with_peer_limit}
use Rattle.hpack.specs.Representations.{Listing}
use Rattle.h2_frames.specs.Reading.{Next, next_of}
use Rattle.h2_frames.specs.Reading.Next.{NextUnfinished, NextFrame, NextFault}
use Rattle.h2_history.specs.Blocks.{Completed, completed_by, completed, seen_by_list, begun_by_row, fragment_read, continuation_read, decoded_at, block_begun, block_grown, is_too_long, has_all_frames, too_much, list_verdict, row_wanted}
use Rattle.h2_history.specs.declared.header_block.HeaderBlock.{HeaderBlock}
use Rattle.h2_history.specs.declared.verdict.Verdict.{Verdict}
use Rattle.h2_history.specs.declared.verdict.Verdict.TheVariants.{ConnectionError, StreamError, Ignored, Accepted}
use Rattle.h2_history.specs.FlowCalls.{calls_ended_here, calls_ended_by_peer, calls_of_frame, calls_opening, calls_of_put, call_received, calls_of_data, calls_of_row, calls_of_list, calls_of_listing, calls_of_fragment, calls_of_headers, calls_of_continuation, calls_of_reset, calls_of_update, calls_of_setting, calls_of_settings, calls_of_read, flow_calls, IsWithin, AreWithin}
use Rattle.h2_history.specs.Frames.{counted, data_seen, opened_if_room, headers_opens, headers_seen, headers_read, continued_seen, reset_seen, update_seen, goaway_seen, frame_seen}
use Rattle.h2_history.specs.History.{Entry, passed, passed_next, after, after_all}
use Rattle.h2_history.specs.History.Entry.{Fed, In, Out, Took}
use Rattle.h2_history.specs.Puts.{Put, octets_put, writing_behind, shut, opened, row_ended_here, ended_here, row_ended_by_peer, ended_by_peer, ended_here_if, effect_of_frame, out}
use Rattle.h2_history.specs.Puts.Put.{Plain, Headers}
use Rattle.h2_history.specs.Settings.{Settled, settled, with_setting, breaks_windows}
use Rattle.h2_history.specs.Standing.{Standing}
use Rattle.h2_history.specs.Verdicts.{counted_on, data_verdict, headers_verdict, reset_verdict, update_verdict}
use Rattle.h2_layouts.specs.declared.code.TheConstants.{FLOW_CONTROL_ERROR}
use Rattle.h2_layouts.specs.declared.frame.Frame.{Frame}
use Rattle.h2_layouts.specs.declared.frame.Frame.TheVariants.{Content, Head, Priority, Reset, Settings, SettingsAck, Ping, GoAway, Update, Continued, Unknown}
use Rattle.h2_layouts.specs.declared.role.Role.{Role}
use Rattle.h2_layouts.specs.declared.role.Role.TheVariants.{Server, Client}
use Rattle.h2_layouts.specs.declared.setting.Setting.{Setting}
use Rattle.h2_layouts.specs.declared.setting.TheConstants.{HEADER_TABLE_SIZE, INITIAL_WINDOW_SIZE, MAX_CONCURRENT_STREAMS}
use Rattle.stream_table.specs.declared.open_stream.OpenStream.{OpenStream}
use Rattle.stream_table.specs.Rows.{row_of, with_row, after_opening}

run_joined : (calls others : List Call) (old between new : Windows) → IsRun old calls between → IsRun between others new → IsRun old (calls ++ others) new
run_joined [] others old between new same run = subst (λ (w : Windows). IsRun w others new) (sym same) run
run_joined (call ∷ calls) others old between new first run = (first.0, (first.1.0, run_joined calls others first.0 between new first.1.1 run))

-- the calls lead from how the one stood to how the other does
abbrev Leads : Standing → List Call → Standing → Type 0
Leads old calls new = IsRun old.flow calls new.flow

either : (b : Bool) (s t u : Standing) (calls others : List Call) → Leads s calls t → Leads s others u → Leads s (cond b calls others) (cond b t u)
either true s t u calls others hits misses = hits
either false s t u calls others hits misses = misses

-- ---- what is put

row_here : (stream : ℕ) (row : Option OpenStream) (s : Standing) → Leads s (calls_ended_here stream row) (row_ended_here stream row s)
row_here stream None s = refl
row_here stream (Some row) s = either row.peer_ended s (shut stream s) (record s { streams = with_row (record row { here_ended = true }) s.streams }) (CloseStream stream ∷ []) [] (after_closing stream s.flow, (refl, refl)) refl

row_peer : (stream : ℕ) (row : Option OpenStream) (s : Standing) → Leads s (calls_ended_by_peer stream row) (row_ended_by_peer stream row s)
row_peer stream None s = refl
row_peer stream (Some row) s = either row.here_ended s (shut stream s) (record s { streams = with_row (record row { peer_ended = true }) s.streams }) (CloseStream stream ∷ []) [] (after_closing stream s.flow, (refl, refl)) refl

here_if : (end : Bool) (stream : ℕ) (s : Standing) → Leads s (cond end (calls_ended_here stream (row_of stream s.streams)) []) (ended_here_if end stream s)
here_if end stream s = either end s (ended_here stream s) s (calls_ended_here stream (row_of stream s.streams)) [] (row_here stream (row_of stream s.streams) s) refl

frame_leads : (frame : Frame) (s : Standing) → IsWithin (Plain frame) s → Leads s (calls_of_frame frame s) (effect_of_frame frame s)
frame_leads (Content stream end octets flow) s within =
    let sent : Standing = record s { flow = after_sending stream (length octets) s.flow } in
    (sent.flow, ((within, refl), here_if end stream sent))
frame_leads (Head stream end last octets) s within = refl
frame_leads (Priority stream) s within = refl
frame_leads (Reset stream code) s within = (after_closing stream s.flow, (refl, refl))
frame_leads (Settings pairs) s within = refl
frame_leads SettingsAck s within = refl
frame_leads (Ping ack octets) s within = refl
frame_leads (GoAway last code) s within = refl
frame_leads (Update stream increment) s within = either (stream == 0) s (record s { flow = after_resolving increment s.flow }) s (Resolve increment (increment_due increment s.flow) ∷ []) [] (after_resolving increment s.flow, ((refl, refl), refl)) refl
frame_leads (Continued stream last octets) s within = refl
frame_leads (Unknown number) s within = refl

opening_leads : (stream : ℕ) (s : Standing) → Leads s (calls_opening stream s) (opened stream s)
opening_leads stream s = ((opened stream s).flow, ((refl, refl), refl))

-- HEADERS, where the stream is above the greatest or not, whatever the output and the encoder are then
headers_out : (b : Bool) (stream : ℕ) (end : Bool) (s : Standing) (o : List ℕ) (w : Writing) → let written : Standing = record s { output = o; writing = w } in
    IsRun s.flow (cond b (calls_opening stream s) [] ++ cond end (calls_ended_here stream (row_of stream (cond b (after_opening stream s.streams) s.streams))) []) (ended_here_if end stream (cond b (opened stream written) written)).flow
headers_out true stream end s o w =
    let begun : Standing = opened stream (record s { output = o; writing = w }) in
    run_joined (calls_opening stream s) (cond end (calls_ended_here stream (row_of stream begun.streams)) []) s.flow begun.flow (ended_here_if end stream begun).flow (opening_leads stream s) (here_if end stream begun)
headers_out false stream end s o w = here_if end stream (record s { output = o; writing = w })

-- ---- what is read

received_leads : (stream flow : ℕ) (s : Standing) → Leads s (call_received stream flow s ∷ []) (counted stream flow s)
received_leads stream flow s = ((counted stream flow s).flow, (refl, refl))

data_leads : (verdict : Verdict) (stream : ℕ) (end : Bool) (flow : ℕ) (s : Standing) → Leads s (calls_of_data verdict stream end flow s) (data_seen verdict stream end flow s)
data_leads (ConnectionError code) stream end flow s = refl
data_leads (StreamError on code) stream end flow s = received_leads 0 flow s
data_leads Ignored stream end flow s = received_leads 0 flow s
data_leads Accepted stream end flow s =
    let rest : Standing = counted (counted_on s.role stream) flow s in
    (rest.flow, (refl, either end rest (ended_by_peer stream rest) rest (calls_ended_by_peer stream (row_of stream s.streams)) [] (row_peer stream (row_of stream rest.streams) rest) refl))

opens_leads : (stream : ℕ) (s : Standing) → Leads s (cond (nat_lt s.greatest stream) (cond (nat_lt (length s.streams) OPEN_STREAMS) (calls_opening stream s) []) []) (headers_opens stream s)
opens_leads stream s = either (nat_lt s.greatest stream) s (opened_if_room stream s) s (cond (nat_lt (length s.streams) OPEN_STREAMS) (calls_opening stream s) []) []
    (either (nat_lt (length s.streams) OPEN_STREAMS) s (opened stream s) (record s { greatest = stream }) (calls_opening stream s) [] (opening_leads stream s) refl) refl

row_leads : (block : HeaderBlock) (row : Option OpenStream) (s : Standing) → Leads s (calls_of_row block row s.streams) (begun_by_row block row s)
row_leads block None s = refl
row_leads block (Some row) s =
    let begun : Standing = record s { streams = with_row (record row { begun = true }) s.streams } in
    either block.end begun (ended_by_peer block.stream begun) begun (calls_ended_by_peer block.stream (row_of block.stream begun.streams)) [] (row_peer block.stream (row_of block.stream begun.streams) begun) refl

-- the table of the decoder has no windows
table_leads : (verdict : Verdict) (listing : Listing) (block : HeaderBlock) (s : Standing) → Leads s (calls_of_list verdict block s.streams) (seen_by_list verdict block (record s { tables = Ok listing.table }))
table_leads (ConnectionError code) listing block s = refl
table_leads (StreamError stream code) listing block s = refl
table_leads Ignored listing block s = refl
table_leads Accepted listing block s = row_leads block (row_of block.stream s.streams) (record s { tables = Ok listing.table })

listing_leads : (read : Result Listing BlockRule) (block : HeaderBlock) (s : Standing) → Leads s (calls_of_listing read block s) (completed_by read block s).left
listing_leads (Err rule) block s = refl
listing_leads (Ok listing) block s = table_leads (list_verdict s.role block listing.headers (row_wanted block s)) listing block s

left_either : (b : Bool) (s : Standing) (x y : Completed) (calls others : List Call) → Leads s calls x.left → Leads s others y.left → Leads s (cond b calls others) (cond b x y).left
left_either true s x y calls others hits misses = hits
left_either false s x y calls others hits misses = misses

fragment_leads : (last : Bool) (block : HeaderBlock) (s : Standing) → Leads s (calls_of_fragment last block s) (fragment_read last block s).left
fragment_leads last block s =
    let waits : Completed = record { verdict = Ignored; headers = []; left = record s { block = Some block } } in
    let whole : List Call = calls_of_listing (decoded_at s.tables block.octets) block s in
    left_either (is_too_long block) s (too_much s) (cond last (completed block s) waits) [] (cond last whole []) refl
    (left_either last s (completed block s) waits whole [] (listing_leads (decoded_at s.tables block.octets) block s) refl)

more_leads : (last : Bool) (octets : List ℕ) (block : HeaderBlock) (s : Standing) → Leads s (cond (has_all_frames block) [] (calls_of_fragment last (block_grown octets block) s)) (continuation_read last octets block s).left
more_leads last octets block s = left_either (has_all_frames block) s (too_much s) (fragment_read last (block_grown octets block) s) [] (calls_of_fragment last (block_grown octets block) s) refl (fragment_leads last (block_grown octets block) s)

read_leads : (verdict : Verdict) (stream : ℕ) (end last : Bool) (octets : List ℕ) (s : Standing)
    → Leads s (cond (nat_lt s.greatest stream) (cond (nat_lt (length s.streams) OPEN_STREAMS) (calls_opening stream s) []) [] ++ calls_of_fragment last (block_begun verdict stream end octets) (headers_opens stream s)) (headers_read verdict stream end last octets s).left
read_leads verdict stream end last octets s =
    let t : Standing = headers_opens stream s in
    run_joined (cond (nat_lt s.greatest stream) (cond (nat_lt (length s.streams) OPEN_STREAMS) (calls_opening stream s) []) []) (calls_of_fragment last (block_begun verdict stream end octets) t) s.flow t.flow (headers_read verdict stream end last octets s).left.flow
    (opens_leads stream s) (fragment_leads last (block_begun verdict stream end octets) t)

headers_lead : (verdict : Verdict) (stream : ℕ) (end last : Bool) (octets : List ℕ) (s : Standing) → Leads s (calls_of_headers verdict stream end last octets s) (headers_seen verdict stream end last octets s)
headers_lead (ConnectionError code) stream end last octets s = refl
headers_lead (StreamError on code) stream end last octets s = read_leads (StreamError on code) stream end last octets s
headers_lead Ignored stream end last octets s = read_leads Ignored stream end last octets s
headers_lead Accepted stream end last octets s = read_leads Accepted stream end last octets s

continued_leads : (block : Option HeaderBlock) (last : Bool) (octets : List ℕ) (s : Standing) → Leads s (calls_of_continuation block last octets s) (continued_seen block last octets s)
continued_leads None last octets s = refl
continued_leads (Some block) last octets s = more_leads last octets block (record s { block = None })

reset_leads : (verdict : Verdict) (stream : ℕ) (s : Standing) → Leads s (calls_of_reset verdict stream) (reset_seen verdict stream s)
reset_leads (ConnectionError code) stream s = refl
reset_leads (StreamError on code) stream s = refl
reset_leads Ignored stream s = refl
reset_leads Accepted stream s = (after_closing stream s.flow, (refl, refl))

update_leads : (verdict : Verdict) (stream increment : ℕ) (s : Standing) → Leads s (calls_of_update verdict stream increment s) (update_seen verdict stream increment s)
update_leads (ConnectionError code) stream increment s = refl
update_leads (StreamError on code) stream increment s = refl
update_leads Ignored stream increment s = refl
update_leads Accepted stream increment s = ((answer_at_update stream increment s.flow).windows, (refl, refl))

most_leads : (b : Bool) (setting : Setting) (s : Standing) → Leads s [] (cond b (record s { most = setting.value }) s)
most_leads true setting s = refl
most_leads false setting s = refl

setting_leads : (setting : Setting) (s : Standing) → Leads s (calls_of_setting setting s) (with_setting setting s)
setting_leads setting s =
    let windows : Standing = record s { flow = (answer_at_setting setting.value s.flow).windows } in
    let rest : Standing = cond (setting.id == MAX_CONCURRENT_STREAMS) (record s { most = setting.value }) s in
    let call : Call = Initial setting.value (answer_at_setting setting.value s.flow).fault in
    either (setting.id == HEADER_TABLE_SIZE) s (record s { writing = with_peer_limit setting.value s.writing }) (cond (setting.id == INITIAL_WINDOW_SIZE) windows rest) [] (cond (setting.id == INITIAL_WINDOW_SIZE) (call ∷ []) []) refl
    (either (setting.id == INITIAL_WINDOW_SIZE) s windows rest (call ∷ []) [] (windows.flow, (refl, refl)) (most_leads (setting.id == MAX_CONCURRENT_STREAMS) setting s))

settled_either : (b : Bool) (s : Standing) (x y : Settled) (calls others : List Call) → Leads s calls x.left → Leads s others y.left → Leads s (cond b calls others) (cond b x y).left
settled_either true s x y calls others hits misses = hits
settled_either false s x y calls others hits misses = misses

settings_lead : (settings : List Setting) (s : Standing) → Leads s (calls_of_settings settings s) (settled settings s).left
settings_lead [] s = refl
settings_lead (setting ∷ settings) s =
    settled_either (breaks_windows setting s) s (record { verdict = ConnectionError FLOW_CONTROL_ERROR; left = s }) (settled settings (with_setting setting s)) [] (calls_of_setting setting s ++ calls_of_settings settings (with_setting setting s)) refl
    (run_joined (calls_of_setting setting s) (calls_of_settings settings (with_setting setting s)) s.flow (with_setting setting s).flow (settled settings (with_setting setting s)).left.flow (setting_leads setting s) (settings_lead settings (with_setting setting s)))

goaway_leads : (role : Role) (s : Standing) → Leads s [] (goaway_seen role s)
goaway_leads Server s = refl
goaway_leads Client s = refl

seen_leads : (frame : Frame) (s : Standing) → Leads s (calls_of_read frame s) (frame_seen frame s)
seen_leads (Content stream end octets flow) s = data_leads (data_verdict stream flow s) stream end flow s
seen_leads (Head stream end last octets) s = headers_lead (headers_verdict stream s) stream end last octets s
seen_leads (Priority stream) s = refl
seen_leads (Reset stream code) s = reset_leads (reset_verdict stream s) stream s
seen_leads (Settings settings) s = settings_lead settings s
seen_leads SettingsAck s = refl
seen_leads (Ping ack octets) s = refl
seen_leads (GoAway last code) s = goaway_leads s.role s
seen_leads (Update stream increment) s = update_leads (update_verdict stream increment s) stream increment s
seen_leads (Continued stream last octets) s = continued_leads s.block last octets s
seen_leads (Unknown number) s = refl

-- ---- entries

passed_flow : (next : Next) (s : Standing) → (passed_next next s).flow ≡ s.flow
passed_flow NextUnfinished s = refl
passed_flow (NextFault code) s = refl
passed_flow (NextFrame frame reading) s = refl

in_leads : (frame : Frame) (s : Standing) → Leads s (calls_of_read frame (passed s)) (frame_seen frame (passed s))
in_leads frame s = subst (λ (w : Windows). IsRun w (calls_of_read frame (passed s)) (frame_seen frame (passed s)).flow) (passed_flow (next_of s.reading) s) (seen_leads frame (passed s))

same_within : (frame : Frame) (s t : Standing) → s.flow ≡ t.flow → IsWithin (Plain frame) s → IsWithin (Plain frame) t
same_within (Content stream end octets flow) s t e within = subst (λ (w : Windows). length octets ≤ may_send stream w) e within
same_within (Head stream end last octets) s t e within = tt
same_within (Priority stream) s t e within = tt
same_within (Reset stream code) s t e within = tt
same_within (Settings pairs) s t e within = tt
same_within SettingsAck s t e within = tt
same_within (Ping ack octets) s t e within = tt
same_within (GoAway last code) s t e within = tt
same_within (Update stream increment) s t e within = tt
same_within (Continued stream last octets) s t e within = tt
same_within (Unknown number) s t e within = tt

calls_same : (frame : Frame) (s t : Standing) → s.flow ≡ t.flow → s.streams ≡ t.streams → calls_of_frame frame s ≡ calls_of_frame frame t
calls_same (Content stream end octets flow) s t e k = ap (λ (rows : List OpenStream). Sent stream (length octets) ∷ cond end (calls_ended_here stream (row_of stream rows)) []) k
calls_same (Head stream end last octets) s t e k = refl
calls_same (Priority stream) s t e k = refl
calls_same (Reset stream code) s t e k = refl
calls_same (Settings pairs) s t e k = refl
calls_same SettingsAck s t e k = refl
calls_same (Ping ack octets) s t e k = refl
calls_same (GoAway last code) s t e k = refl
calls_same (Update stream increment) s t e k = ap (λ (w : Windows). cond (stream == 0) (Resolve increment (increment_due increment w) ∷ []) []) e
calls_same (Continued stream last octets) s t e k = refl
calls_same (Unknown number) s t e k = refl

frame_out : (frame : Frame) (s : Standing) → IsWithin (Plain frame) s → Leads s (calls_of_frame frame s) (out (Plain frame) s)
frame_out frame s within =
    let written : Standing = record s { output = s.output ++ octets_put s.writing (Plain frame); writing = writing_behind s.writing (Plain frame) } in
    subst (λ (calls : List Call). IsRun s.flow calls (out (Plain frame) s).flow) (calls_same frame written s refl refl) (frame_leads frame written (same_within frame s written refl within))

-- what a frame does that is put does not depend on the output and the encoder
out_leads : (put : Put) (s : Standing) → IsWithin put s → Leads s (calls_of_put put s) (out put s)
out_leads (Plain frame) s within = frame_out frame s within
out_leads (Headers stream end headers) s within = headers_out (nat_lt s.greatest stream) stream end s (s.output ++ octets_put s.writing (Headers stream end headers)) (writing_behind s.writing (Headers stream end headers))

pub flow_leads : (entries : List Entry) (s : Standing) → AreWithin entries s → Leads s (flow_calls entries s) (after_all entries s)
flow_leads [] s within = refl
flow_leads (Fed octets ∷ entries) s within = flow_leads entries (after (Fed octets) s) within
flow_leads (Took octets ∷ entries) s within = flow_leads entries (after (Took octets) s) within
flow_leads (In frame ∷ entries) s within =
    run_joined (calls_of_read frame (passed s)) (flow_calls entries (after (In frame) s)) s.flow (after (In frame) s).flow (after_all entries (after (In frame) s)).flow (in_leads frame s) (flow_leads entries (after (In frame) s) within)
flow_leads (Out put ∷ entries) s within =
    run_joined (calls_of_put put s) (flow_calls entries (out put s)) s.flow (out put s).flow (after_all entries (out put s)).flow (out_leads put s within.0) (flow_leads entries (out put s) within.1)
