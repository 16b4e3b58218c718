-- A connection has ended with an error exactly by its GOAWAY, whose code is the one that is reported.
use Rattle.std.proofs.Common.{◌≡◌, ℕ, Bool, true, false, cond, Option, Some, None, List, [], ◌∷◌, ◌++◌, length, Result, Ok, Err, refl, ap, sym, ◌∙◌, subst}
use Rattle.std.specs.Prelude.{nat_lt, ◌==◌}
use Rattle.hpack.specs.declared.stop.BlockRule.{BlockRule}
use Rattle.hpack.specs.Encoding.{with_peer_limit}
use Rattle.hpack.specs.Representations.{Listing}
use Rattle.h2_flow.specs.declared.limits.TheConstants.{OPEN_STREAMS}
use Rattle.h2_flow.specs.Windows.{answer_at_setting, after_sending, after_resolving}
use Rattle.h2_frames.specs.Reading.{Next, next_of}
use Rattle.h2_frames.specs.Reading.Next.{NextUnfinished, NextFrame, NextFault}
use Rattle.h2_history.specs.Blocks.{Completed, completed_by, completed, seen_by_list, begun_by_row, fragment_read, decoded_at, block_begun, block_grown, is_too_long, has_all_frames, too_much, list_verdict, row_wanted}
use Rattle.h2_history.specs.declared.event.CallEvent.{CallEvent}
use Rattle.h2_history.specs.declared.event.CallEvent.TheVariants as events
use Rattle.h2_history.specs.declared.header_block.HeaderBlock.{HeaderBlock}
use Rattle.h2_history.specs.declared.verdict.Verdict.{Verdict}
use Rattle.h2_history.specs.declared.verdict.Verdict.TheVariants.{ConnectionError, StreamError, Ignored, Accepted}
use Rattle.h2_history.specs.Frames.{counted, data_seen, opened_if_room, headers_opens, headers_seen, headers_read, headers_reported, continued_read, continued_seen, continued_reported, reset_seen, update_seen, goaway_seen, frame_seen, frame_read, frame_reported}
use Rattle.h2_history.specs.History.{Entry, passed_next, passed, after, after_all, new_standing, StandsFor, Turn, turn_reported, turn_next, turn_by, IsReported}
use Rattle.h2_history.specs.History.Entry.{Fed, In, Out, Took}
use Rattle.h2_history.specs.History.Turn.{Rests, Goes, Reports}
use Rattle.h2_history.specs.Puts.{Put, octets_put, writing_behind, shut, opened, row_ended_here, ended_here, row_ended_by_peer, ended_by_peer, ended_here_if, effect_of_frame, effect, out}
use Rattle.h2_history.specs.Puts.Put.{Plain, Headers}
use Rattle.h2_history.specs.RunLaws.{step_history}
use Rattle.h2_history.specs.Runs.{Step}
use Rattle.h2_history.specs.Runs.Call.{Report}
use Rattle.h2_history.specs.Settings.{Settled, settled, with_setting, breaks_windows}
use Rattle.h2_history.specs.Standing.{Standing}
use Rattle.h2_history.specs.Verdicts.{counted_on, data_verdict, headers_verdict, reset_verdict, update_verdict, reported}
use Rattle.h2_layouts.specs.declared.code.TheConstants.{FLOW_CONTROL_ERROR}
use Rattle.h2_layouts.specs.declared.frame.Frame.{Frame}
use Rattle.h2_layouts.specs.declared.frame.Frame.TheVariants.{Content, Head, Priority, Reset, Settings, SettingsAck, Ping, GoAway, Update, Continued, Unknown}
use Rattle.h2_layouts.specs.declared.role.Role.{Role}
use Rattle.h2_layouts.specs.declared.role.Role.TheVariants.{Server, Client}
use Rattle.h2_layouts.specs.declared.setting.Setting.{Setting}
use Rattle.h2_layouts.specs.declared.setting.TheConstants.{HEADER_TABLE_SIZE, INITIAL_WINDOW_SIZE, MAX_CONCURRENT_STREAMS}
use Rattle.stream_laws.specs.Ended.{code_put, code_after, code_after_all, last_goaway}
use Rattle.stream_table.specs.declared.open_stream.OpenStream.{OpenStream}
use Rattle.stream_table.specs.Rows.{row_of, with_row}

either : (b : Bool) (o : Option ℕ) (t u : Standing) → t.broken ≡ o → u.broken ≡ o → (cond b t u).broken ≡ o
either true o t u hits misses = hits
either false o t u hits misses = misses

row_here : (stream : ℕ) (row : Option OpenStream) (s : Standing) → (row_ended_here stream row s).broken ≡ s.broken
row_here stream None s = refl
row_here stream (Some row) s = either row.peer_ended s.broken (shut stream s) (record s { streams = with_row (record row { here_ended = true }) s.streams }) refl refl

row_peer : (stream : ℕ) (row : Option OpenStream) (s : Standing) → (row_ended_by_peer stream row s).broken ≡ s.broken
row_peer stream None s = refl
row_peer stream (Some row) s = either row.here_ended s.broken (shut stream s) (record s { streams = with_row (record row { peer_ended = true }) s.streams }) refl refl

here_if : (end : Bool) (stream : ℕ) (s : Standing) → (ended_here_if end stream s).broken ≡ s.broken
here_if end stream s = either end s.broken (ended_here stream s) s (row_here stream (row_of stream s.streams) s) refl

peer_if : (end : Bool) (stream : ℕ) (s : Standing) → (cond end (ended_by_peer stream s) s).broken ≡ s.broken
peer_if end stream s = either end s.broken (ended_by_peer stream s) s (row_peer stream (row_of stream s.streams) s) refl

-- ---- what is put

frame_code : (frame : Frame) (s : Standing) → (effect_of_frame frame s).broken ≡ code_put (Plain frame) s.broken
frame_code (Content stream end octets flow) s = here_if end stream (record s { flow = after_sending stream (length octets) s.flow })
frame_code (Head stream end last octets) s = refl
frame_code (Priority stream) s = refl
frame_code (Reset stream code) s = refl
frame_code (Settings pairs) s = refl
frame_code SettingsAck s = refl
frame_code (Ping ack octets) s = refl
frame_code (GoAway last code) s = refl
frame_code (Update stream increment) s = either (stream == 0) s.broken (record s { flow = after_resolving increment s.flow }) s refl refl
frame_code (Continued stream last octets) s = refl
frame_code (Unknown number) s = refl

effect_code : (put : Put) (s : Standing) → (effect put s).broken ≡ code_put put s.broken
effect_code (Plain frame) s = frame_code frame s
effect_code (Headers stream end headers) s =
    here_if end stream (cond (nat_lt s.greatest stream) (opened stream s) s) ∙ either (nat_lt s.greatest stream) s.broken (opened stream s) s refl refl

put_code : (put : Put) (s : Standing) → (out put s).broken ≡ code_put put s.broken
put_code put s = effect_code put (record s { output = s.output ++ octets_put s.writing put; writing = writing_behind s.writing put })

-- ---- what is read

data_goes : (verdict : Verdict) (stream : ℕ) (end : Bool) (flow : ℕ) (s : Standing) → (data_seen verdict stream end flow s).broken ≡ s.broken
data_goes (ConnectionError code) stream end flow s = refl
data_goes (StreamError on code) stream end flow s = refl
data_goes Ignored stream end flow s = refl
data_goes Accepted stream end flow s = peer_if end stream (counted (counted_on s.role stream) flow s)

opens_go : (stream : ℕ) (s : Standing) → (headers_opens stream s).broken ≡ s.broken
opens_go stream s = either (nat_lt s.greatest stream) s.broken (opened_if_room stream s) s (either (nat_lt (length s.streams) OPEN_STREAMS) s.broken (opened stream s) (record s { greatest = stream }) refl refl) refl

begun_goes : (block : HeaderBlock) (row : Option OpenStream) (s : Standing) → (begun_by_row block row s).broken ≡ s.broken
begun_goes block None s = refl
begun_goes block (Some row) s = peer_if block.end block.stream (record s { streams = with_row (record row { begun = true }) s.streams })

list_goes : (verdict : Verdict) (block : HeaderBlock) (s : Standing) → (seen_by_list verdict block s).broken ≡ s.broken
list_goes (ConnectionError code) block s = refl
list_goes (StreamError stream code) block s = refl
list_goes Ignored block s = refl
list_goes Accepted block s = begun_goes block (row_of block.stream s.streams) s

completed_goes : (read : Result Listing BlockRule) (block : HeaderBlock) (s : Standing) → (completed_by read block s).left.broken ≡ s.broken
completed_goes (Err rule) block s = refl
completed_goes (Ok listing) block s = list_goes (list_verdict s.role block listing.headers (row_wanted block s)) block (record s { tables = Ok listing.table })

left_either : (b : Bool) (o : Option ℕ) (x y : Completed) → x.left.broken ≡ o → y.left.broken ≡ o → (cond b x y).left.broken ≡ o
left_either true o x y hits misses = hits
left_either false o x y hits misses = misses

fragment_goes : (last : Bool) (block : HeaderBlock) (s : Standing) → (fragment_read last block s).left.broken ≡ s.broken
fragment_goes last block s =
    let waits : Completed = record { verdict = Ignored; headers = []; left = record s { block = Some block } } in
    left_either (is_too_long block) s.broken (too_much s) (cond last (completed block s) waits) refl
    (left_either last s.broken (completed block s) waits (completed_goes (decoded_at s.tables block.octets) block s) refl)

headers_go : (verdict : Verdict) (stream : ℕ) (end last : Bool) (octets : List ℕ) (s : Standing) → (headers_read verdict stream end last octets s).left.broken ≡ s.broken
headers_go verdict stream end last octets s = fragment_goes last (block_begun verdict stream end octets) (headers_opens stream s) ∙ opens_go stream s

head_goes : (verdict : Verdict) (stream : ℕ) (end last : Bool) (octets : List ℕ) (s : Standing) → (headers_seen verdict stream end last octets s).broken ≡ s.broken
head_goes (ConnectionError code) stream end last octets s = refl
head_goes (StreamError on code) stream end last octets s = headers_go (StreamError on code) stream end last octets s
head_goes Ignored stream end last octets s = headers_go Ignored stream end last octets s
head_goes Accepted stream end last octets s = headers_go Accepted stream end last octets s

continued_goes : (block : Option HeaderBlock) (last : Bool) (octets : List ℕ) (s : Standing) → (continued_seen block last octets s).broken ≡ s.broken
continued_goes None last octets s = refl
continued_goes (Some block) last octets s =
    let t : Standing = record s { block = None } in
    left_either (has_all_frames block) s.broken (too_much t) (fragment_read last (block_grown octets block) t) refl (fragment_goes last (block_grown octets block) t)

reset_goes : (verdict : Verdict) (stream : ℕ) (s : Standing) → (reset_seen verdict stream s).broken ≡ s.broken
reset_goes (ConnectionError code) stream s = refl
reset_goes (StreamError on code) stream s = refl
reset_goes Ignored stream s = refl
reset_goes Accepted stream s = refl

update_goes : (verdict : Verdict) (stream increment : ℕ) (s : Standing) → (update_seen verdict stream increment s).broken ≡ s.broken
update_goes (ConnectionError code) stream increment s = refl
update_goes (StreamError on code) stream increment s = refl
update_goes Ignored stream increment s = refl
update_goes Accepted stream increment s = refl

setting_goes : (setting : Setting) (s : Standing) → (with_setting setting s).broken ≡ s.broken
setting_goes setting s =
    let most : Standing = cond (setting.id == MAX_CONCURRENT_STREAMS) (record s { most = setting.value }) s in
    let windows : Standing = record s { flow = (answer_at_setting setting.value s.flow).windows } in
    either (setting.id == HEADER_TABLE_SIZE) s.broken (record s { writing = with_peer_limit setting.value s.writing }) (cond (setting.id == INITIAL_WINDOW_SIZE) windows most) refl
    (either (setting.id == INITIAL_WINDOW_SIZE) s.broken windows most refl (either (setting.id == MAX_CONCURRENT_STREAMS) s.broken (record s { most = setting.value }) s refl refl))

settled_either : (b : Bool) (o : Option ℕ) (x y : Settled) → x.left.broken ≡ o → y.left.broken ≡ o → (cond b x y).left.broken ≡ o
settled_either true o x y hits misses = hits
settled_either false o x y hits misses = misses

settled_goes : (settings : List Setting) (s : Standing) → (settled settings s).left.broken ≡ s.broken
settled_goes [] s = refl
settled_goes (setting ∷ settings) s =
    settled_either (breaks_windows setting s) s.broken (record { verdict = ConnectionError FLOW_CONTROL_ERROR; left = s }) (settled settings (with_setting setting s)) refl
    (settled_goes settings (with_setting setting s) ∙ setting_goes setting s)

goaway_goes : (role : Role) (s : Standing) → (goaway_seen role s).broken ≡ s.broken
goaway_goes Server s = refl
goaway_goes Client s = refl

seen_goes : (frame : Frame) (s : Standing) → (frame_seen frame s).broken ≡ s.broken
seen_goes (Content stream end octets flow) s = data_goes (data_verdict stream flow s) stream end flow s
seen_goes (Head stream end last octets) s = head_goes (headers_verdict stream s) stream end last octets s
seen_goes (Priority stream) s = refl
seen_goes (Reset stream code) s = reset_goes (reset_verdict stream s) stream s
seen_goes (Settings settings) s = settled_goes settings s
seen_goes SettingsAck s = refl
seen_goes (Ping ack octets) s = refl
seen_goes (GoAway last code) s = goaway_goes s.role s
seen_goes (Update stream increment) s = update_goes (update_verdict stream increment s) stream increment s
seen_goes (Continued stream last octets) s = continued_goes s.block last octets s
seen_goes (Unknown number) s = refl

-- ---- a history

passed_goes : (next : Next) (s : Standing) → (passed_next next s).broken ≡ s.broken
passed_goes NextUnfinished s = refl
passed_goes (NextFault code) s = refl
passed_goes (NextFrame frame reading) s = refl

one_code : (entry : Entry) (s : Standing) → (after entry s).broken ≡ code_after entry s.broken
one_code (Fed octets) s = refl
one_code (In frame) s = seen_goes frame (passed s) ∙ passed_goes (next_of s.reading) s
one_code (Out put) s = put_code put s
one_code (Took octets) s = refl

all_code : (entries : List Entry) (s : Standing) → (after_all entries s).broken ≡ code_after_all entries s.broken
all_code [] s = refl
all_code (entry ∷ entries) s = all_code entries (after entry s) ∙ ap (λ (b : Option ℕ). code_after_all entries b) (one_code entry s)

new_goes : (role : Role) → (new_standing role).broken ≡ None
new_goes Server = refl
new_goes Client = refl

pub stands_code : (role : Role) (entries : List Entry) (s : Standing) → StandsFor s role entries → s.broken ≡ last_goaway entries
stands_code role entries s stands =
    ap (λ (t : Standing). t.broken) stands ∙ all_code entries (new_standing role) ∙ ap (λ (b : Option ℕ). code_after_all entries b) (new_goes role)

-- ---- no frame is reported as the end of the connection

abbrev IsNoEnd : Option CallEvent → Type 0
IsNoEnd None = Unit {0}
IsNoEnd (Some (events.Broken code)) = ⊥
IsNoEnd (Some event) = Unit {0}

reported_no_end : (verdict : Verdict) (event : Option CallEvent) → IsNoEnd event → IsNoEnd (reported verdict event)
reported_no_end (ConnectionError code) event none = tt
reported_no_end (StreamError stream code) event none = tt
reported_no_end Ignored event none = tt
reported_no_end Accepted event none = none

headers_no_end : (verdict : Verdict) (stream : ℕ) (end last : Bool) (octets : List ℕ) (s : Standing) → IsNoEnd (headers_reported verdict stream end last octets s)
headers_no_end (ConnectionError code) stream end last octets s = tt
headers_no_end (StreamError on code) stream end last octets s = tt
headers_no_end Ignored stream end last octets s = let read = headers_read Ignored stream end last octets s in reported_no_end read.verdict (Some (events.Head stream read.headers end)) tt
headers_no_end Accepted stream end last octets s = let read = headers_read Accepted stream end last octets s in reported_no_end read.verdict (Some (events.Head stream read.headers end)) tt

continued_no_end : (block : Option HeaderBlock) (last : Bool) (octets : List ℕ) (s : Standing) → IsNoEnd (continued_reported block last octets s)
continued_no_end None last octets s = tt
continued_no_end (Some block) last octets s = let read = continued_read last octets block s in reported_no_end read.verdict (Some (events.Head block.stream read.headers block.end)) tt

frame_no_end : (frame : Frame) (s : Standing) → IsNoEnd (frame_reported frame s)
frame_no_end (Content stream end octets flow) s = reported_no_end (data_verdict stream flow s) (Some (events.Part stream octets flow end)) tt
frame_no_end (Head stream end last octets) s = headers_no_end (headers_verdict stream s) stream end last octets s
frame_no_end (Priority stream) s = tt
frame_no_end (Reset stream code) s = reported_no_end (reset_verdict stream s) (Some (events.Reset stream code)) tt
frame_no_end (Settings settings) s = tt
frame_no_end SettingsAck s = tt
frame_no_end (Ping ack octets) s = tt
frame_no_end (GoAway last code) s = tt
frame_no_end (Update stream increment) s = reported_no_end (update_verdict stream increment s) None tt
frame_no_end (Continued stream last octets) s = continued_no_end s.block last octets s
frame_no_end (Unknown number) s = tt

-- ---- the code that is reported

event_of : Turn → Option CallEvent
event_of Rests = None
event_of (Goes left) = None
event_of (Reports left event) = Some event

left_of : Turn → Standing → Standing
left_of Rests s = s
left_of (Goes left) s = left
left_of (Reports left event) s = left

code_of : Option CallEvent → Option ℕ
code_of (Some (events.Broken code)) = Some code
code_of event = None

not_reported : (event : Option CallEvent) (left new : Standing) (code : ℕ) → IsNoEnd event → turn_reported event left ≡ Reports new (events.Broken code) → ⊥
unfolding event_of
not_reported None left new code none e = absurd (cc e)
not_reported (Some event) left new code none e = subst (λ (x : Option CallEvent). IsNoEnd x) (ap event_of e) none

not_next : (next : Next) (s new : Standing) (code : ℕ) → turn_next next s ≡ Reports new (events.Broken code) → ⊥
not_next NextUnfinished s new code e = absurd (cc e)
not_next (NextFault fault) s new code e = absurd (cc e)
not_next (NextFrame frame reading) s new code e =
    let t : Standing = record s { reading = reading } in not_reported (frame_reported frame t) (frame_read frame t).left new code (frame_no_end frame t) e

by_code : (broken : Option ℕ) (s new : Standing) (code : ℕ) → s.broken ≡ broken → turn_by broken s ≡ Reports new (events.Broken code) → new.broken ≡ Some code
unfolding event_of left_of code_of
by_code (Some first) s new code is e =
    let same : s ≡ new = ap (λ (turn : Turn). left_of turn new) e in
    let codes : Some first ≡ Some code = ap (λ (turn : Turn). code_of (event_of turn)) e in
    ap (λ (t : Standing). t.broken) (sym same) ∙ is ∙ codes
by_code None s new code is e = absurd (not_next (next_of s.reading) s new code e)

report_code : (old new : Standing) (code : ℕ) → IsReported old new (events.Broken code) → new.broken ≡ Some code
report_code old new code reported = by_code reported.last.broken reported.last new code refl reported.reports

pub step_code : (role : Role) (history entries : List Entry) (old new : Standing) (code : ℕ) → StandsFor old role history → Step old (Report (events.Broken code)) entries new → last_goaway (history ++ entries) ≡ Some code
step_code role history entries old new code stands step =
    sym (stands_code role (history ++ entries) new (step_history role history entries (Report (events.Broken code)) old new stands step)) ∙ report_code old new code step.0
