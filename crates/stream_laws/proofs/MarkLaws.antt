-- After any entries the open streams are those that the marks of the entries open, and neither close nor end on both sides.
use Rattle.std.proofs.Common.{◌≡◌, ℕ, ◌<◌, ◌||◌, Bool, true, false, cond, ltb, is_some, Option, Some, None, List, [], ◌∷◌, ◌++◌, length, Result, Ok, Err, refl, ap, sym, subst}
use Rattle.std.specs.Prelude.{◌==◌}
use Rattle.std.proofs.Math.Bool.{or-false}
use Rattle.std.proofs.lemmas.Bool.{ltb-true}
use Rattle.h2_flow.specs.declared.limits.TheConstants.{OPEN_STREAMS}
use Rattle.h2_flow.specs.Windows.{answer_at_setting, after_sending, after_resolving}
use Rattle.hpack.specs.declared.stop.BlockRule.{BlockRule}
use Rattle.hpack.specs.Encoding.{with_peer_limit}
use Rattle.hpack.specs.Representations.{Listing}
use Rattle.h2_frames.specs.Reading.{Next, next_of}
use Rattle.h2_frames.specs.Reading.Next.{NextUnfinished, NextFrame, NextFault}
use Rattle.h2_history.specs.Blocks.{Completed, completed_by, completed, seen_by_list, begun_by_row, fragment_read, continuation_read, decoded_at, block_begun, block_grown, is_too_long, has_all_frames, too_much, list_verdict, row_wanted}
use Rattle.h2_history.specs.declared.header_block.HeaderBlock.{HeaderBlock}
use Rattle.h2_history.specs.declared.verdict.Verdict.{Verdict}
use Rattle.h2_history.specs.declared.verdict.Verdict.TheVariants.{ConnectionError, StreamError, Ignored, Accepted}
use Rattle.h2_history.specs.Frames.{counted, data_seen, opened_if_room, headers_opens, headers_seen, headers_read, continued_seen, reset_seen, update_seen, goaway_seen, frame_seen}
use Rattle.h2_history.specs.History.{Entry, outs, first_puts, new_standing, StandsFor, passed, passed_next, after, after_all}
use Rattle.h2_history.specs.History.Entry.{Fed, In, Out, Took}
use Rattle.h2_history.specs.Puts.{Put, octets_put, writing_behind, shut, opened, row_ended_here, ended_here, row_ended_by_peer, ended_by_peer, ended_here_if, effect_of_frame, out}
use Rattle.h2_history.specs.Puts.Put.{Plain, Headers}
use Rattle.h2_history.specs.Settings.{Settled, settled, with_setting, breaks_windows}
use Rattle.h2_history.specs.Standing.{Standing, first_standing}
use Rattle.h2_history.specs.Verdicts.{counted_on, data_verdict, headers_verdict, reset_verdict, update_verdict}
use Rattle.h2_layouts.specs.declared.code.TheConstants.{FLOW_CONTROL_ERROR}
use Rattle.h2_layouts.specs.declared.frame.Frame.{Frame}
use Rattle.h2_layouts.specs.declared.frame.Frame.TheVariants.{Content, Head, Priority, Reset, Settings, SettingsAck, Ping, GoAway, Update, Continued, Unknown}
use Rattle.h2_layouts.specs.declared.role.Role.{Role}
use Rattle.h2_layouts.specs.declared.role.Role.TheVariants.{Server, Client}
use Rattle.h2_layouts.specs.declared.setting.Setting.{Setting}
use Rattle.h2_layouts.specs.declared.setting.TheConstants.{HEADER_TABLE_SIZE, INITIAL_WINDOW_SIZE, MAX_CONCURRENT_STREAMS}
use Rattle.stream_laws.specs.Marks.{Mark, open_by, was_opened, was_ended_there, was_ended_here, was_closed, if_open, marks_opening, marks_ended_here, marks_ended_there, marks_closed, marks_of_frame, marks_of_put, marks_of_data, marks_of_row, marks_of_list, marks_of_listing, marks_of_fragment, marks_of_headers, marks_of_continuation, marks_of_reset, marks_of_read, marks_of_entry, all_marks, IsAsMarked}
use Rattle.stream_laws.specs.Marks.Mark.{EndsThere, EndsHere}
use Rattle.stream_laws.proofs.RowMarks.{Story, no_story, story_after_all, story_joined, asked_of, story_asked, RowIs, FitsStory, here_closes, there_closes, here_stays, there_stays, begun_stays, found_with, closes, ends_all, opens}
use Rattle.stream_table.specs.declared.open_stream.OpenStream.{OpenStream}
use Rattle.h2_flow.specs.KeyedRowLaws.{row_at-named}
use Rattle.stream_table.specs.Rows.{stream_of, row_of, with_row, new_row, after_opening}

-- the marks lead from how the one stood to how the other does
abbrev Leads : ℕ → Standing → List Mark → Standing → Type 0
Leads asked old marks new = (story : Story) → FitsStory asked story old.streams old.greatest → FitsStory asked (story_after_all asked marks story) new.streams new.greatest

joined : (asked : ℕ) (first rest : List Mark) (old between new : Standing) → Leads asked old first between → Leads asked between rest new → Leads asked old (first ++ rest) new
joined asked first rest old between new one other = λ story fits. subst (λ (x : Story). FitsStory asked x new.streams new.greatest) (sym (story_joined asked first rest story)) (other (story_after_all asked first story) (one story fits))

either : (asked : ℕ) (b : Bool) (s t u : Standing) (marks others : List Mark) → Leads asked s marks t → Leads asked s others u → Leads asked s (cond b marks others) (cond b t u)
either asked true s t u marks others hits misses = hits
either asked false s t u marks others hits misses = misses

either_state : (asked : ℕ) (b : Bool) (s t u : Standing) (marks : List Mark) → Leads asked s marks t → Leads asked s marks u → Leads asked s marks (cond b t u)
either_state asked true s t u marks hits misses = hits
either_state asked false s t u marks hits misses = misses

stays : (asked : ℕ) (s : Standing) → Leads asked s [] s
stays asked s = λ story fits. fits

-- ---- ends of streams

here_row : (asked k : ℕ) (row : OpenStream) (s : Standing) (b : Bool) → row_of k s.streams ≡ Some row → row.peer_ended ≡ b
    → Leads asked s (EndsHere k ∷ []) (cond b (shut k s) (record s { streams = with_row (record row { here_ended = true }) s.streams }))
here_row asked k row s true found is = λ story fits. here_closes asked k story s.streams s.greatest row found is fits
here_row asked k row s false found is = λ story fits. here_stays asked k story s.streams s.greatest row found is fits

there_row : (asked k : ℕ) (row : OpenStream) (s : Standing) (b : Bool) → row_of k s.streams ≡ Some row → row.here_ended ≡ b
    → Leads asked s (EndsThere k ∷ []) (cond b (shut k s) (record s { streams = with_row (record row { peer_ended = true }) s.streams }))
there_row asked k row s true found is = λ story fits. there_closes asked k story s.streams s.greatest row found is fits
there_row asked k row s false found is = λ story fits. there_stays asked k story s.streams s.greatest row found is fits

row_here : (asked k : ℕ) (row : Option OpenStream) (s : Standing) → row_of k s.streams ≡ row → Leads asked s (if_open row (EndsHere k)) (row_ended_here k row s)
row_here asked k None s found = stays asked s
row_here asked k (Some row) s found = here_row asked k row s row.peer_ended found refl

row_there : (asked k : ℕ) (row : Option OpenStream) (s : Standing) → row_of k s.streams ≡ row → Leads asked s (if_open row (EndsThere k)) (row_ended_by_peer k row s)
row_there asked k None s found = stays asked s
row_there asked k (Some row) s found = there_row asked k row s row.here_ended found refl

here_if : (asked : ℕ) (end : Bool) (k : ℕ) (s : Standing) → Leads asked s (cond end (marks_ended_here k s.streams) []) (ended_here_if end k s)
here_if asked end k s = either asked end s (ended_here k s) s (marks_ended_here k s.streams) [] (row_here asked k (row_of k s.streams) s refl) (stays asked s)

there_if : (asked : ℕ) (end : Bool) (k : ℕ) (s : Standing) → Leads asked s (cond end (marks_ended_there k s.streams) []) (cond end (ended_by_peer k s) s)
there_if asked end k s = either asked end s (ended_by_peer k s) s (marks_ended_there k s.streams) [] (row_there asked k (row_of k s.streams) s refl) (stays asked s)

shut_leads : (asked k : ℕ) (s : Standing) → Leads asked s (marks_closed k s.streams) (shut k s)
shut_leads asked k s = λ story fits. closes asked k story s.streams s.greatest fits

-- ---- openings

opening_leads : (asked k : ℕ) (s : Standing) → s.greatest < k → Leads asked s (marks_opening k s.streams) (opened k s)
opening_leads asked k s above = λ story fits. opens asked k story s.streams s.greatest above fits

room_leads : (asked k : ℕ) (s : Standing) (b : Bool) → ltb (length s.streams) OPEN_STREAMS ≡ b → s.greatest < k → Leads asked s (marks_opening k s.streams) (cond b (opened k s) (record s { greatest = k }))
room_leads asked k s true is above = opening_leads asked k s above
room_leads asked k s false is above = λ story fits.
    let same : after_opening k s.streams ≡ s.streams = ap (λ (b : Bool). cond b (s.streams ++ new_row k ∷ []) s.streams) is in
    subst (λ (rows : List OpenStream). FitsStory asked (story_after_all asked (marks_opening k s.streams) story) rows k) same (opening_leads asked k s above story fits)

opens_by : (asked k : ℕ) (s : Standing) (b : Bool) → ltb s.greatest k ≡ b → Leads asked s (cond b (marks_opening k s.streams) []) (cond b (opened_if_room k s) s)
opens_by asked k s true is = room_leads asked k s (ltb (length s.streams) OPEN_STREAMS) refl (ltb-true s.greatest k is)
opens_by asked k s false is = stays asked s

-- ---- what is put

frame_leads : (asked : ℕ) (frame : Frame) (s : Standing) → Leads asked s (marks_of_frame frame s.streams) (effect_of_frame frame s)
frame_leads asked (Content stream end octets flow) s = here_if asked end stream (record s { flow = after_sending stream (length octets) s.flow })
frame_leads asked (Head stream end last octets) s = stays asked s
frame_leads asked (Priority stream) s = stays asked s
frame_leads asked (Reset stream code) s = shut_leads asked stream s
frame_leads asked (Settings pairs) s = stays asked s
frame_leads asked SettingsAck s = stays asked s
frame_leads asked (Ping ack octets) s = stays asked s
frame_leads asked (GoAway last code) s = λ story fits. ends_all asked story s.streams s.greatest fits
frame_leads asked (Update stream increment) s = either_state asked (stream == 0) s (record s { flow = after_resolving increment s.flow }) s [] (stays asked s) (stays asked s)
frame_leads asked (Continued stream last octets) s = stays asked s
frame_leads asked (Unknown number) s = stays asked s

headers_out : (asked : ℕ) (b : Bool) (stream : ℕ) (end : Bool) (s : Standing) → ltb s.greatest stream ≡ b
    → Leads asked s (cond b (marks_opening stream s.streams) [] ++ cond end (marks_ended_here stream (cond b (after_opening stream s.streams) s.streams)) []) (ended_here_if end stream (cond b (opened stream s) s))
headers_out asked true stream end s is =
    joined asked (marks_opening stream s.streams) (cond end (marks_ended_here stream (after_opening stream s.streams)) []) s (opened stream s) (ended_here_if end stream (opened stream s)) (opening_leads asked stream s (ltb-true s.greatest stream is)) (here_if asked end stream (opened stream s))
headers_out asked false stream end s is = here_if asked end stream s

out_leads : (asked : ℕ) (put : Put) (s : Standing) → Leads asked s (marks_of_put put s) (out put s)
out_leads asked (Plain frame) s = frame_leads asked frame (record s { output = s.output ++ octets_put s.writing (Plain frame); writing = writing_behind s.writing (Plain frame) })
out_leads asked (Headers stream end headers) s = headers_out asked (ltb s.greatest stream) stream end (record s { output = s.output ++ octets_put s.writing (Headers stream end headers); writing = writing_behind s.writing (Headers stream end headers) }) refl

-- ---- what is read

data_leads : (asked : ℕ) (verdict : Verdict) (stream : ℕ) (end : Bool) (flow : ℕ) (s : Standing) → Leads asked s (marks_of_data verdict stream end s) (data_seen verdict stream end flow s)
data_leads asked (ConnectionError code) stream end flow s = stays asked s
data_leads asked (StreamError on code) stream end flow s = stays asked s
data_leads asked Ignored stream end flow s = stays asked s
data_leads asked Accepted stream end flow s = there_if asked end stream (counted (counted_on s.role stream) flow s)

begun_ends : (asked k : ℕ) (row : OpenStream) (s : Standing) → row_of k s.streams ≡ Some row → Leads asked s (EndsThere k ∷ []) (ended_by_peer k (record s { streams = with_row (record row { begun = true }) s.streams }))
begun_ends asked k row s found =
    let new : OpenStream = record row { begun = true } in
    let begun : Standing = record s { streams = with_row new s.streams } in
    let again : row_of k begun.streams ≡ Some new = found_with k s.streams row new found (row_at-named stream_of k s.streams row found) in
    λ story fits. subst (λ (r : Option OpenStream). FitsStory asked (story_after_all asked (EndsThere k ∷ []) story) (row_ended_by_peer k r begun).streams (row_ended_by_peer k r begun).greatest) (sym again)
    (row_there asked k (Some new) begun again story (begun_stays asked k story s.streams s.greatest row found fits))

begun_leads : (asked : ℕ) (block : HeaderBlock) (row : Option OpenStream) (s : Standing) → row_of block.stream s.streams ≡ row → Leads asked s (marks_of_row block row) (begun_by_row block row s)
begun_leads asked block None s found = stays asked s
begun_leads asked block (Some row) s found =
    let begun : Standing = record s { streams = with_row (record row { begun = true }) s.streams } in
    either asked block.end s (ended_by_peer block.stream begun) begun (EndsThere block.stream ∷ []) [] (begun_ends asked block.stream row s found) (λ story fits. begun_stays asked block.stream story s.streams s.greatest row found fits)

table_leads : (asked : ℕ) (verdict : Verdict) (listing : Listing) (block : HeaderBlock) (s : Standing) → Leads asked s (marks_of_list verdict block s.streams) (seen_by_list verdict block (record s { tables = Ok listing.table }))
table_leads asked (ConnectionError code) listing block s = stays asked s
table_leads asked (StreamError stream code) listing block s = stays asked s
table_leads asked Ignored listing block s = stays asked s
table_leads asked Accepted listing block s = begun_leads asked block (row_of block.stream s.streams) (record s { tables = Ok listing.table }) refl

listing_leads : (asked : ℕ) (read : Result Listing BlockRule) (block : HeaderBlock) (s : Standing) → Leads asked s (marks_of_listing read block s) (completed_by read block s).left
listing_leads asked (Err rule) block s = stays asked s
listing_leads asked (Ok listing) block s = table_leads asked (list_verdict s.role block listing.headers (row_wanted block s)) listing block s

left_either : (asked : ℕ) (b : Bool) (s : Standing) (x y : Completed) (marks others : List Mark) → Leads asked s marks x.left → Leads asked s others y.left → Leads asked s (cond b marks others) (cond b x y).left
left_either asked true s x y marks others hits misses = hits
left_either asked false s x y marks others hits misses = misses

fragment_leads : (asked : ℕ) (last : Bool) (block : HeaderBlock) (s : Standing) → Leads asked s (marks_of_fragment last block s) (fragment_read last block s).left
fragment_leads asked last block s =
    let waits : Completed = record { verdict = Ignored; headers = []; left = record s { block = Some block } } in
    let whole : List Mark = marks_of_listing (decoded_at s.tables block.octets) block s in
    left_either asked (is_too_long block) s (too_much s) (cond last (completed block s) waits) [] (cond last whole []) (stays asked s)
    (left_either asked last s (completed block s) waits whole [] (listing_leads asked (decoded_at s.tables block.octets) block s) (stays asked s))

more_leads : (asked : ℕ) (last : Bool) (octets : List ℕ) (block : HeaderBlock) (s : Standing) → Leads asked s (cond (has_all_frames block) [] (marks_of_fragment last (block_grown octets block) s)) (continuation_read last octets block s).left
more_leads asked last octets block s = left_either asked (has_all_frames block) s (too_much s) (fragment_read last (block_grown octets block) s) [] (marks_of_fragment last (block_grown octets block) s) (stays asked s) (fragment_leads asked last (block_grown octets block) s)

read_leads : (asked : ℕ) (verdict : Verdict) (stream : ℕ) (end last : Bool) (octets : List ℕ) (s : Standing)
    → Leads asked s (cond (ltb s.greatest stream) (marks_opening stream s.streams) [] ++ marks_of_fragment last (block_begun verdict stream end octets) (headers_opens stream s)) (headers_read verdict stream end last octets s).left
read_leads asked verdict stream end last octets s =
    joined asked (cond (ltb s.greatest stream) (marks_opening stream s.streams) []) (marks_of_fragment last (block_begun verdict stream end octets) (headers_opens stream s)) s (headers_opens stream s) (headers_read verdict stream end last octets s).left
    (opens_by asked stream s (ltb s.greatest stream) refl) (fragment_leads asked last (block_begun verdict stream end octets) (headers_opens stream s))

headers_lead : (asked : ℕ) (verdict : Verdict) (stream : ℕ) (end last : Bool) (octets : List ℕ) (s : Standing) → Leads asked s (marks_of_headers verdict stream end last octets s) (headers_seen verdict stream end last octets s)
headers_lead asked (ConnectionError code) stream end last octets s = stays asked s
headers_lead asked (StreamError on code) stream end last octets s = read_leads asked (StreamError on code) stream end last octets s
headers_lead asked Ignored stream end last octets s = read_leads asked Ignored stream end last octets s
headers_lead asked Accepted stream end last octets s = read_leads asked Accepted stream end last octets s

continued_leads : (asked : ℕ) (block : Option HeaderBlock) (last : Bool) (octets : List ℕ) (s : Standing) → Leads asked s (marks_of_continuation block last octets s) (continued_seen block last octets s)
continued_leads asked None last octets s = stays asked s
continued_leads asked (Some block) last octets s = more_leads asked last octets block (record s { block = None })

reset_leads : (asked : ℕ) (verdict : Verdict) (stream : ℕ) (s : Standing) → Leads asked s (marks_of_reset verdict stream s) (reset_seen verdict stream s)
reset_leads asked (ConnectionError code) stream s = stays asked s
reset_leads asked (StreamError on code) stream s = stays asked s
reset_leads asked Ignored stream s = stays asked s
reset_leads asked Accepted stream s = shut_leads asked stream s

update_leads : (asked : ℕ) (verdict : Verdict) (stream increment : ℕ) (s : Standing) → Leads asked s [] (update_seen verdict stream increment s)
update_leads asked (ConnectionError code) stream increment s = stays asked s
update_leads asked (StreamError on code) stream increment s = stays asked s
update_leads asked Ignored stream increment s = stays asked s
update_leads asked Accepted stream increment s = stays asked s

setting_leads : (asked : ℕ) (setting : Setting) (s : Standing) → Leads asked s [] (with_setting setting s)
setting_leads asked setting s =
    let windows : Standing = record s { flow = (answer_at_setting setting.value s.flow).windows } in
    let rest : Standing = cond (setting.id == MAX_CONCURRENT_STREAMS) (record s { most = setting.value }) s in
    either_state asked (setting.id == HEADER_TABLE_SIZE) s (record s { writing = with_peer_limit setting.value s.writing }) (cond (setting.id == INITIAL_WINDOW_SIZE) windows rest) [] (stays asked s)
    (either_state asked (setting.id == INITIAL_WINDOW_SIZE) s windows rest [] (stays asked s)
    (either_state asked (setting.id == MAX_CONCURRENT_STREAMS) s (record s { most = setting.value }) s [] (stays asked s) (stays asked s)))

settled_either : (asked : ℕ) (b : Bool) (s : Standing) (x y : Settled) → Leads asked s [] x.left → Leads asked s [] y.left → Leads asked s [] (cond b x y).left
settled_either asked true s x y hits misses = hits
settled_either asked false s x y hits misses = misses

settings_lead : (asked : ℕ) (settings : List Setting) (s : Standing) → Leads asked s [] (settled settings s).left
settings_lead asked [] s = stays asked s
settings_lead asked (setting ∷ settings) s =
    settled_either asked (breaks_windows setting s) s (record { verdict = ConnectionError FLOW_CONTROL_ERROR; left = s }) (settled settings (with_setting setting s)) (stays asked s)
    (joined asked [] [] s (with_setting setting s) (settled settings (with_setting setting s)).left (setting_leads asked setting s) (settings_lead asked settings (with_setting setting s)))

goaway_leads : (asked : ℕ) (role : Role) (s : Standing) → Leads asked s [] (goaway_seen role s)
goaway_leads asked Server s = stays asked s
goaway_leads asked Client s = stays asked s

seen_leads : (asked : ℕ) (frame : Frame) (s : Standing) → Leads asked s (marks_of_read frame s) (frame_seen frame s)
seen_leads asked (Content stream end octets flow) s = data_leads asked (data_verdict stream flow s) stream end flow s
seen_leads asked (Head stream end last octets) s = headers_lead asked (headers_verdict stream s) stream end last octets s
seen_leads asked (Priority stream) s = stays asked s
seen_leads asked (Reset stream code) s = reset_leads asked (reset_verdict stream s) stream s
seen_leads asked (Settings settings) s = settings_lead asked settings s
seen_leads asked SettingsAck s = stays asked s
seen_leads asked (Ping ack octets) s = stays asked s
seen_leads asked (GoAway last code) s = goaway_leads asked s.role s
seen_leads asked (Update stream increment) s = update_leads asked (update_verdict stream increment s) stream increment s
seen_leads asked (Continued stream last octets) s = continued_leads asked s.block last octets s
seen_leads asked (Unknown number) s = stays asked s

-- ---- entries

passed_leads : (asked : ℕ) (next : Next) (s : Standing) → Leads asked s [] (passed_next next s)
passed_leads asked NextUnfinished s = stays asked s
passed_leads asked (NextFault code) s = stays asked s
passed_leads asked (NextFrame frame reading) s = stays asked s

in_leads : (asked : ℕ) (frame : Frame) (s : Standing) → Leads asked s (marks_of_read frame (passed s)) (frame_seen frame (passed s))
in_leads asked frame s = joined asked [] (marks_of_read frame (passed s)) s (passed s) (frame_seen frame (passed s)) (passed_leads asked (next_of s.reading) s) (seen_leads asked frame (passed s))

entry_leads : (asked : ℕ) (entry : Entry) (s : Standing) → Leads asked s (marks_of_entry entry s) (after entry s)
entry_leads asked (Fed octets) s = stays asked s
entry_leads asked (In frame) s = in_leads asked frame s
entry_leads asked (Out put) s = out_leads asked put s
entry_leads asked (Took octets) s = stays asked s

entries_lead : (asked : ℕ) (entries : List Entry) (s : Standing) → Leads asked s (all_marks entries s) (after_all entries s)
entries_lead asked [] s = stays asked s
entries_lead asked (entry ∷ entries) s = joined asked (marks_of_entry entry s) (all_marks entries (after entry s)) s (after entry s) (after_all entries (after entry s)) (entry_leads asked entry s) (entries_lead asked entries (after entry s))

-- ---- from the beginning of a connection

first_fits : (asked : ℕ) (role : Role) → FitsStory asked no_story (first_standing role).streams (first_standing role).greatest
first_fits asked role = record { apart = tt; below = λ other above. refl; row = refl; fresh = λ above. (refl, refl, refl, refl) }

first_marks : (role : Role) → all_marks (outs (first_puts role)) (first_standing role) ≡ []
first_marks Server = refl
first_marks Client = refl

new_fits : (asked : ℕ) (role : Role) → FitsStory asked no_story (new_standing role).streams (new_standing role).greatest
new_fits asked role = subst (λ (marks : List Mark). FitsStory asked (story_after_all asked marks no_story) (new_standing role).streams (new_standing role).greatest) (first_marks role)
    (entries_lead asked (outs (first_puts role)) (first_standing role) no_story (first_fits asked role))

says_open : (o t h c : Bool) (row : Option OpenStream) → RowIs o t h c row → is_some row ≡ open_by o t h c
says_open o t h c None is = sym is
says_open o t h c (Some row) is = sym is.0

says_there : (o t h c : Bool) (found : Option OpenStream) (row : OpenStream) → found ≡ Some row → RowIs o t h c found → row.peer_ended ≡ t
says_there o t h c found row e is = let says : RowIs o t h c (Some row) = subst (λ (r : Option OpenStream). RowIs o t h c r) e is in says.1

says_here : (o t h c : Bool) (found : Option OpenStream) (row : OpenStream) → found ≡ Some row → RowIs o t h c found → row.here_ended ≡ h
says_here o t h c found row e is = let says : RowIs o t h c (Some row) = subst (λ (r : Option OpenStream). RowIs o t h c r) e is in says.2

-- the row, in words of the filters
row_marked : (asked : ℕ) (all : List Mark) (rows : List OpenStream) → RowIs (was_opened asked all) (was_ended_there asked all) (was_ended_here asked all) (was_closed asked all) (row_of asked rows) → IsAsMarked asked all rows
row_marked asked all rows is = record {
  opened = says_open (was_opened asked all) (was_ended_there asked all) (was_ended_here asked all) (was_closed asked all) (row_of asked rows) is;
  there = λ row e. says_there (was_opened asked all) (was_ended_there asked all) (was_ended_here asked all) (was_closed asked all) (row_of asked rows) row e is;
  here = λ row e. says_here (was_opened asked all) (was_ended_there asked all) (was_ended_here asked all) (was_closed asked all) (row_of asked rows) row e is;
}

none_before : (o t h c : Bool) (row : Option OpenStream) → RowIs (o || false) (t || false) (h || false) (c || false) row → RowIs o t h c row
none_before o t h c row is =
    subst (λ (x : Bool). RowIs o t h x row) (or-false c) (subst (λ (x : Bool). RowIs o t x (c || false) row) (or-false h) (subst (λ (x : Bool). RowIs o x (h || false) (c || false) row) (or-false t) (subst (λ (x : Bool). RowIs x (t || false) (h || false) (c || false) row) (or-false o) is)))

after_marked : (asked : ℕ) (role : Role) (entries : List Entry) → IsAsMarked asked (all_marks entries (new_standing role)) (after_all entries (new_standing role)).streams
after_marked asked role entries =
    let all : List Mark = all_marks entries (new_standing role) in
    let rows : List OpenStream = (after_all entries (new_standing role)).streams in
    let fits : FitsStory asked (asked_of asked all no_story) rows (after_all entries (new_standing role)).greatest =
    subst (λ (x : Story). FitsStory asked x rows (after_all entries (new_standing role)).greatest) (story_asked asked all no_story) (entries_lead asked entries (new_standing role) no_story (new_fits asked role)) in
    row_marked asked all rows (none_before (was_opened asked all) (was_ended_there asked all) (was_ended_here asked all) (was_closed asked all) (row_of asked rows) fits.row)

pub streams_marked : (role : Role) (entries : List Entry) (s : Standing) (stream : ℕ) → StandsFor s role entries → IsAsMarked stream (all_marks entries (new_standing role)) s.streams
streams_marked role entries s stream stands = subst (λ (t : Standing). IsAsMarked stream (all_marks entries (new_standing role)) t.streams) (sym stands) (after_marked stream role entries)
