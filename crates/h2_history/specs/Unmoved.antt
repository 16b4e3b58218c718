-- What neither a frame that is read nor one that is put changes: which end it is, where the next frame stands, and whether
-- memory ran out.
use Rattle.std.proofs.Common.{◌≡◌, ℕ, Bool, true, false, cond, Option, Some, None, List, [], ◌∷◌, ◌++◌, length, Result, Ok, Err, refl, ◌∙◌}
use Rattle.hpack.specs.declared.stop.BlockRule.{BlockRule}
use Rattle.hpack.specs.Representations.{Listing}
use Rattle.h2_flow.specs.Windows.{answer_at_setting, after_sending, after_resolving}
use Rattle.h2_history.specs.Blocks.{Completed, completed_by, completed, seen_by_list, begun_by_row, fragment_read, continuation_read, decoded_at, block_begun, block_grown, is_too_long, has_all_frames, too_much, list_verdict, row_wanted}
use Rattle.h2_history.specs.declared.header_block.HeaderBlock.{HeaderBlock}
use Rattle.h2_history.specs.declared.verdict.Verdict.{Verdict}
use Rattle.h2_history.specs.declared.verdict.Verdict.TheVariants.{ConnectionError, StreamError, Ignored, Accepted}
use Rattle.h2_history.specs.Verdicts.{counted_on, data_verdict, headers_verdict, reset_verdict, update_verdict}
use Rattle.h2_history.specs.Frames.{counted, data_seen, opened_if_room, headers_opens, headers_seen, headers_read, continued_seen, reset_seen, update_seen, goaway_seen, frame_seen, frame_owed, frame_read}
use Rattle.h2_history.specs.Puts.{Put, octets_put, writing_behind, shut, opened, row_ended_here, ended_here, row_ended_by_peer, ended_by_peer, ended_here_if, effect_of_frame, effect, out, fits, broke, goaway, offered_by, offered, offer_all}
use Rattle.h2_history.specs.Puts.Put.{Plain, Headers}
use Rattle.h2_history.specs.Settings.{Settled, settled, with_setting, breaks_windows}
use Rattle.h2_history.specs.Standing.{Standing}
use Rattle.h2_layouts.specs.declared.code.TheConstants.{ENHANCE_YOUR_CALM, FLOW_CONTROL_ERROR}
use Rattle.h2_flow.specs.declared.limits.TheConstants.{OPEN_STREAMS}
use Rattle.h2_layouts.specs.declared.setting.TheConstants.{HEADER_TABLE_SIZE, INITIAL_WINDOW_SIZE, MAX_CONCURRENT_STREAMS}
use Rattle.hpack.specs.Encoding.{with_peer_limit}
use Rattle.h2_layouts.specs.declared.frame.Frame.{Frame}
use Rattle.h2_layouts.specs.declared.frame.Frame.TheVariants.{Content, Head, Priority, Reset, Settings, SettingsAck, Ping, GoAway, Update, Continued, Unknown}
use Rattle.h2_layouts.specs.declared.role.Role.{Role}
use Rattle.h2_layouts.specs.declared.role.Role.TheVariants.{Server, Client}
use Rattle.h2_layouts.specs.declared.setting.Setting.{Setting}
use Rattle.stream_table.specs.declared.open_stream.OpenStream.{OpenStream}
use Rattle.stream_table.specs.Rows.{row_of, with_row}
use Rattle.std.specs.Prelude.{nat_lt, ◌==◌}

pub record Kept (old new : Standing) : Type 0 where
  pub role : new.role ≡ old.role
  pub reading : new.reading ≡ old.reading
  pub failed : new.failed ≡ old.failed

keeps : (s : Standing) → Kept s s
keeps s = record { role = refl; reading = refl; failed = refl }

chain_kept : (r s t : Standing) → Kept r s → Kept s t → Kept r t
chain_kept r s t first second = record { role = second.role ∙ first.role; reading = second.reading ∙ first.reading; failed = second.failed ∙ first.failed }

either_kept : (b : Bool) (s t u : Standing) → Kept s t → Kept s u → Kept s (cond b t u)
either_kept true s t u hits misses = hits
either_kept false s t u hits misses = misses

-- nor what is in the output: all but a frame that is put leaves that as it was
pub record Unmoved (old new : Standing) : Type 0 where
  pub kept : Kept old new
  pub output : new.output ≡ old.output

stays : (s : Standing) → Unmoved s s
stays s = record { kept = keeps s; output = refl }

chain : (r s t : Standing) → Unmoved r s → Unmoved s t → Unmoved r t
chain r s t first second = record { kept = chain_kept r s t first.kept second.kept; output = second.output ∙ first.output }

either : (b : Bool) (s t u : Standing) → Unmoved s t → Unmoved s u → Unmoved s (cond b t u)
either true s t u hits misses = hits
either false s t u hits misses = misses

-- ---- what is put

shut_stays : (stream : ℕ) (s : Standing) → Unmoved s (shut stream s)
shut_stays stream s = record { kept = record { role = refl; reading = refl; failed = refl }; output = refl }

row_here : (stream : ℕ) (row : Option OpenStream) (s : Standing) → Unmoved s (row_ended_here stream row s)
row_here stream None s = stays s
row_here stream (Some row) s = either row.peer_ended s (shut stream s) (record s { streams = with_row (record row { here_ended = true }) s.streams }) (shut_stays stream s) (record { kept = record { role = refl; reading = refl; failed = refl }; output = refl })

row_peer : (stream : ℕ) (row : Option OpenStream) (s : Standing) → Unmoved s (row_ended_by_peer stream row s)
row_peer stream None s = stays s
row_peer stream (Some row) s = either row.here_ended s (shut stream s) (record s { streams = with_row (record row { peer_ended = true }) s.streams }) (shut_stays stream s) (record { kept = record { role = refl; reading = refl; failed = refl }; output = refl })

here_if : (end : Bool) (stream : ℕ) (s : Standing) → Unmoved s (ended_here_if end stream s)
here_if end stream s = either end s (ended_here stream s) s (row_here stream (row_of stream s.streams) s) (stays s)

frame_effect : (frame : Frame) (s : Standing) → Unmoved s (effect_of_frame frame s)
frame_effect (Content stream end octets flow) s = let sent : Standing = record s { flow = after_sending stream (length octets) s.flow } in chain s sent (ended_here_if end stream sent) (record { kept = record { role = refl; reading = refl; failed = refl }; output = refl }) (here_if end stream sent)
frame_effect (Head stream end last octets) s = stays s
frame_effect (Priority stream) s = stays s
frame_effect (Reset stream code) s = shut_stays stream s
frame_effect (Settings pairs) s = stays s
frame_effect SettingsAck s = stays s
frame_effect (Ping ack octets) s = stays s
frame_effect (GoAway last code) s = record { kept = record { role = refl; reading = refl; failed = refl }; output = refl }
frame_effect (Update stream increment) s = either (stream == 0) s (record s { flow = after_resolving increment s.flow }) s (record { kept = record { role = refl; reading = refl; failed = refl }; output = refl }) (stays s)
frame_effect (Continued stream last octets) s = stays s
frame_effect (Unknown number) s = stays s

put_effect : (put : Put) (s : Standing) → Unmoved s (effect put s)
put_effect (Plain frame) s = frame_effect frame s
put_effect (Headers stream end headers) s =
    let begun : Standing = cond (nat_lt s.greatest stream) (opened stream s) s in
    chain s begun (ended_here_if end stream begun) (either (nat_lt s.greatest stream) s (opened stream s) s (record { kept = record { role = refl; reading = refl; failed = refl }; output = refl }) (stays s)) (here_if end stream begun)

pub out_stays : (put : Put) (s : Standing) → Kept s (out put s)
out_stays put s =
    let written : Standing = record s { output = s.output ++ octets_put s.writing put; writing = writing_behind s.writing put } in
    chain_kept s written (effect put written) (record { role = refl; reading = refl; failed = refl }) (put_effect put written).kept

-- the output has the octets of the frame behind the others
pub out_octets : (put : Put) (s : Standing) → (out put s).output ≡ s.output ++ octets_put s.writing put
out_octets put s =
    let written : Standing = record s { output = s.output ++ octets_put s.writing put; writing = writing_behind s.writing put } in
    (put_effect put written).output

by_stays : (broken : Option ℕ) (put : Put) (s : Standing) → Kept s (offered_by broken put s)
by_stays (Some code) put s = keeps s
by_stays None put s = either_kept (fits put s) s (out put s) (broke ENHANCE_YOUR_CALM s) (out_stays put s) (out_stays (goaway ENHANCE_YOUR_CALM s) s)

pub offered_stays : (put : Put) (s : Standing) → Kept s (offered put s)
offered_stays put s = by_stays s.broken put s

pub offer_all_stays : (puts : List Put) (s : Standing) → Kept s (offer_all puts s)
offer_all_stays [] s = keeps s
offer_all_stays (put ∷ puts) s = chain_kept s (offered put s) (offer_all puts (offered put s)) (offered_stays put s) (offer_all_stays puts (offered put s))

-- ---- what is read

data_stays : (verdict : Verdict) (stream : ℕ) (end : Bool) (flow : ℕ) (s : Standing) → Unmoved s (data_seen verdict stream end flow s)
data_stays (ConnectionError code) stream end flow s = stays s
data_stays (StreamError on code) stream end flow s = record { kept = record { role = refl; reading = refl; failed = refl }; output = refl }
data_stays Ignored stream end flow s = record { kept = record { role = refl; reading = refl; failed = refl }; output = refl }
data_stays Accepted stream end flow s =
    let rest : Standing = counted (counted_on s.role stream) flow s in
    chain s rest (cond end (ended_by_peer stream rest) rest) (record { kept = record { role = refl; reading = refl; failed = refl }; output = refl }) (either end rest (ended_by_peer stream rest) rest (row_peer stream (row_of stream rest.streams) rest) (stays rest))

opens_stays : (stream : ℕ) (s : Standing) → Unmoved s (headers_opens stream s)
opens_stays stream s = either (nat_lt s.greatest stream) s (opened_if_room stream s) s
    (either (nat_lt (length s.streams) OPEN_STREAMS) s (opened stream s) (record s { greatest = stream }) (record { kept = record { role = refl; reading = refl; failed = refl }; output = refl }) (record { kept = record { role = refl; reading = refl; failed = refl }; output = refl })) (stays s)

begun_stays : (block : HeaderBlock) (row : Option OpenStream) (s : Standing) → Unmoved s (begun_by_row block row s)
begun_stays block None s = stays s
begun_stays block (Some row) s =
    let begun : Standing = record s { streams = with_row (record row { begun = true }) s.streams } in
    chain s begun (cond block.end (ended_by_peer block.stream begun) begun) (record { kept = record { role = refl; reading = refl; failed = refl }; output = refl }) (either block.end begun (ended_by_peer block.stream begun) begun (row_peer block.stream (row_of block.stream begun.streams) begun) (stays begun))

list_stays : (verdict : Verdict) (block : HeaderBlock) (s : Standing) → Unmoved s (seen_by_list verdict block s)
list_stays (ConnectionError code) block s = stays s
list_stays (StreamError stream code) block s = stays s
list_stays Ignored block s = stays s
list_stays Accepted block s = begun_stays block (row_of block.stream s.streams) s

completed_stays : (read : Result Listing BlockRule) (block : HeaderBlock) (s : Standing) → Unmoved s (completed_by read block s).left
completed_stays (Err rule) block s = record { kept = record { role = refl; reading = refl; failed = refl }; output = refl }
completed_stays (Ok listing) block s =
    let decoded : Standing = record s { tables = Ok listing.table } in
    let verdict : Verdict = list_verdict s.role block listing.headers (row_wanted block s) in
    chain s decoded (seen_by_list verdict block decoded) (record { kept = record { role = refl; reading = refl; failed = refl }; output = refl }) (list_stays verdict block decoded)

whole_stays : (last : Bool) (block : HeaderBlock) (s : Standing) → Unmoved s (cond last (completed block s) (record { verdict = Ignored; headers = []; left = record s { block = Some block } })).left
whole_stays true block s = completed_stays (decoded_at s.tables block.octets) block s
whole_stays false block s = record { kept = record { role = refl; reading = refl; failed = refl }; output = refl }

left_either : (b : Bool) (x y : Completed) (s : Standing) → Unmoved s x.left → Unmoved s y.left → Unmoved s (cond b x y).left
left_either true x y s hits misses = hits
left_either false x y s hits misses = misses

fragment_stays : (last : Bool) (block : HeaderBlock) (s : Standing) → Unmoved s (fragment_read last block s).left
fragment_stays last block s = left_either (is_too_long block) (too_much s) (cond last (completed block s) (record { verdict = Ignored; headers = []; left = record s { block = Some block } })) s (stays s) (whole_stays last block s)

continuation_stays : (last : Bool) (octets : List ℕ) (block : HeaderBlock) (s : Standing) → Unmoved s (continuation_read last octets block s).left
continuation_stays last octets block s = left_either (has_all_frames block) (too_much s) (fragment_read last (block_grown octets block) s) s (stays s) (fragment_stays last (block_grown octets block) s)

headers_stay : (verdict : Verdict) (stream : ℕ) (end last : Bool) (octets : List ℕ) (s : Standing) → Unmoved s (headers_read verdict stream end last octets s).left
headers_stay verdict stream end last octets s = let t : Standing = headers_opens stream s in
    chain s t (headers_read verdict stream end last octets s).left (opens_stays stream s) (fragment_stays last (block_begun verdict stream end octets) t)

head_stays : (verdict : Verdict) (stream : ℕ) (end last : Bool) (octets : List ℕ) (s : Standing) → Unmoved s (headers_seen verdict stream end last octets s)
head_stays (ConnectionError code) stream end last octets s = stays s
head_stays (StreamError on code) stream end last octets s = headers_stay (StreamError on code) stream end last octets s
head_stays Ignored stream end last octets s = headers_stay Ignored stream end last octets s
head_stays Accepted stream end last octets s = headers_stay Accepted stream end last octets s

continued_stays : (block : Option HeaderBlock) (last : Bool) (octets : List ℕ) (s : Standing) → Unmoved s (continued_seen block last octets s)
continued_stays None last octets s = stays s
continued_stays (Some block) last octets s = let t : Standing = record s { block = None } in
    chain s t (continuation_read last octets block t).left (record { kept = record { role = refl; reading = refl; failed = refl }; output = refl }) (continuation_stays last octets block t)

reset_stays : (verdict : Verdict) (stream : ℕ) (s : Standing) → Unmoved s (reset_seen verdict stream s)
reset_stays (ConnectionError code) stream s = stays s
reset_stays (StreamError on code) stream s = stays s
reset_stays Ignored stream s = stays s
reset_stays Accepted stream s = shut_stays stream s

update_stays : (verdict : Verdict) (stream increment : ℕ) (s : Standing) → Unmoved s (update_seen verdict stream increment s)
update_stays (ConnectionError code) stream increment s = stays s
update_stays (StreamError on code) stream increment s = stays s
update_stays Ignored stream increment s = stays s
update_stays Accepted stream increment s = record { kept = record { role = refl; reading = refl; failed = refl }; output = refl }

setting_stays : (setting : Setting) (s : Standing) → Unmoved s (with_setting setting s)
setting_stays setting s = either (setting.id == HEADER_TABLE_SIZE) s (record s { writing = with_peer_limit setting.value s.writing })
    (cond (setting.id == INITIAL_WINDOW_SIZE) (record s { flow = (answer_at_setting setting.value s.flow).windows }) (cond (setting.id == MAX_CONCURRENT_STREAMS) (record s { most = setting.value }) s))
    (record { kept = record { role = refl; reading = refl; failed = refl }; output = refl })
    (either (setting.id == INITIAL_WINDOW_SIZE) s (record s { flow = (answer_at_setting setting.value s.flow).windows }) (cond (setting.id == MAX_CONCURRENT_STREAMS) (record s { most = setting.value }) s)
    (record { kept = record { role = refl; reading = refl; failed = refl }; output = refl })
    (either (setting.id == MAX_CONCURRENT_STREAMS) s (record s { most = setting.value }) s (record { kept = record { role = refl; reading = refl; failed = refl }; output = refl }) (stays s)))

settled_either : (b : Bool) (x y : Settled) (s : Standing) → Unmoved s x.left → Unmoved s y.left → Unmoved s (cond b x y).left
settled_either true x y s hits misses = hits
settled_either false x y s hits misses = misses

settled_stays : (settings : List Setting) (s : Standing) → Unmoved s (settled settings s).left
settled_stays [] s = stays s
settled_stays (setting ∷ settings) s =
    settled_either (breaks_windows setting s) (record { verdict = ConnectionError FLOW_CONTROL_ERROR; left = s }) (settled settings (with_setting setting s)) s (stays s)
    (chain s (with_setting setting s) (settled settings (with_setting setting s)).left (setting_stays setting s) (settled_stays settings (with_setting setting s)))

goaway_stays : (role : Role) (s : Standing) → Unmoved s (goaway_seen role s)
goaway_stays Server s = stays s
goaway_stays Client s = record { kept = record { role = refl; reading = refl; failed = refl }; output = refl }

pub seen_stays : (frame : Frame) (s : Standing) → Unmoved s (frame_seen frame s)
seen_stays (Content stream end octets flow) s = data_stays (data_verdict stream flow s) stream end flow s
seen_stays (Head stream end last octets) s = head_stays (headers_verdict stream s) stream end last octets s
seen_stays (Priority stream) s = stays s
seen_stays (Reset stream code) s = reset_stays (reset_verdict stream s) stream s
seen_stays (Settings settings) s = settled_stays settings s
seen_stays SettingsAck s = stays s
seen_stays (Ping ack octets) s = stays s
seen_stays (GoAway last code) s = goaway_stays s.role s
seen_stays (Update stream increment) s = update_stays (update_verdict stream increment s) stream increment s
seen_stays (Continued stream last octets) s = continued_stays s.block last octets s
seen_stays (Unknown number) s = stays s

pub read_stays : (frame : Frame) (s : Standing) → Kept s (frame_read frame s).left
read_stays frame s = chain_kept s (frame_seen frame s) (frame_read frame s).left (seen_stays frame s).kept (offer_all_stays (frame_owed frame s) (frame_seen frame s))
