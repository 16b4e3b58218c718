-- DATA that is put never passes a window, over any calls; so the windows after them are the sums over the history.
use Rattle.std.proofs.Common.{◌≡◌, ℕ, ◌≤◌, ◌<◌, Bool, true, false, cond, Option, Some, None, List, [], ◌∷◌, ◌++◌, length, refl, ap, sym, ◌∙◌, subst, arith}
use Rattle.std.specs.Prelude.{◌==◌}
use Rattle.h2_flow.specs.Windows.{Windows, may_send, first_windows}
use Rattle.h2_flow.specs.History.{AreConnectionSums, AreStreamSums}
use Rattle.h2_flow.specs.ConnectionSums.{connection_sums}
use Rattle.h2_flow.specs.StreamSums.{stream_sums}
use Rattle.h2_frames.specs.Reading.{Next, next_of}
use Rattle.h2_frames.specs.Reading.Next.{NextUnfinished, NextFrame, NextFault}
use Rattle.h2_history.specs.declared.header_block.HeaderBlock.{HeaderBlock}
use Rattle.h2_history.specs.declared.verdict.Verdict.{Verdict}
use Rattle.h2_history.specs.declared.verdict.Verdict.TheVariants.{ConnectionError, StreamError, Ignored, Accepted}
use Rattle.h2_history.specs.FlowCalls.{IsWithin, AreWithin}
use Rattle.h2_history.specs.FlowLaws.{flow_leads}
use Rattle.h2_history.specs.Frames.{frame_seen, frame_owed, headers_owed, headers_read, continued_owed, continued_read, settings_owed}
use Rattle.h2_history.specs.History.{Entry, outs, after, after_all, turn_entries, entries_by, entries_next, first_puts, new_standing}
use Rattle.h2_history.specs.History.Entry.{Fed, In, Out, Took}
use Rattle.h2_history.specs.Puts.{Put, out, fits, goaway, offered, placed, placed_by, placed_all}
use Rattle.h2_history.specs.Puts.Put.{Plain, Headers}
use Rattle.h2_history.specs.RunLaws.{after_joined, step_stands, run_stands}
use Rattle.h2_history.specs.Runs.{Offered, puts_of, Call, Step, IsRun, quiet_entries, data_put}
use Rattle.h2_history.specs.Runs.Call.{Feed, Report, Rest, Offer, Send, Take}
use Rattle.h2_history.specs.Runs.Offered.{HeaderList, EndOfStream, ResetOfStream, OctetsBack}
use Rattle.h2_history.specs.Sending.{stream_update}
use Rattle.h2_history.specs.Settings.{settled}
use Rattle.h2_history.specs.Standing.{Standing, may_put, first_standing}
use Rattle.h2_history.specs.Verdicts.{owed, update_due, data_verdict, headers_verdict, reset_verdict, update_verdict}
use Rattle.h2_layouts.specs.declared.code.TheConstants.{ENHANCE_YOUR_CALM}
use Rattle.h2_layouts.specs.declared.frame.Frame.{Frame}
use Rattle.h2_layouts.specs.declared.frame.Frame.TheVariants.{Content, Head, Priority, Reset, Settings, SettingsAck, Ping, GoAway, Update, Continued, Unknown}
use Rattle.h2_layouts.specs.declared.role.Role.{Role}
use Rattle.h2_layouts.specs.declared.role.Role.TheVariants.{Server, Client}
use Rattle.stream_table.specs.Rows.{is_open}
use Rattle.stream_laws.specs.NoData.{HasNoData, HaveNoData, PutsNoData, IsNoSend}
use Rattle.stream_laws.specs.Windows.{window_calls}

-- ---- what is put in answer has no octet of DATA

either_none : (b : Bool) (puts others : List Put) → HaveNoData puts → HaveNoData others → HaveNoData (cond b puts others)
either_none true puts others hits misses = hits
either_none false puts others hits misses = misses

both_none : (puts others : List Put) → HaveNoData puts → HaveNoData others → HaveNoData (puts ++ others)
both_none [] others one other = other
both_none (put ∷ puts) others one other = (one.0, both_none puts others one.1 other)

placed_one : (broken : Option ℕ) (put : Put) (s : Standing) → HasNoData put → HaveNoData (placed_by broken put s)
placed_one (Some code) put s none = tt
placed_one None put s none = either_none (fits put s) (put ∷ []) (goaway ENHANCE_YOUR_CALM s ∷ []) (none, tt) (tt, tt)

placed_none : (puts : List Put) (s : Standing) → HaveNoData puts → HaveNoData (placed_all puts s)
placed_none [] s none = tt
placed_none (put ∷ puts) s none = both_none (placed put s) (placed_all puts (offered put s)) (placed_one s.broken put s none.0) (placed_none puts (offered put s) none.1)

update_none : (flow : ℕ) → HaveNoData (update_due flow)
update_none flow = either_none (flow == 0) [] (Plain (Update 0 flow) ∷ []) tt (tt, tt)

owed_none : (verdict : Verdict) (flow : ℕ) (s : Standing) → HaveNoData (owed verdict flow s)
owed_none (ConnectionError code) flow s = (tt, tt)
owed_none (StreamError stream code) flow s = (tt, update_none flow)
owed_none Ignored flow s = update_none flow
owed_none Accepted flow s = tt

headers_none : (verdict : Verdict) (stream : ℕ) (end last : Bool) (octets : List ℕ) (s : Standing) → HaveNoData (headers_owed verdict stream end last octets s)
headers_none (ConnectionError code) stream end last octets s = (tt, tt)
headers_none (StreamError on code) stream end last octets s = let read = headers_read (StreamError on code) stream end last octets s in
    both_none (owed (StreamError on code) 0 read.left) (owed read.verdict 0 read.left) (owed_none (StreamError on code) 0 read.left) (owed_none read.verdict 0 read.left)
headers_none Ignored stream end last octets s = let read = headers_read Ignored stream end last octets s in
    both_none (owed Ignored 0 read.left) (owed read.verdict 0 read.left) (owed_none Ignored 0 read.left) (owed_none read.verdict 0 read.left)
headers_none Accepted stream end last octets s = let read = headers_read Accepted stream end last octets s in
    both_none (owed Accepted 0 read.left) (owed read.verdict 0 read.left) (owed_none Accepted 0 read.left) (owed_none read.verdict 0 read.left)

continued_none : (block : Option HeaderBlock) (last : Bool) (octets : List ℕ) (s : Standing) → HaveNoData (continued_owed block last octets s)
continued_none None last octets s = tt
continued_none (Some block) last octets s = let read = continued_read last octets block s in owed_none read.verdict 0 read.left

settings_none : (verdict : Verdict) (s : Standing) → HaveNoData (settings_owed (record { verdict = verdict; left = s }))
settings_none (ConnectionError code) s = (tt, tt)
settings_none (StreamError stream code) s = tt
settings_none Ignored s = tt
settings_none Accepted s = (tt, tt)

ping_none : (ack : Bool) (octets : List ℕ) (s : Standing) → HaveNoData (frame_owed (Ping ack octets) s)
ping_none true octets s = tt
ping_none false octets s = (tt, tt)

frame_none : (frame : Frame) (s : Standing) → HaveNoData (frame_owed frame s)
frame_none (Content stream end octets flow) s = owed_none (data_verdict stream flow s) flow (frame_seen (Content stream end octets flow) s)
frame_none (Head stream end last octets) s = headers_none (headers_verdict stream s) stream end last octets s
frame_none (Priority stream) s = tt
frame_none (Reset stream code) s = owed_none (reset_verdict stream s) 0 (frame_seen (Reset stream code) s)
frame_none (Settings settings) s = settings_none (settled settings s).verdict (settled settings s).left
frame_none SettingsAck s = tt
frame_none (Ping ack octets) s = ping_none ack octets s
frame_none (GoAway last code) s = tt
frame_none (Update stream increment) s = owed_none (update_verdict stream increment s) 0 (frame_seen (Update stream increment) s)
frame_none (Continued stream last octets) s = continued_none s.block last octets s
frame_none (Unknown number) s = tt

-- ---- entries

outs_none : (puts : List Put) → HaveNoData puts → PutsNoData (outs puts)
outs_none [] none = tt
outs_none (put ∷ puts) none = (none.0, outs_none puts none.1)

entries_none : (first rest : List Entry) → PutsNoData first → PutsNoData rest → PutsNoData (first ++ rest)
entries_none [] rest one other = other
entries_none (Fed octets ∷ first) rest one other = entries_none first rest one other
entries_none (In frame ∷ first) rest one other = entries_none first rest one other
entries_none (Out put ∷ first) rest one other = (one.0, entries_none first rest one.1 other)
entries_none (Took octets ∷ first) rest one other = entries_none first rest one other

next_none : (next : Next) (s : Standing) → PutsNoData (entries_next next s)
next_none NextUnfinished s = tt
next_none (NextFault code) s = (tt, tt)
next_none (NextFrame frame reading) s = let t : Standing = record s { reading = reading } in
    outs_none (placed_all (frame_owed frame t) (frame_seen frame t)) (placed_none (frame_owed frame t) (frame_seen frame t) (frame_none frame t))

by_none : (broken : Option ℕ) (s : Standing) → PutsNoData (entries_by broken s)
by_none (Some code) s = tt
by_none None s = next_none (next_of s.reading) s

quiet_none : (turns : List Standing) (s : Standing) → PutsNoData (quiet_entries s turns)
quiet_none [] s = tt
quiet_none (next ∷ turns) s = entries_none (turn_entries s) (quiet_entries next turns) (by_none s.broken s) (quiet_none turns next)

-- ---- none is within any window

empty_within : (stream : ℕ) (octets : List ℕ) (s : Standing) → octets ≡ [] → length octets ≤ may_send stream s.flow
empty_within stream octets s none = omega (arith, ap length none)

put_within : (put : Put) (s : Standing) → HasNoData put → IsWithin put s
put_within (Plain (Content stream end octets flow)) s none = empty_within stream octets s none
put_within (Plain (Head stream end last octets)) s none = tt
put_within (Plain (Priority stream)) s none = tt
put_within (Plain (Reset stream code)) s none = tt
put_within (Plain (Settings pairs)) s none = tt
put_within (Plain SettingsAck) s none = tt
put_within (Plain (Ping ack octets)) s none = tt
put_within (Plain (GoAway last code)) s none = tt
put_within (Plain (Update stream increment)) s none = tt
put_within (Plain (Continued stream last octets)) s none = tt
put_within (Plain (Unknown number)) s none = tt
put_within (Headers stream end headers) s none = tt

none_within : (entries : List Entry) (s : Standing) → PutsNoData entries → AreWithin entries s
none_within [] s none = tt
none_within (Fed octets ∷ entries) s none = none_within entries (after (Fed octets) s) none
none_within (In frame ∷ entries) s none = none_within entries (after (In frame) s) none
none_within (Out put ∷ entries) s none = (put_within put s none.0, none_within entries (out put s) none.1)
none_within (Took octets ∷ entries) s none = none_within entries (after (Took octets) s) none

within_joined : (first rest : List Entry) (s : Standing) → AreWithin first s → AreWithin rest (after_all first s) → AreWithin (first ++ rest) s
within_joined [] rest s one other = other
within_joined (Fed octets ∷ first) rest s one other = within_joined first rest (after (Fed octets) s) one other
within_joined (In frame ∷ first) rest s one other = within_joined first rest (after (In frame) s) one other
within_joined (Out put ∷ first) rest s one other = (one.0, within_joined first rest (out put s) one.1 other)
within_joined (Took octets ∷ first) rest s one other = within_joined first rest (after (Took octets) s) one other

-- ---- calls

within_at : (entries others : List Entry) (s : Standing) → entries ≡ others → AreWithin others s → AreWithin entries s
within_at entries others s e within = subst (λ (l : List Entry). AreWithin l s) (sym e) within

least_within : (n stream : ℕ) (s : Standing) → n ≤ may_put stream s → n ≤ may_send stream s.flow
least_within n stream s within = omega (arith, within)

report_none : (turns : List Standing) (old last : Standing) → PutsNoData (quiet_entries old turns ++ turn_entries last)
report_none turns old last = entries_none (quiet_entries old turns) (turn_entries last) (quiet_none turns old) (by_none last.broken last)

given_none : (role : Role) (is_it_open : Bool) (stream octets : ℕ) → HaveNoData (stream_update role is_it_open stream octets ++ Plain (Update 0 octets) ∷ [])
given_none Server is_it_open stream octets = (tt, tt)
given_none Client true stream octets = (tt, (tt, tt))
given_none Client false stream octets = (tt, tt)

offer_none : (offer : Offered) (s : Standing) → HaveNoData (puts_of offer s)
offer_none (HeaderList stream end headers) s = (tt, tt)
offer_none (EndOfStream stream) s = (refl, tt)
offer_none (ResetOfStream stream code) s = (tt, tt)
offer_none (OctetsBack stream octets) s = given_none s.role (is_open stream s.streams) stream octets

none_at : (entries others : List Entry) → entries ≡ others → PutsNoData others → PutsNoData entries
none_at entries others e none = subst (λ (l : List Entry). PutsNoData l) (sym e) none

-- no octet of DATA is put but by `poll_send`
pub step_none : (call : Call) (old : Standing) (entries : List Entry) (new : Standing) → IsNoSend call → Step old call entries new → PutsNoData entries
step_none (Feed octets) old entries new other step = none_at entries (Fed octets ∷ []) step.0 tt
step_none (Report event) old entries new other step =
    none_at entries (quiet_entries old step.0.reaches.turns ++ turn_entries step.0.last) step.1 (report_none step.0.reaches.turns old step.0.last)
step_none Rest old entries new other step = none_at entries (quiet_entries old step.0.reaches.turns) step.1 (quiet_none step.0.reaches.turns old)
step_none (Offer offer) old entries new other step =
    none_at entries (outs (placed_all (puts_of offer old) old)) step.0 (outs_none (placed_all (puts_of offer old) old) (placed_none (puts_of offer old) old (offer_none offer old)))
step_none (Send stream octets) old entries new other step = absurd other
step_none (Take octets) old entries new other step = none_at entries (Took octets ∷ []) step.0 tt

step_within : (call : Call) (old : Standing) (entries : List Entry) (new : Standing) → Step old call entries new → AreWithin entries old
step_within (Send stream octets) old entries new step = within_at entries (Out (data_put stream octets) ∷ []) old step.0 (least_within (length octets) stream old step.1, tt)
step_within (Feed octets) old entries new step = none_within entries old (step_none (Feed octets) old entries new tt step)
step_within (Report event) old entries new step = none_within entries old (step_none (Report event) old entries new tt step)
step_within Rest old entries new step = none_within entries old (step_none Rest old entries new tt step)
step_within (Offer offer) old entries new step = none_within entries old (step_none (Offer offer) old entries new tt step)
step_within (Take octets) old entries new step = none_within entries old (step_none (Take octets) old entries new tt step)

pub run_within : (calls : List Call) (old : Standing) (entries : List Entry) (new : Standing) → IsRun old calls entries new → AreWithin entries old
run_within [] old entries new run = within_at entries [] old run.0 tt
run_within (call ∷ calls) old entries new run =
    within_at entries (run.first ++ run.rest) old run.joined
    (within_joined run.first run.rest old (step_within call old run.first run.between run.step)
    (subst (λ (s : Standing). AreWithin run.rest s) (step_stands call old run.first run.between run.step) (run_within calls run.between run.rest new run.others)))

-- ---- from the beginning of a connection

first_none : (role : Role) → PutsNoData (outs (first_puts role))
first_none Server = (tt, (tt, tt))
first_none Client = (tt, tt)

first_flow : (role : Role) → (first_standing role).flow ≡ first_windows
first_flow Server = refl
first_flow Client = refl

all_within : (role : Role) (calls : List Call) (entries : List Entry) (new : Standing) → IsRun (new_standing role) calls entries new → AreWithin (outs (first_puts role) ++ entries) (first_standing role)
all_within role calls entries new run =
    within_joined (outs (first_puts role)) entries (first_standing role) (none_within (outs (first_puts role)) (first_standing role) (first_none role)) (run_within calls (new_standing role) entries new run)

all_lead : (role : Role) (calls : List Call) (entries : List Entry) (new : Standing) → IsRun (new_standing role) calls entries new
    → Rattle.h2_flow.specs.History.IsRun first_windows (window_calls role entries) new.flow
all_lead role calls entries new run =
    let all : List Entry = outs (first_puts role) ++ entries in
    let stands : after_all all (first_standing role) ≡ new = after_joined (outs (first_puts role)) entries (first_standing role) ∙ sym (run_stands calls (new_standing role) entries new run) in
    subst (λ (w : Windows). Rattle.h2_flow.specs.History.IsRun w (window_calls role entries) new.flow) (first_flow role)
    (subst (λ (s : Standing). Rattle.h2_flow.specs.History.IsRun (first_standing role).flow (window_calls role entries) s.flow) stands (flow_leads all (first_standing role) (all_within role calls entries new run)))

pub connection_windows : (role : Role) (calls : List Call) (entries : List Entry) (new : Standing) → IsRun (new_standing role) calls entries new → AreConnectionSums (window_calls role entries) new.flow
connection_windows role calls entries new run = connection_sums new.flow (window_calls role entries) (all_lead role calls entries new run)

pub stream_windows : (role : Role) (calls : List Call) (entries : List Entry) (new : Standing) (stream : ℕ) → 0 < stream → IsRun (new_standing role) calls entries new → AreStreamSums stream (window_calls role entries) new.flow
stream_windows role calls entries new stream some run = stream_sums new.flow (window_calls role entries) stream some (all_lead role calls entries new run)
