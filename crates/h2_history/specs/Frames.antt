-- What a frame that is read does: how the connection stands then, what is put in answer, what is reported of it.
use Rattle.std.specs.Prelude.{ℕ, nat_lt, Bool, true, false, Option, Some, None, List, [], ◌∷◌, ◌++◌, length, if◌then◌else◌}
use Rattle.h2_flow.specs.declared.limits.TheConstants.{OPEN_STREAMS}
use Rattle.h2_flow.specs.Windows.{answer_at_receipt, answer_at_update}
use Rattle.h2_history.specs.declared.event.CallEvent.{CallEvent}
use Rattle.h2_history.specs.declared.event.CallEvent.TheVariants as events
use Rattle.h2_history.specs.declared.header_block.HeaderBlock.{HeaderBlock}
use Rattle.h2_history.specs.declared.verdict.Verdict.{Verdict}
use Rattle.h2_history.specs.declared.verdict.Verdict.TheVariants.{ConnectionError, StreamError, Ignored, Accepted}
use Rattle.h2_history.specs.Blocks.{Completed, block_begun, fragment_read, continuation_read}
use Rattle.h2_history.specs.Puts.{Put, shut, opened, ended_by_peer, goaway, offer_all}
use Rattle.h2_history.specs.Puts.Put.{Plain}
use Rattle.h2_history.specs.Settings.{Settled, settled}
use Rattle.h2_history.specs.Standing.{Standing}
use Rattle.h2_history.specs.Verdicts.{counted_on, data_verdict, headers_verdict, reset_verdict, update_verdict, owed, reported}
use Rattle.h2_layouts.specs.declared.frame.Frame.{Frame}
use Rattle.h2_layouts.specs.declared.frame.Frame.TheVariants.{Content, Head, Reset, Settings, SettingsAck, Ping, GoAway, Update, Continued}
use Rattle.h2_layouts.specs.declared.role.Role.{Role}
use Rattle.h2_layouts.specs.declared.role.Role.TheVariants.{Server, Client}

-- all three together
pub record Outcome : Type 0 where
  pub left : Standing
  pub event : Option CallEvent

-- what is left when all that is owed was offered
abbrev pub answered : Verdict → ℕ → Option CallEvent → Standing → Outcome
answered verdict flow event s = record { left = offer_all (owed verdict flow s) s; event = reported verdict event }

-- ---- DATA: counted on the connection in any case, on the stream where it is accepted

abbrev pub counted : ℕ → ℕ → Standing → Standing
counted stream flow s = record s { flow = (answer_at_receipt stream flow s.flow).windows }

abbrev pub data_seen : Verdict → ℕ → Bool → ℕ → Standing → Standing
data_seen (ConnectionError code) stream end flow s = s
data_seen (StreamError _ code) stream end flow s = counted 0 flow s
data_seen Ignored stream end flow s = counted 0 flow s
data_seen Accepted stream end flow s = let rest : Standing = counted (counted_on s.role stream) flow s in if end then ended_by_peer stream rest else rest

-- ---- HEADERS and CONTINUATION

-- a stream is opened before its header block is whole, also one that is refused
abbrev pub opened_if_room : ℕ → Standing → Standing
opened_if_room stream s = if nat_lt (length s.streams) OPEN_STREAMS then opened stream s else record s { greatest = stream }

abbrev pub headers_opens : ℕ → Standing → Standing
headers_opens stream s = if nat_lt s.greatest stream then opened_if_room stream s else s

abbrev pub headers_read : Verdict → ℕ → Bool → Bool → List ℕ → Standing → Completed
headers_read verdict stream end last octets s = fragment_read last (block_begun verdict stream end octets) (headers_opens stream s)

abbrev pub headers_seen : Verdict → ℕ → Bool → Bool → List ℕ → Standing → Standing
headers_seen (ConnectionError code) stream end last octets s = s
headers_seen verdict stream end last octets s = (headers_read verdict stream end last octets s).left

-- what the frame breaks on its stream is answered first, then what the block breaks
abbrev pub headers_owed : Verdict → ℕ → Bool → Bool → List ℕ → Standing → List Put
headers_owed (ConnectionError code) stream end last octets s = owed (ConnectionError code) 0 s
headers_owed verdict stream end last octets s = let read = headers_read verdict stream end last octets s in owed verdict 0 read.left ++ owed read.verdict 0 read.left

abbrev pub list_reported : ℕ → Bool → Completed → Option CallEvent
list_reported stream end read = reported read.verdict (Some (events.Head stream read.headers end))

abbrev pub headers_reported : Verdict → ℕ → Bool → Bool → List ℕ → Standing → Option CallEvent
headers_reported (ConnectionError code) stream end last octets s = None
headers_reported (StreamError on code) stream end last octets s = Some (events.Reset on code)
headers_reported verdict stream end last octets s = list_reported stream end (headers_read verdict stream end last octets s)

-- CONTINUATION of the block that is not whole
abbrev pub continued_read : Bool → List ℕ → HeaderBlock → Standing → Completed
continued_read last octets block s = continuation_read last octets block (record s { block = None })

abbrev pub continued_seen : Option HeaderBlock → Bool → List ℕ → Standing → Standing
continued_seen None last octets s = s
continued_seen (Some block) last octets s = (continued_read last octets block s).left

abbrev pub continued_owed : Option HeaderBlock → Bool → List ℕ → Standing → List Put
continued_owed None last octets s = []
continued_owed (Some block) last octets s = let read = continued_read last octets block s in owed read.verdict 0 read.left

abbrev pub continued_reported : Option HeaderBlock → Bool → List ℕ → Standing → Option CallEvent
continued_reported None last octets s = None
continued_reported (Some block) last octets s = list_reported block.stream block.end (continued_read last octets block s)

abbrev pub continued_outcome : Bool → List ℕ → Standing → Outcome
continued_outcome last octets s = record { left = offer_all (continued_owed s.block last octets s) (continued_seen s.block last octets s); event = continued_reported s.block last octets s }

-- ---- RST_STREAM, WINDOW_UPDATE, SETTINGS, GOAWAY

abbrev pub reset_seen : Verdict → ℕ → Standing → Standing
reset_seen Accepted stream s = shut stream s
reset_seen verdict stream s = s

abbrev pub update_seen : Verdict → ℕ → ℕ → Standing → Standing
update_seen Accepted stream increment s = record s { flow = (answer_at_update stream increment s.flow).windows }
update_seen verdict stream increment s = s

-- SETTINGS and PING are answered at once
abbrev pub settings_owed : Settled → List Put
settings_owed settled = elim settled.verdict [
  | ConnectionError code ↦ goaway code settled.left ∷ []
  | StreamError stream code ↦ []
  | Ignored ↦ []
  | Accepted ↦ Plain SettingsAck ∷ []
]

-- a server goes on after a GOAWAY, a client opens no further stream
abbrev pub goaway_seen : Role → Standing → Standing
goaway_seen Server s = s
goaway_seen Client s = record s { away = true }

-- ---- any frame

abbrev pub frame_seen : Frame → Standing → Standing
frame_seen (Content stream end octets flow) s = data_seen (data_verdict stream flow s) stream end flow s
frame_seen (Head stream end last octets) s = headers_seen (headers_verdict stream s) stream end last octets s
frame_seen (Reset stream code) s = reset_seen (reset_verdict stream s) stream s
frame_seen (Settings settings) s = (settled settings s).left
frame_seen (GoAway last code) s = goaway_seen s.role s
frame_seen (Update stream increment) s = update_seen (update_verdict stream increment s) stream increment s
frame_seen (Continued stream last octets) s = continued_seen s.block last octets s
frame_seen frame s = s

abbrev pub frame_owed : Frame → Standing → List Put
frame_owed (Content stream end octets flow) s = owed (data_verdict stream flow s) flow (frame_seen (Content stream end octets flow) s)
frame_owed (Head stream end last octets) s = headers_owed (headers_verdict stream s) stream end last octets s
frame_owed (Reset stream code) s = owed (reset_verdict stream s) 0 (frame_seen (Reset stream code) s)
frame_owed (Settings settings) s = settings_owed (settled settings s)
frame_owed (Ping false octets) s = Plain (Ping true octets) ∷ []
frame_owed (Update stream increment) s = owed (update_verdict stream increment s) 0 (frame_seen (Update stream increment) s)
frame_owed (Continued stream last octets) s = continued_owed s.block last octets s
frame_owed frame s = []

abbrev pub frame_reported : Frame → Standing → Option CallEvent
frame_reported (Content stream end octets flow) s = reported (data_verdict stream flow s) (Some (events.Part stream octets flow end))
frame_reported (Head stream end last octets) s = headers_reported (headers_verdict stream s) stream end last octets s
frame_reported (Reset stream code) s = reported (reset_verdict stream s) (Some (events.Reset stream code))
frame_reported (Update stream increment) s = reported (update_verdict stream increment s) None
frame_reported (Continued stream last octets) s = continued_reported s.block last octets s
frame_reported frame s = None

-- what is owed is put once all of the frame was seen
abbrev pub frame_read : Frame → Standing → Outcome
frame_read frame s = record { left = offer_all (frame_owed frame s) (frame_seen frame s); event = frame_reported frame s }
