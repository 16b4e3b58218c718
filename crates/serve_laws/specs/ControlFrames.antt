-- What a connection puts while it reads is neither DATA nor HEADERS.
use Rattle.std.proofs.Common.{ℕ, ◌==◌, cond, Bool, true, false, Option, Some, None, List, [], ◌∷◌, ◌++◌}
use Rattle.h2_frames.specs.Reading.{Next, next_of}
use Rattle.h2_frames.specs.Reading.Next.{NextUnfinished, NextFrame, NextFault}
use Rattle.h2_history.specs.declared.header_block.HeaderBlock.{HeaderBlock}
use Rattle.h2_history.specs.declared.verdict.Verdict.{Verdict}
use Rattle.h2_history.specs.declared.verdict.Verdict.TheVariants.{ConnectionError, StreamError, Ignored, Accepted}
use Rattle.h2_history.specs.Frames.{frame_seen, frame_owed, headers_read, headers_owed, continued_read, continued_owed, settings_owed}
use Rattle.h2_history.specs.History.{outs, turn_entries, entries_by, entries_next}
use Rattle.h2_history.specs.Puts.{Put, goaway, fits, placed, placed_by, placed_all, offered}
use Rattle.h2_history.specs.Puts.Put.{Plain, Headers}
use Rattle.h2_history.specs.Settings.{settled}
use Rattle.h2_history.specs.Standing.{Standing}
use Rattle.h2_history.specs.Verdicts.{data_verdict, headers_verdict, reset_verdict, update_verdict, update_due, owed}
use Rattle.h2_layouts.specs.declared.code.TheConstants.{ENHANCE_YOUR_CALM}
use Rattle.h2_layouts.specs.declared.frame.Frame.{Frame}
use Rattle.h2_layouts.specs.declared.frame.Frame.TheVariants.{Content, Head, Priority, Reset, Settings, SettingsAck, Ping, GoAway, Update, Continued, Unknown}
use Rattle.serve_laws.specs.Wire.{puts_in}

-- each of them
abbrev pub Each : (Put → Type 0) → List Put → Type 0
Each P [] = Unit {0}
Each P (put ∷ puts) = P put × Each P puts

abbrev pub IsControl : Put → Type 0
IsControl (Plain (Content stream end octets flow)) = ⊥
IsControl (Plain frame) = Unit {0}
IsControl (Headers stream end headers) = ⊥

module _ (P : Put → Type 0) where
  pub either_each : (b : Bool) (puts others : List Put) → Each P puts → Each P others → Each P (cond b puts others)
  either_each true puts others hits misses = hits
  either_each false puts others hits misses = misses

  pub both_each : (puts others : List Put) → Each P puts → Each P others → Each P (puts ++ others)
  both_each [] others one other = other
  both_each (put ∷ puts) others one other = (one.0, both_each puts others one.1 other)

  -- what is put of frames that are offered is these, or GOAWAY
  module _ (goaway_is : (code : ℕ) (s : Standing) → P (goaway code s)) where
    placed_one : (broken : Option ℕ) (put : Put) (s : Standing) → P put → Each P (placed_by broken put s)
    placed_one (Some code) put s is = tt
    placed_one None put s is = either_each (fits put s) (put ∷ []) (goaway ENHANCE_YOUR_CALM s ∷ []) (is, tt) (goaway_is ENHANCE_YOUR_CALM s, tt)

    pub placed_each : (puts : List Put) (s : Standing) → Each P puts → Each P (placed_all puts s)
    placed_each [] s is = tt
    placed_each (put ∷ puts) s is = both_each (placed put s) (placed_all puts (offered put s)) (placed_one s.broken put s is.0) (placed_each puts (offered put s) is.1)

pub update_control : (flow : ℕ) → Each IsControl (update_due flow)
update_control flow = either_each IsControl (flow == 0) [] (Plain (Update 0 flow) ∷ []) tt (tt, tt)

owed_control : (verdict : Verdict) (flow : ℕ) (s : Standing) → Each IsControl (owed verdict flow s)
owed_control (ConnectionError code) flow s = (tt, tt)
owed_control (StreamError stream code) flow s = (tt, update_control flow)
owed_control Ignored flow s = update_control flow
owed_control Accepted flow s = tt

headers_control : (verdict : Verdict) (stream : ℕ) (end last : Bool) (octets : List ℕ) (s : Standing) → Each IsControl (headers_owed verdict stream end last octets s)
headers_control (ConnectionError code) stream end last octets s = (tt, tt)
headers_control (StreamError on code) stream end last octets s = let read = headers_read (StreamError on code) stream end last octets s in
    both_each IsControl (owed (StreamError on code) 0 read.left) (owed read.verdict 0 read.left) (owed_control (StreamError on code) 0 read.left) (owed_control read.verdict 0 read.left)
headers_control Ignored stream end last octets s = let read = headers_read Ignored stream end last octets s in
    both_each IsControl (owed Ignored 0 read.left) (owed read.verdict 0 read.left) (owed_control Ignored 0 read.left) (owed_control read.verdict 0 read.left)
headers_control Accepted stream end last octets s = let read = headers_read Accepted stream end last octets s in
    both_each IsControl (owed Accepted 0 read.left) (owed read.verdict 0 read.left) (owed_control Accepted 0 read.left) (owed_control read.verdict 0 read.left)

continued_control : (block : Option HeaderBlock) (last : Bool) (octets : List ℕ) (s : Standing) → Each IsControl (continued_owed block last octets s)
continued_control None last octets s = tt
continued_control (Some block) last octets s = let read = continued_read last octets block s in owed_control read.verdict 0 read.left

settings_control : (verdict : Verdict) (s : Standing) → Each IsControl (settings_owed (record { verdict = verdict; left = s }))
settings_control (ConnectionError code) s = (tt, tt)
settings_control (StreamError stream code) s = tt
settings_control Ignored s = tt
settings_control Accepted s = (tt, tt)

ping_control : (ack : Bool) (octets : List ℕ) (s : Standing) → Each IsControl (frame_owed (Ping ack octets) s)
ping_control true octets s = tt
ping_control false octets s = (tt, tt)

frame_control : (frame : Frame) (s : Standing) → Each IsControl (frame_owed frame s)
frame_control (Content stream end octets flow) s = owed_control (data_verdict stream flow s) flow (frame_seen (Content stream end octets flow) s)
frame_control (Head stream end last octets) s = headers_control (headers_verdict stream s) stream end last octets s
frame_control (Priority stream) s = tt
frame_control (Reset stream code) s = owed_control (reset_verdict stream s) 0 (frame_seen (Reset stream code) s)
frame_control (Settings settings) s = settings_control (settled settings s).verdict (settled settings s).left
frame_control SettingsAck s = tt
frame_control (Ping ack octets) s = ping_control ack octets s
frame_control (GoAway last code) s = tt
frame_control (Update stream increment) s = owed_control (update_verdict stream increment s) 0 (frame_seen (Update stream increment) s)
frame_control (Continued stream last octets) s = continued_control s.block last octets s
frame_control (Unknown number) s = tt

pub outs_each : (P : Put → Type 0) (puts : List Put) → Each P puts → Each P (puts_in (outs puts))
outs_each P [] is = tt
outs_each P (put ∷ puts) is = (is.0, outs_each P puts is.1)

next_control : (next : Next) (s : Standing) → Each IsControl (puts_in (entries_next next s))
next_control NextUnfinished s = tt
next_control (NextFault code) s = (tt, tt)
next_control (NextFrame frame reading) s =
    let t : Standing = record s { reading = reading } in
    outs_each IsControl (placed_all (frame_owed frame t) (frame_seen frame t)) (placed_each IsControl (λ code u. tt) (frame_owed frame t) (frame_seen frame t) (frame_control frame t))

by_control : (broken : Option ℕ) (s : Standing) → Each IsControl (puts_in (entries_by broken s))
by_control None s = next_control (next_of s.reading) s
by_control (Some code) s = tt

pub turn_control : (s : Standing) → Each IsControl (puts_in (turn_entries s))
turn_control s = by_control s.broken s
