-- What a reader of frames holds, and the next thing that it answers, computed.
use Rattle.std.specs.Prelude.{◌≡◌, ◌≢◌, ℕ, ◌+◌, List, [], ◌++◌, take, drop, Result, Ok, Err}
use Rattle.esi_base.specs.declared.poll.Poll.{Poll}
use Rattle.esi_base.specs.declared.poll.Poll.TheVariants.{Ready, Pending}
use Rattle.h2_layouts.specs.Contexts.{new_context, context_after}
use Rattle.h2_layouts.specs.declared.context.FrameContext.{FrameContext}
use Rattle.h2_layouts.specs.declared.frame.Frame.{Frame}
use Rattle.h2_layouts.specs.declared.role.Role.{Role}
use Rattle.h2_layouts.specs.declared.rule.FrameRule.{FrameRule}
use Rattle.h2_layouts.specs.PayloadReading.{frame_of}
use Rattle.h2_layouts.specs.Rules.{code_of}
use Rattle.h2_frames.specs.declared.front.Front.{Front}
use Rattle.h2_frames.specs.declared.front.Front.TheVariants.{Whole, Broken, Unfinished}
use Rattle.h2_frames.specs.declared.reader.FrameStop.{FrameStop}
use Rattle.h2_frames.specs.declared.reader.FrameStop.TheVariants.{Fault, NoMemory}
use Rattle.h2_frames.specs.Front.{front_of}

-- where the next frame stands, and the octets that were fed and not yet given
pub record Reading : Type 0 where
  pub context : FrameContext
  pub unread : List ℕ

abbrev pub new_reading : Role → Reading
new_reading role = record { context = new_context role; unread = [] }

-- the octets stand after those that were fed before
abbrev pub fed_with : List ℕ → Reading → Reading
fed_with octets reading = record { context = reading.context; unread = reading.unread ++ octets }

-- what comes next: nothing yet, a frame, with what the reader holds after it, or the end by an error code
pub data Next : Type 0 where
  NextUnfinished : Next
  NextFrame : (frame : Frame) (new : Reading) → Next
  NextFault : (code : ℕ) → Next

-- the reader after a frame that ends with so many octets
abbrev pub after_frame : Reading → Frame → ℕ → Reading
after_frame old frame count = record { context = context_after old.context frame; unread = drop count old.unread }

abbrev pub next_of_payload : Reading → ℕ → Result Frame FrameRule → Next
next_of_payload old count (Ok frame) = NextFrame frame (after_frame old frame count)
next_of_payload old count (Err rule) = NextFault (code_of rule)

abbrev pub next_of_front : Reading → Front → Next
next_of_front old Unfinished = NextUnfinished
next_of_front old (Broken rule) = NextFault (code_of rule)
next_of_front old (Whole header from) =
    next_of_payload old (from + header.length) (frame_of old.context.role header (take header.length (drop from old.unread)))

abbrev pub next_of : Reading → Next
next_of old = next_of_front old (front_of old.context old.unread)

-- ---- what the code answers against this

abbrev pub Answer : Type 0
Answer = Poll (Result Frame FrameStop)

-- a fault reports the code; memory runs out only where something comes
abbrev pub StopsWith : FrameStop → Next → Type 0
StopsWith (Fault code) next = next ≡ NextFault code
StopsWith NoMemory next = next ≢ NextUnfinished

-- the answer is what comes next, unless memory ran out, and nothing changes where it is no frame
abbrev pub Answers : Answer → Reading → Reading → Next → Type 0
Answers (Ready (Ok frame)) old new next = next ≡ NextFrame frame new
Answers (Ready (Err stop)) old new next = StopsWith stop next × (new ≡ old)
Answers Pending old new next = (next ≡ NextUnfinished) × (new ≡ old)

-- the same for a payload that was read so
abbrev pub Takes : Result Frame FrameStop → Reading → Reading → ℕ → Result Frame FrameRule → Type 0
Takes answer old new count reading = Answers (Ready answer) old new (next_of_payload old count reading)

-- where a payload stands, something comes
pub payload_comes : (old : Reading) (count : ℕ) (reading : Result Frame FrameRule) → next_of_payload old count reading ≢ NextUnfinished
payload_comes old count (Ok frame) e = cc e
payload_comes old count (Err rule) e = cc e

-- ---- answers in words

-- where it is a frame, this is true of it
abbrev pub IfFrame : Answer → (Frame → Type 0) → Type 0
IfFrame (Ready (Ok frame)) P = P frame
IfFrame (Ready (Err stop)) P = Unit {0}
IfFrame Pending P = Unit {0}

-- where it is no frame, this is true
abbrev pub OnNoFrame : Answer → Type 0 → Type 0
OnNoFrame (Ready (Ok frame)) P = Unit {0}
OnNoFrame (Ready (Err stop)) P = P
OnNoFrame Pending P = P

abbrev pub IsFaultWith : ℕ → Answer → Type 0
IsFaultWith code answer = answer ≡ Ready (Err (Fault code))

abbrev pub IsNoMemory : Answer → Type 0
IsNoMemory answer = answer ≡ Ready (Err NoMemory)

abbrev pub IsPending : Answer → Type 0
IsPending answer = answer ≡ Pending

-- the frame was given, and the reader is the one after it, unless memory ran out
abbrev pub IsHandedOut : Frame → Reading → Answer → Reading → Type 0
IsHandedOut frame following (Ready (Ok given)) new = (given ≡ frame) × (new ≡ following)
IsHandedOut frame following (Ready (Err (Fault code))) new = ⊥
IsHandedOut frame following (Ready (Err NoMemory)) new = Unit {0}
IsHandedOut frame following Pending new = ⊥
