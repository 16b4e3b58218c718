-- The history of a connection, and how the connection stands after it.
use Rattle.std.specs.Prelude.{◌≡◌, ℕ, ◌-◌, Option, Some, None, List, [], ◌∷◌, drop, map}
use Rattle.h2_frames.specs.Reading.{Next, next_of, fed_with}
use Rattle.h2_frames.specs.Reading.Next.{NextUnfinished, NextFrame, NextFault}
use Rattle.h2_flow.specs.declared.limits.TheConstants.{FIRST_WINDOW, OPEN_STREAMS}
use Rattle.hpack.specs.declared.limits.TheConstants.{MAX_HEADER_LIST_SIZE}
use Rattle.h2_history.specs.declared.event.CallEvent.{CallEvent}
use Rattle.h2_history.specs.declared.event.CallEvent.TheVariants.{Broken}
use Rattle.h2_history.specs.declared.limits.TheConstants.{SERVER_WINDOW}
use Rattle.h2_history.specs.Frames.{frame_seen, frame_owed, frame_read}
use Rattle.h2_history.specs.Puts.{Put, out, goaway, broke, placed_all}
use Rattle.h2_history.specs.Puts.Put.{Plain}
use Rattle.h2_history.specs.Standing.{Standing, first_standing}
use Rattle.h2_layouts.specs.declared.frame.Frame.{Frame}
use Rattle.h2_layouts.specs.declared.frame.Frame.TheVariants.{Settings, Update}
use Rattle.h2_layouts.specs.declared.role.Role.{Role}
use Rattle.h2_layouts.specs.declared.role.Role.TheVariants.{Server, Client}
use Rattle.h2_layouts.specs.declared.setting.TheConstants.{ENABLE_PUSH, MAX_CONCURRENT_STREAMS, MAX_HEADER_LIST_SIZE as HEADER_LIST_SETTING}

-- ---- entries

-- octets that came, a frame that was read of them, a frame that was put, octets that were taken to be sent
pub data Entry : Type 0 where
  Fed : (octets : List ℕ) → Entry
  In : (frame : Frame) → Entry
  Out : (put : Put) → Entry
  Took : (octets : ℕ) → Entry

-- the frame that stood first has been read
abbrev pub passed_next : Next → Standing → Standing
passed_next NextUnfinished s = s
passed_next (NextFault code) s = s
passed_next (NextFrame frame reading) s = record s { reading = reading }

abbrev pub passed : Standing → Standing
passed s = passed_next (next_of s.reading) s

abbrev pub after : Entry → Standing → Standing
after (Fed octets) s = record s { reading = fed_with octets s.reading }
after (In frame) s = frame_seen frame (passed s)
after (Out put) s = out put s
after (Took octets) s = record s { output = drop octets s.output }

-- after all of them, the first one first
abbrev pub after_all : List Entry → Standing → Standing
after_all [] s = s
after_all (entry ∷ entries) s = after_all entries (after entry s)

-- ---- the beginning

-- a server allows so many streams and such header lists, and a greater window than the first one; a client allows no push
abbrev pub first_puts : Role → List Put
first_puts Server =
    Plain (Settings (record { id = MAX_CONCURRENT_STREAMS; value = OPEN_STREAMS } ∷ record { id = HEADER_LIST_SETTING; value = MAX_HEADER_LIST_SIZE } ∷ []))
    ∷ Plain (Update 0 (SERVER_WINDOW - FIRST_WINDOW)) ∷ []
first_puts Client = Plain (Settings (record { id = ENABLE_PUSH; value = 0 } ∷ [])) ∷ []

abbrev pub outs : List Put → List Entry
outs puts = map Out puts

-- a connection on which nothing was read
abbrev pub new_standing : Role → Standing
new_standing role = after_all (outs (first_puts role)) (first_standing role)

-- the connection stands for this history
abbrev pub StandsFor : Standing → Role → List Entry → Type 0
StandsFor s role entries = s ≡ after_all entries (new_standing role)

-- ---- one turn of reading

-- one turn: nothing further stands in the octets fed; a frame was read, or a rule was broken, of which nothing is reported;
-- something is reported
pub data Turn : Type 0 where
  Rests : Turn
  Goes : (left : Standing) → Turn
  Reports : (left : Standing) (event : CallEvent) → Turn

abbrev pub turn_reported : Option CallEvent → Standing → Turn
turn_reported None s = Goes s
turn_reported (Some event) s = Reports s event

abbrev pub turn_read : Frame → Standing → Turn
turn_read frame s = turn_reported (frame_read frame s).event (frame_read frame s).left

abbrev pub turn_next : Next → Standing → Turn
turn_next NextUnfinished s = Rests
turn_next (NextFault code) s = Goes (broke code s)
turn_next (NextFrame frame reading) s = turn_read frame (record s { reading = reading })

-- a connection that has ended reports its error each time
abbrev pub turn_by : Option ℕ → Standing → Turn
turn_by (Some code) s = Reports s (Broken code)
turn_by None s = turn_next (next_of s.reading) s

abbrev pub turn_of : Standing → Turn
turn_of s = turn_by s.broken s

-- what was read and put in that turn
abbrev pub entries_next : Next → Standing → List Entry
entries_next NextUnfinished s = []
entries_next (NextFault code) s = Out (goaway code s) ∷ []
entries_next (NextFrame frame reading) s = let t : Standing = record s { reading = reading } in In frame ∷ outs (placed_all (frame_owed frame t) (frame_seen frame t))

abbrev pub entries_by : Option ℕ → Standing → List Entry
entries_by (Some code) s = []
entries_by None s = entries_next (next_of s.reading) s

abbrev pub turn_entries : Standing → List Entry
turn_entries s = entries_by s.broken s

-- ---- what one call of reading does

-- these turns report nothing, and lead from the one to the other
abbrev pub AreQuiet : Standing → List Standing → Standing → Type 0
AreQuiet old [] new = old ≡ new
AreQuiet old (next ∷ others) new = (turn_of old ≡ Goes next) × AreQuiet next others new

pub record Reaches (old new : Standing) : Type 0 where
  pub turns : List Standing
  pub quiet : AreQuiet old turns new

-- an event comes after turns that report nothing
pub record IsReported (old new : Standing) (event : CallEvent) : Type 0 where
  pub last : Standing
  pub reaches : Reaches old last
  pub reports : turn_of last ≡ Reports new event

-- after turns that report nothing, nothing further stands in the octets fed
pub record IsAtRest (old new : Standing) : Type 0 where
  pub reaches : Reaches old new
  pub rests : turn_of new ≡ Rests
