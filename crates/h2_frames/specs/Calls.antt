-- Lists of calls of a reader.
use Rattle.std.specs.Prelude.{◌≡◌, ℕ, List, [], ◌∷◌, ◌++◌}
use Rattle.h2_layouts.specs.declared.frame.Frame.{Frame}
use Rattle.h2_frames.specs.Reading.{Reading, fed_with}
use Rattle.h2_frames.specs.Streams.{HandsOut, End, Ends}

-- a call: octets that are fed, a frame that is handed out, an answer without a frame, or out of memory
pub data Call : Type 0 where
  Feed : (octets : List ℕ) → Call
  HandOut : (frame : Frame) → Call
  NoFrame : (end : End) → Call
  NoMemory : Call

-- the call found the one reader and left the other
abbrev pub Step : Reading → Call → Reading → Type 0
Step old (Feed octets) new = new ≡ fed_with octets old
Step old (HandOut frame) new = HandsOut old frame new
Step old (NoFrame end) new = Ends old end × (new ≡ old)
Step old NoMemory new = new ≡ old

-- the calls, one after another, lead from the one reader to the other
abbrev pub IsRun : Reading → List Call → Reading → Type 0
IsRun old [] new = old ≡ new
IsRun old (call ∷ calls) new = (between : Reading) × Step old call between × IsRun between calls new

-- the octets that were fed, joined
abbrev pub octets_fed : List Call → List ℕ
octets_fed [] = []
octets_fed (Feed octets ∷ calls) = octets ++ octets_fed calls
octets_fed (HandOut frame ∷ calls) = octets_fed calls
octets_fed (NoFrame end ∷ calls) = octets_fed calls
octets_fed (NoMemory ∷ calls) = octets_fed calls

-- the frames that were given, in order
abbrev pub frames_given : List Call → List Frame
frames_given [] = []
frames_given (Feed octets ∷ calls) = frames_given calls
frames_given (HandOut frame ∷ calls) = frame ∷ frames_given calls
frames_given (NoFrame end ∷ calls) = frames_given calls
frames_given (NoMemory ∷ calls) = frames_given calls

-- each answer without a frame among them is this one
abbrev pub AreAllEnds : End → List Call → Type 0
AreAllEnds end [] = Unit {0}
AreAllEnds end (Feed octets ∷ calls) = AreAllEnds end calls
AreAllEnds end (HandOut frame ∷ calls) = AreAllEnds end calls
AreAllEnds end (NoFrame other ∷ calls) = (other ≡ end) × AreAllEnds end calls
AreAllEnds end (NoMemory ∷ calls) = AreAllEnds end calls

-- no frame was given, each answer was this fault, and the next one is
pub record StaysFaulty (calls : List Call) (new : Reading) (end : End) : Type 0 where
  pub none : frames_given calls ≡ []
  pub answers : AreAllEnds end calls
  pub ends : Ends new end
