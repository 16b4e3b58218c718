-- The frames of the octets of a connection.
use Rattle.std.specs.Prelude.{◌≡◌, ◌≢◌, ℕ, ◌<◌, ◌⊎◌, List, [], ◌∷◌, ◌++◌, length, Some, None, slice_index}
use Rattle.h2_layouts.specs.Contexts.{context_after}
use Rattle.h2_layouts.specs.declared.frame.Frame.{Frame}
use Rattle.h2_layouts.specs.declared.role.Role.{Role}
use Rattle.h2_layouts.specs.declared.rule.FrameRule.{FrameRule}
use Rattle.h2_layouts.specs.declared.rule.FrameRule.TheVariants.{Preface}
use Rattle.h2_layouts.specs.Headers.{header_of}
use Rattle.h2_layouts.specs.Layouts.{IsFrame}
use Rattle.h2_layouts.specs.Rules.{broken_header, broken_payload, code_of}
use Rattle.h2_frames.specs.Prefaces.{preface_due}
use Rattle.h2_frames.specs.Reading.{Reading, new_reading, fed_with}

-- a frame stands first, after the preface where that is due; its header breaks no rule where it stands, and neither
-- does its payload; what is after it is left
pub record HandsOut (old : Reading) (frame : Frame) (new : Reading) : Type 0 where
  pub octets : List ℕ
  pub whole : old.unread ≡ preface_due old.context ++ (octets ++ new.unread)
  pub is_frame : IsFrame old.context.role octets frame
  pub stands : broken_header old.context (header_of is_frame.nine) ≡ None
  pub context_is : new.context ≡ context_after old.context frame

-- an octet differs from the preface that is due
pub record BreaksPreface (old : Reading) : Type 0 where
  pub at : ℕ
  pub stands : at < length old.unread
  pub due : at < length (preface_due old.context)
  pub differs : slice_index (preface_due old.context) at ≢ slice_index old.unread at

-- nine octets of a header stand first, after the preface where that is due, and this is the first rule that they break
pub record BreaksHeader (old : Reading) (rule : FrameRule) : Type 0 where
  pub nine : List ℕ
  pub following : List ℕ
  pub whole : old.unread ≡ preface_due old.context ++ (nine ++ following)
  pub nine_len : length nine ≡ 9
  pub broken : broken_header old.context (header_of nine) ≡ Some rule

-- a whole frame stands first, after the preface where that is due; its header breaks no rule, and this is the first that
-- its payload breaks
pub record BreaksPayload (old : Reading) (rule : FrameRule) : Type 0 where
  pub nine : List ℕ
  pub payload : List ℕ
  pub following : List ℕ
  pub whole : old.unread ≡ preface_due old.context ++ (nine ++ (payload ++ following))
  pub nine_len : length nine ≡ 9
  pub payload_len : length payload ≡ (header_of nine).length
  pub stands : broken_header old.context (header_of nine) ≡ None
  pub broken : broken_payload old.context.role (header_of nine) payload ≡ Some rule

-- what stands first breaks a rule
abbrev pub Breaks : Reading → FrameRule → Type 0
Breaks old rule = ((rule ≡ Preface) × BreaksPreface old) ⊎ BreaksHeader old rule ⊎ BreaksPayload old rule

-- what stands first breaks a rule with this error code
pub record IsFault (old : Reading) (code : ℕ) : Type 0 where
  pub rule : FrameRule
  pub breaks : Breaks old rule
  pub code_is : code ≡ code_of rule

-- the octets begin no whole frame and break no rule
pub record IsUnfinished (old : Reading) : Type 0 where
  pub no_frame : (frame : Frame) (new : Reading) → HandsOut old frame new → ⊥
  pub no_rule : (rule : FrameRule) → Breaks old rule → ⊥

-- how the octets of a connection go on after its frames: less than a frame, or a rule that is broken
pub data End : Type 0 where
  Unfinished : End
  Fault : (code : ℕ) → End

abbrev pub Ends : Reading → End → Type 0
Ends old Unfinished = IsUnfinished old
Ends old (Fault code) = IsFault old code

-- these frames stand first, one after another, and then the reader is this one
abbrev pub AreFrames : Reading → List Frame → Reading → Type 0
AreFrames old [] new = old ≡ new
AreFrames old (frame ∷ frames) new = (between : Reading) × HandsOut old frame between × AreFrames between frames new

-- the octets that a connection begins with are these frames and no others: then comes a broken rule, or less than a frame
pub record IsStream (role : Role) (octets : List ℕ) (frames : List Frame) (rest : Reading) (end : End) : Type 0 where
  pub are : AreFrames (fed_with octets (new_reading role)) frames rest
  pub ends : Ends rest end

-- there are such frames
pub record HasStream (role : Role) (octets : List ℕ) : Type 0 where
  pub frames : List Frame
  pub rest : Reading
  pub end : End
  pub stream : IsStream role octets frames rest end
