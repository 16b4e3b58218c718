-- Frames that are written one after another.
use Rattle.std.specs.Prelude.{◌≡◌, ℕ, List, [], ◌∷◌, ◌++◌, None}
use Rattle.h2_layouts.specs.Contexts.{context_after}
use Rattle.h2_layouts.specs.declared.context.FrameContext.{FrameContext}
use Rattle.h2_layouts.specs.declared.frame.Frame.{Frame}
use Rattle.h2_layouts.specs.Rules.{broken_header}
use Rattle.h2_layouts.specs.Written.{IsWritable, header_for, octets_of}
use Rattle.h2_frames.specs.Prefaces.{preface_due}

-- the octets of frames from an offset on: the preface, where it is due, and each frame as it is written
abbrev pub octets_at : FrameContext → List Frame → List ℕ
octets_at context [] = []
octets_at context (frame ∷ frames) = preface_due context ++ (octets_of frame ++ octets_at (context_after context frame) frames)

-- where the frame after them stands
abbrev pub context_after_all : FrameContext → List Frame → FrameContext
context_after_all context [] = context
context_after_all context (frame ∷ frames) = context_after_all (context_after context frame) frames

-- each is one that is written, and its header breaks no rule where it stands
abbrev pub AreWritable : FrameContext → List Frame → Type 0
AreWritable context [] = Unit {0}
AreWritable context (frame ∷ frames) = IsWritable frame × (broken_header context (header_for frame) ≡ None) × AreWritable (context_after context frame) frames
