-- Where a frame stands in what a peer writes.
use Rattle.std.specs.Prelude.{ℕ, true, false, Option, Some, None}
use Rattle.h2_layouts.specs.declared.context.FrameContext.{FrameContext}
use Rattle.h2_layouts.specs.declared.frame.Frame.{Frame}
use Rattle.h2_layouts.specs.declared.frame.Frame.TheVariants.{Head, Continued}
use Rattle.h2_layouts.specs.declared.role.Role.{Role}

-- where the first frame stands
abbrev pub new_context : Role → FrameContext
new_context role = record { role = role; first = true; block = None }

-- the stream of a header block that is not whole after the frame
abbrev pub block_after : Frame → Option ℕ
block_after (Head stream end false octets) = Some stream
block_after (Continued stream false octets) = Some stream
block_after frame = None

-- where the next frame stands
abbrev pub context_after : FrameContext → Frame → FrameContext
context_after context frame = record { role = context.role; first = false; block = block_after frame }
