-- The nine octets before a frame's payload (RFC 9113, section 4.1).
use Rattle.std.specs.Prelude.{ℕ, ◌==◌, List, ◌∷◌, Bool, true, false, not, ◌&&◌}
use Rattle.h2_layouts.specs.declared.flag.TheConstants.{ACK}
use Rattle.h2_layouts.specs.declared.frame_type.FrameType.{FrameType}
use Rattle.h2_layouts.specs.declared.frame_type.FrameType.TheVariants.{Data, Settings, Continuation}
use Rattle.h2_layouts.specs.declared.header.FrameHeader.{FrameHeader}
use Rattle.h2_layouts.specs.FrameTypes.{type_of}
use Rattle.h2_layouts.specs.Numbers.{u32_of, u31_of, has}

-- a length of 24 bits, a type, flags, a reserved bit, and a stream of 31 bits
abbrev pub header_of : List ℕ → FrameHeader
header_of (a ∷ b ∷ c ∷ number ∷ flags ∷ s ∷ t ∷ u ∷ v ∷ rest) =
    record { length = u32_of 0 a b c; kind = type_of number; flags = flags; stream = u31_of s t u v }
header_of octets = record { length = 0; kind = Data; flags = 0; stream = 0 }

abbrev pub is_settings : FrameType → Bool
is_settings Settings = true
is_settings kind = false

abbrev pub is_continuation : FrameType → Bool
is_continuation Continuation = true
is_continuation kind = false

-- whether it is the header of SETTINGS without ACK
abbrev pub begins_settings : FrameHeader → Bool
begins_settings header = is_settings header.kind && not (has header.flags ACK)

-- whether it is the header of CONTINUATION on this stream
abbrev pub continues : ℕ → FrameHeader → Bool
continues stream header = is_continuation header.kind && (header.stream == stream)
