-- The layouts of frames (RFC 9113, section 6): which header and payload a frame is, one layout a type.
use Rattle.std.specs.Prelude.{◌≡◌, ℕ, ◌++◌, List, [], ◌∷◌, Bool, true, false, length, None, if◌then◌else◌}
use Rattle.h2_layouts.specs.declared.flag.TheConstants.{END_STREAM, ACK, END_HEADERS, PADDED, PRIORITY}
use Rattle.h2_layouts.specs.declared.frame.Frame.{Frame}
use Rattle.h2_layouts.specs.declared.frame.Frame.TheVariants.{Content, Head, Priority, Reset, Settings, SettingsAck, Ping, GoAway, Update, Continued, Unknown}
use Rattle.h2_layouts.specs.declared.frame_type.FrameType.TheVariants as types
use Rattle.h2_layouts.specs.declared.header.FrameHeader.{FrameHeader}
use Rattle.h2_layouts.specs.declared.role.Role.{Role}
use Rattle.h2_layouts.specs.declared.setting.Setting.{Setting}
use Rattle.h2_layouts.specs.Headers.{header_of}
use Rattle.h2_layouts.specs.Numbers.{u16_of, u32_of, u31_of, has}
use Rattle.h2_layouts.specs.Rules.{broken_payload}

-- a payload with its padding: a Pad Length octet first, and as many octets of padding last
abbrev pub IsPadded : Bool → List ℕ → List ℕ → Type 0
IsPadded false payload content = payload ≡ content
IsPadded true payload content = (padding : List ℕ) × (payload ≡ length padding ∷ (content ++ padding))

-- DATA (section 6.1): Pad Length where PADDED is set, the octets, and the padding
pub record IsData (header : FrameHeader) (payload : List ℕ) (stream : ℕ) (end : Bool) (octets : List ℕ) (flow : ℕ) : Type 0 where
  pub kind_is : header.kind ≡ types.Data
  pub stream_is : stream ≡ header.stream
  pub end_is : end ≡ has header.flags END_STREAM
  pub octets_is : IsPadded (has header.flags PADDED) payload octets
  pub flow_is : flow ≡ length payload

-- HEADERS (section 6.2): Pad Length where PADDED is set, five octets where PRIORITY is, the front of a header
-- block, and the padding
pub record IsHeaders (header : FrameHeader) (payload : List ℕ) (stream : ℕ) (end last : Bool) (octets : List ℕ) : Type 0 where
  pub kind_is : header.kind ≡ types.Headers
  pub stream_is : stream ≡ header.stream
  pub end_is : end ≡ has header.flags END_STREAM
  pub last_is : last ≡ has header.flags END_HEADERS
  pub priority : List ℕ
  pub priority_len : length priority ≡ (if has header.flags PRIORITY then 5 else 0)
  pub octets_is : IsPadded (has header.flags PADDED) payload (priority ++ octets)

-- PRIORITY (section 6.3): a stream that this one depends on, and a weight, which are read past
pub record IsPriority (header : FrameHeader) (payload : List ℕ) (stream : ℕ) : Type 0 where
  pub kind_is : header.kind ≡ types.Priority
  pub stream_is : stream ≡ header.stream
  pub payload_is : length payload ≡ 5

-- RST_STREAM (section 6.4): an error code
pub record IsRstStream (header : FrameHeader) (payload : List ℕ) (stream code : ℕ) : Type 0 where
  pub kind_is : header.kind ≡ types.RstStream
  pub stream_is : stream ≡ header.stream
  pub a : ℕ
  pub b : ℕ
  pub c : ℕ
  pub d : ℕ
  pub payload_is : payload ≡ a ∷ b ∷ c ∷ d ∷ []
  pub code_is : code ≡ u32_of a b c d

-- a setting (section 6.5.1), and what stands after it: an identifier of two octets, and a value of four
pub record IsSetting (octets : List ℕ) (setting : Setting) (following : List ℕ) : Type 0 where
  pub a : ℕ
  pub b : ℕ
  pub c : ℕ
  pub d : ℕ
  pub e : ℕ
  pub f : ℕ
  pub octets_is : octets ≡ a ∷ b ∷ c ∷ d ∷ e ∷ f ∷ following
  pub id_is : setting.id ≡ u16_of a b
  pub value_is : setting.value ≡ u32_of c d e f

-- settings, one after another
abbrev pub AreSettings : List ℕ → List Setting → Type 0
AreSettings octets [] = octets ≡ []
AreSettings octets (setting ∷ settings) = (following : List ℕ) × IsSetting octets setting following × AreSettings following settings

-- SETTINGS (section 6.5): without ACK settings, with ACK nothing
pub record IsSettings (header : FrameHeader) (payload : List ℕ) (pairs : List Setting) : Type 0 where
  pub kind_is : header.kind ≡ types.Settings
  pub ack_is : has header.flags ACK ≡ false
  pub pairs_is : AreSettings payload pairs

pub record IsSettingsAck (header : FrameHeader) (payload : List ℕ) : Type 0 where
  pub kind_is : header.kind ≡ types.Settings
  pub ack_is : has header.flags ACK ≡ true
  pub payload_is : payload ≡ []

-- PING (section 6.7): eight octets
pub record IsPing (header : FrameHeader) (payload : List ℕ) (ack : Bool) (octets : List ℕ) : Type 0 where
  pub kind_is : header.kind ≡ types.Ping
  pub ack_is : ack ≡ has header.flags ACK
  pub payload_is : payload ≡ octets
  pub eight : length octets ≡ 8

-- GOAWAY (section 6.8): a reserved bit, a stream, an error code, and debug data, which is read past
pub record IsGoAway (header : FrameHeader) (payload : List ℕ) (last code : ℕ) : Type 0 where
  pub kind_is : header.kind ≡ types.GoAway
  pub a : ℕ
  pub b : ℕ
  pub c : ℕ
  pub d : ℕ
  pub e : ℕ
  pub f : ℕ
  pub g : ℕ
  pub h : ℕ
  pub debug : List ℕ
  pub payload_is : payload ≡ a ∷ b ∷ c ∷ d ∷ e ∷ f ∷ g ∷ h ∷ debug
  pub last_is : last ≡ u31_of a b c d
  pub code_is : code ≡ u32_of e f g h

-- WINDOW_UPDATE (section 6.9): a reserved bit, and an increment
pub record IsWindowUpdate (header : FrameHeader) (payload : List ℕ) (stream increment : ℕ) : Type 0 where
  pub kind_is : header.kind ≡ types.WindowUpdate
  pub stream_is : stream ≡ header.stream
  pub a : ℕ
  pub b : ℕ
  pub c : ℕ
  pub d : ℕ
  pub payload_is : payload ≡ a ∷ b ∷ c ∷ d ∷ []
  pub increment_is : increment ≡ u31_of a b c d

-- CONTINUATION (section 6.10): more of a header block
pub record IsContinuation (header : FrameHeader) (payload : List ℕ) (stream : ℕ) (last : Bool) (octets : List ℕ) : Type 0 where
  pub kind_is : header.kind ≡ types.Continuation
  pub stream_is : stream ≡ header.stream
  pub last_is : last ≡ has header.flags END_HEADERS
  pub octets_is : payload ≡ octets

-- a type that the RFC has not (section 4.1): whatever it is, it is read past
pub record IsUnknown (header : FrameHeader) (number : ℕ) : Type 0 where
  pub kind_is : header.kind ≡ types.Unknown number

-- a frame is a header and a payload
abbrev pub HasLayout : Frame → FrameHeader → List ℕ → Type 0
HasLayout (Content stream end octets flow) header payload = IsData header payload stream end octets flow
HasLayout (Head stream end last octets) header payload = IsHeaders header payload stream end last octets
HasLayout (Priority stream) header payload = IsPriority header payload stream
HasLayout (Reset stream code) header payload = IsRstStream header payload stream code
HasLayout (Settings pairs) header payload = IsSettings header payload pairs
HasLayout SettingsAck header payload = IsSettingsAck header payload
HasLayout (Ping ack octets) header payload = IsPing header payload ack octets
HasLayout (GoAway last code) header payload = IsGoAway header payload last code
HasLayout (Update stream increment) header payload = IsWindowUpdate header payload stream increment
HasLayout (Continued stream last octets) header payload = IsContinuation header payload stream last octets
HasLayout (Unknown number) header payload = IsUnknown header number

-- the header and the payload are a frame that breaks no rule, for the end that reads it
pub record IsPayload (role : Role) (header : FrameHeader) (payload : List ℕ) (frame : Frame) : Type 0 where
  pub lawful : broken_payload role header payload ≡ None
  pub layout : HasLayout frame header payload

-- the octets are a frame that breaks no rule of its type, for the end that reads them: the nine octets of a header, and
-- a payload of as many octets as the header says
pub record IsFrame (role : Role) (octets : List ℕ) (frame : Frame) : Type 0 where
  pub nine : List ℕ
  pub payload : List ℕ
  pub whole : octets ≡ nine ++ payload
  pub nine_len : length nine ≡ 9
  pub payload_len : length payload ≡ (header_of nine).length
  pub is_payload : IsPayload role (header_of nine) payload frame
