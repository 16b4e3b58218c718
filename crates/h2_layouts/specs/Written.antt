-- The octets that frames are written as, without padding and priority.
use Rattle.std.specs.Prelude.{◌≡◌, ℕ, ◌+◌, ◌<◌, ◌≤◌, List, [], ◌∷◌, ◌++◌, length, Bool, None, if◌then◌else◌}
use Rattle.std.specs.List.{flat_map}
use Rattle.h2_layouts.specs.declared.flag.TheConstants.{END_STREAM, ACK, END_HEADERS}
use Rattle.h2_layouts.specs.declared.frame.Frame.{Frame}
use Rattle.h2_layouts.specs.declared.frame.Frame.TheVariants.{Content, Head, Priority, Reset, Settings, SettingsAck, Ping, GoAway, Update, Continued, Unknown}
use Rattle.h2_layouts.specs.declared.frame_type.FrameType.{FrameType}
use Rattle.h2_layouts.specs.declared.frame_type.FrameType.TheVariants as types
use Rattle.h2_layouts.specs.declared.header.FrameHeader.{FrameHeader}
use Rattle.h2_layouts.specs.declared.limit.TheConstants.{LONGEST_PAYLOAD, STREAMS}
use Rattle.h2_layouts.specs.declared.role.Role.{Role}
use Rattle.h2_layouts.specs.declared.setting.Setting.{Setting}
use Rattle.h2_layouts.specs.FrameTypes.{number_of}
use Rattle.h2_layouts.specs.Numbers.{two_octets, three_octets, four_octets}
use Rattle.h2_layouts.specs.Rules.{broken_payload}

-- the nine octets of a header (RFC 9113, section 4.1)
abbrev pub header_octets : FrameHeader → List ℕ
header_octets header = three_octets header.length ++ (number_of header.kind ∷ header.flags ∷ four_octets header.stream)

-- a header of a payload, and the payload
abbrev pub framed : FrameType → ℕ → ℕ → List ℕ → List ℕ
framed kind flags stream payload = header_octets (record { length = length payload; kind = kind; flags = flags; stream = stream }) ++ payload

-- the flag, where it is to be set
abbrev pub flag_if : Bool → ℕ → ℕ
flag_if set flag = if set then flag else 0

-- the six octets of a setting (section 6.5.1)
abbrev pub setting_octets : Setting → List ℕ
setting_octets setting = two_octets setting.id ++ four_octets setting.value

-- ---- a frame's header and its payload

abbrev pub kind_of : Frame → FrameType
kind_of (Content stream end octets flow) = types.Data
kind_of (Head stream end last octets) = types.Headers
kind_of (Priority stream) = types.Priority
kind_of (Reset stream code) = types.RstStream
kind_of (Settings pairs) = types.Settings
kind_of SettingsAck = types.Settings
kind_of (Ping ack octets) = types.Ping
kind_of (GoAway last code) = types.GoAway
kind_of (Update stream increment) = types.WindowUpdate
kind_of (Continued stream last octets) = types.Continuation
kind_of (Unknown number) = types.Unknown number

abbrev pub flags_of : Frame → ℕ
flags_of (Content stream end octets flow) = flag_if end END_STREAM
flags_of (Head stream end last octets) = flag_if end END_STREAM + flag_if last END_HEADERS
flags_of (Priority stream) = 0
flags_of (Reset stream code) = 0
flags_of (Settings pairs) = 0
flags_of SettingsAck = ACK
flags_of (Ping ack octets) = flag_if ack ACK
flags_of (GoAway last code) = 0
flags_of (Update stream increment) = 0
flags_of (Continued stream last octets) = flag_if last END_HEADERS
flags_of (Unknown number) = 0

-- the stream that a frame is on, 0 for the connection
abbrev pub stream_of : Frame → ℕ
stream_of (Content stream end octets flow) = stream
stream_of (Head stream end last octets) = stream
stream_of (Priority stream) = stream
stream_of (Reset stream code) = stream
stream_of (Settings pairs) = 0
stream_of SettingsAck = 0
stream_of (Ping ack octets) = 0
stream_of (GoAway last code) = 0
stream_of (Update stream increment) = stream
stream_of (Continued stream last octets) = stream
stream_of (Unknown number) = 0

abbrev pub payload_of : Frame → List ℕ
payload_of (Content stream end octets flow) = octets
payload_of (Head stream end last octets) = octets
payload_of (Priority stream) = 0 ∷ 0 ∷ 0 ∷ 0 ∷ 0 ∷ []
payload_of (Reset stream code) = four_octets code
payload_of (Settings pairs) = flat_map setting_octets pairs
payload_of SettingsAck = []
payload_of (Ping ack octets) = octets
payload_of (GoAway last code) = four_octets last ++ four_octets code
payload_of (Update stream increment) = four_octets increment
payload_of (Continued stream last octets) = octets
payload_of (Unknown number) = []

-- the header and the octets that a frame is written with
abbrev pub header_for : Frame → FrameHeader
header_for frame = record { length = length (payload_of frame); kind = kind_of frame; flags = flags_of frame; stream = stream_of frame }

abbrev pub octets_of : Frame → List ℕ
octets_of frame = framed (kind_of frame) (flags_of frame) (stream_of frame) (payload_of frame)

-- ---- which frames are written

-- the numbers in a frame's payload have the octets that there are for them, and what counts for flow control is
-- what is written; a frame of a type that the RFC has not is not written
abbrev pub HasNumbers : Frame → Type 0
HasNumbers (Content stream end octets flow) = flow ≡ length octets
HasNumbers (Head stream end last octets) = Unit {0}
HasNumbers (Priority stream) = Unit {0}
HasNumbers (Reset stream code) = Unit {0}
HasNumbers (Settings pairs) = Unit {0}
HasNumbers SettingsAck = Unit {0}
HasNumbers (Ping ack octets) = Unit {0}
HasNumbers (GoAway last code) = last < STREAMS
HasNumbers (Update stream increment) = increment < STREAMS
HasNumbers (Continued stream last octets) = Unit {0}
HasNumbers (Unknown number) = ⊥

-- a frame that is written: of a payload that is not too long, on a stream of 31 bits, and lawful for whoever reads it
pub record IsWritable (frame : Frame) : Type 0 where
  pub payload : length (payload_of frame) ≤ LONGEST_PAYLOAD
  pub stream : stream_of frame < STREAMS
  pub numbers : HasNumbers frame
  pub lawful : (role : Role) → broken_payload role (header_for frame) (payload_of frame) ≡ None
