-- What a frame is written as is that frame.
use Rattle.std.specs.Prelude.{◌≡◌, ℕ, ◌/◌, ◌%◌, ◌<◌, List, [], ◌∷◌, ◌++◌, length, take, drop, Bool, true, false, None, refl}
use Rattle.std.specs.List.{flat_map}
use Rattle.std.proofs.Common.{arith, ap, ◌∙◌, sym, subst}
use Rattle.std.proofs.lemmas.Bool.Decides.{nat_tests}
use Rattle.std.proofs.lemmas.List.{take_at, drop_at}
use Rattle.h2_layouts.specs.declared.frame.Frame.{Frame}
use Rattle.h2_layouts.specs.declared.frame.Frame.TheVariants.{Content, Head, Priority, Reset, Settings, SettingsAck, Ping, GoAway, Update, Continued, Unknown}
use Rattle.h2_layouts.specs.declared.header.FrameHeader.{FrameHeader}
use Rattle.h2_layouts.specs.declared.role.Role.{Role}
use Rattle.h2_layouts.specs.declared.role.Role.TheVariants.{Server}
use Rattle.h2_layouts.specs.declared.setting.Setting.{Setting}
use Rattle.h2_layouts.specs.FrameTypes.{number_of, type_of}
use Rattle.h2_layouts.specs.Headers.{header_of}
use Rattle.h2_layouts.specs.Layouts.{AreSettings, HasLayout, IsPayload, IsFrame}
use Rattle.h2_layouts.specs.LayoutLaws.{payload_read}
use Rattle.h2_layouts.specs.Numbers.{four_octets, u16_of, u32_of, u31_of}
use Rattle.h2_layouts.specs.PayloadReading.{frame_of}
use Rattle.h2_layouts.specs.Rules.{broken_payload}
use Rattle.h2_layouts.specs.Written.{setting_octets, header_octets, header_for, payload_of, kind_of, octets_of, IsWritable}

-- ---- numbers

u32_again : (n : ℕ) → n ≡ u32_of (n / 16777216) (n / 65536 % 256) (n / 256 % 256) (n % 256)
u32_again n = omega arith

u31_again : (n : ℕ) → n < 2147483648 → n ≡ u31_of (n / 16777216) (n / 65536 % 256) (n / 256 % 256) (n % 256)
u31_again n h = omega arith

u24_again : (n : ℕ) → n < 16777216 → u32_of 0 (n / 65536 % 256) (n / 256 % 256) (n % 256) ≡ n
u24_again n h = omega arith

u16_again : (n : ℕ) → n ≡ u16_of (n / 256) (n % 256)
u16_again n = omega arith

-- ---- headers

-- a header's nine octets are that header
header_again : (h : FrameHeader) → h.length < 16777216 → h.stream < 2147483648 → type_of (number_of h.kind) ≡ h.kind → header_of (header_octets h) ≡ h
header_again h length stream kind =
    ap (λ n. record { length = n; kind = type_of (number_of h.kind); flags = h.flags; stream = u31_of (h.stream / 16777216) (h.stream / 65536 % 256) (h.stream / 256 % 256) (h.stream % 256) }) (u24_again h.length length)
    ∙ ap (λ k. record { length = h.length; kind = k; flags = h.flags; stream = u31_of (h.stream / 16777216) (h.stream / 65536 % 256) (h.stream / 256 % 256) (h.stream % 256) }) kind
    ∙ ap (λ s. record { length = h.length; kind = h.kind; flags = h.flags; stream = s }) (sym (u31_again h.stream stream))

-- ---- payloads

data_written : (stream : ℕ) (end : Bool) (octets : List ℕ) (flow : ℕ) → flow ≡ length octets → HasLayout (Content stream end octets flow) (header_for (Content stream end octets flow)) octets
data_written stream true octets flow e = record { kind_is = refl; stream_is = refl; end_is = refl; octets_is = refl; flow_is = e }
data_written stream false octets flow e = record { kind_is = refl; stream_is = refl; end_is = refl; octets_is = refl; flow_is = e }

headers_written : (stream : ℕ) (end last : Bool) (octets : List ℕ) → HasLayout (Head stream end last octets) (header_for (Head stream end last octets)) octets
headers_written stream true true octets = record { kind_is = refl; stream_is = refl; end_is = refl; last_is = refl; priority = []; priority_len = refl; octets_is = refl }
headers_written stream true false octets = record { kind_is = refl; stream_is = refl; end_is = refl; last_is = refl; priority = []; priority_len = refl; octets_is = refl }
headers_written stream false true octets = record { kind_is = refl; stream_is = refl; end_is = refl; last_is = refl; priority = []; priority_len = refl; octets_is = refl }
headers_written stream false false octets = record { kind_is = refl; stream_is = refl; end_is = refl; last_is = refl; priority = []; priority_len = refl; octets_is = refl }

rst_stream_written : (stream code : ℕ) → HasLayout (Reset stream code) (header_for (Reset stream code)) (four_octets code)
rst_stream_written stream code = record {
  kind_is = refl;
  stream_is = refl;
  a = code / 16777216;
  b = code / 65536 % 256;
  c = code / 256 % 256;
  d = code % 256;
  payload_is = refl;
  code_is = u32_again code;
}

pub settings_written : (pairs : List Setting) → AreSettings (flat_map setting_octets pairs) pairs
settings_written [] = refl
settings_written (setting ∷ pairs) = (
  flat_map setting_octets pairs,
  record {
    a = setting.id / 256;
    b = setting.id % 256;
    c = setting.value / 16777216;
    d = setting.value / 65536 % 256;
    e = setting.value / 256 % 256;
    f = setting.value % 256;
    octets_is = refl;
    id_is = u16_again setting.id;
    value_is = u32_again setting.value;
  },
  settings_written pairs,
)

-- the rule of PING's length is kept
eight : (ack : Bool) (octets : List ℕ) → broken_payload Server (header_for (Ping ack octets)) octets ≡ None → length octets ≡ 8
eight ack octets h = grind (arith, nat_tests)

ping_written : (ack : Bool) (octets : List ℕ) → length octets ≡ 8 → HasLayout (Ping ack octets) (header_for (Ping ack octets)) octets
ping_written true octets e = record { kind_is = refl; ack_is = refl; payload_is = refl; eight = e }
ping_written false octets e = record { kind_is = refl; ack_is = refl; payload_is = refl; eight = e }

goaway_written : (last code : ℕ) → last < 2147483648 → HasLayout (GoAway last code) (header_for (GoAway last code)) (four_octets last ++ four_octets code)
goaway_written last code h = record {
  kind_is = refl;
  a = last / 16777216;
  b = last / 65536 % 256;
  c = last / 256 % 256;
  d = last % 256;
  e = code / 16777216;
  f = code / 65536 % 256;
  g = code / 256 % 256;
  h = code % 256;
  debug = [];
  payload_is = refl;
  last_is = u31_again last h;
  code_is = u32_again code;
}

window_update_written : (stream increment : ℕ) → increment < 2147483648 → HasLayout (Update stream increment) (header_for (Update stream increment)) (four_octets increment)
window_update_written stream increment h = record {
  kind_is = refl;
  stream_is = refl;
  a = increment / 16777216;
  b = increment / 65536 % 256;
  c = increment / 256 % 256;
  d = increment % 256;
  payload_is = refl;
  increment_is = u31_again increment h;
}

continuation_written : (stream : ℕ) (last : Bool) (octets : List ℕ) → HasLayout (Continued stream last octets) (header_for (Continued stream last octets)) octets
continuation_written stream true octets = record { kind_is = refl; stream_is = refl; last_is = refl; octets_is = refl }
continuation_written stream false octets = record { kind_is = refl; stream_is = refl; last_is = refl; octets_is = refl }

layout_written : (f : Frame) → IsWritable f → HasLayout f (header_for f) (payload_of f)
layout_written (Content stream end octets flow) w = data_written stream end octets flow w.numbers
layout_written (Head stream end last octets) w = headers_written stream end last octets
layout_written (Priority stream) w = record { kind_is = refl; stream_is = refl; payload_is = refl }
layout_written (Reset stream code) w = rst_stream_written stream code
layout_written (Settings pairs) w = record { kind_is = refl; ack_is = refl; pairs_is = settings_written pairs }
layout_written SettingsAck w = record { kind_is = refl; ack_is = refl; payload_is = refl }
layout_written (Ping ack octets) w = ping_written ack octets (eight ack octets (w.lawful Server))
layout_written (GoAway last code) w = goaway_written last code w.numbers
layout_written (Update stream increment) w = window_update_written stream increment w.numbers
layout_written (Continued stream last octets) w = continuation_written stream last octets
layout_written (Unknown number) w = absurd w.numbers

-- a written frame's header and payload are that frame, whoever reads it
pub payload_written : (f : Frame) → IsWritable f → (role : Role) → IsPayload role (header_for f) (payload_of f) f
payload_written f w role = record { lawful = w.lawful role; layout = layout_written f w }

-- the type of a frame that is written is one that the RFC has
known_type : (f : Frame) → IsWritable f → type_of (number_of (kind_of f)) ≡ kind_of f
known_type (Content stream end octets flow) w = refl
known_type (Head stream end last octets) w = refl
known_type (Priority stream) w = refl
known_type (Reset stream code) w = refl
known_type (Settings pairs) w = refl
known_type SettingsAck w = refl
known_type (Ping ack octets) w = refl
known_type (GoAway last code) w = refl
known_type (Update stream increment) w = refl
known_type (Continued stream last octets) w = refl
known_type (Unknown number) w = absurd w.numbers

pub header_written : (f : Frame) → IsWritable f → header_of (header_octets (header_for f)) ≡ header_for f
header_written f w =
    let small = w.payload in
    header_again (header_for f) (omega arith) w.stream (known_type f w)

-- a written frame's octets are that frame, whoever reads it
pub frame_written : (f : Frame) → IsWritable f → (role : Role) → IsFrame role (octets_of f) f
frame_written f w role = record {
  nine = header_octets (header_for f);
  payload = payload_of f;
  whole = refl;
  nine_len = refl;
  payload_len = sym (ap (λ h. h.length) (header_written f w));
  is_payload = subst (λ h. IsPayload role h (payload_of f) f) (sym (header_written f w)) (payload_written f w role);
}

-- octets are one frame at most
pub one_frame : (role : Role) (octets : List ℕ) (f g : Frame) → IsFrame role octets f → IsFrame role octets g → f ≡ g
one_frame role octets f g a b =
    let both : a.nine ++ a.payload ≡ b.nine ++ b.payload = sym a.whole ∙ b.whole in
    let nine : a.nine ≡ b.nine = sym (take_at a.nine a.payload 9 a.nine_len) ∙ ap (λ o. take 9 o) both ∙ take_at b.nine b.payload 9 b.nine_len in
    let payload : a.payload ≡ b.payload = sym (drop_at a.nine a.payload 9 a.nine_len) ∙ ap (λ o. drop 9 o) both ∙ drop_at b.nine b.payload 9 b.nine_len in
    let read = sym (payload_read role (header_of a.nine) a.payload f a.is_payload)
    ∙ ap (λ n. frame_of role (header_of n) a.payload) nine
    ∙ ap (λ p. frame_of role (header_of b.nine) p) payload
    ∙ payload_read role (header_of b.nine) b.payload g b.is_payload in
    cc read
