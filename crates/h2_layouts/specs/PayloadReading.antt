-- Reading a payload, type by type.
use Rattle.std.specs.Prelude.{ℕ, ◌-◌, ◌%◌, ◌==◌, nat_lt, ◌&&◌, List, [], ◌∷◌, length, take, drop, Result, Ok, Err, Option, Some, None, if◌then◌else◌}
use Rattle.std.specs.List.{list_any}
use Rattle.h2_layouts.specs.declared.flag.TheConstants.{END_STREAM, ACK, END_HEADERS, PADDED, PRIORITY}
use Rattle.h2_layouts.specs.declared.frame.Frame.{Frame}
use Rattle.h2_layouts.specs.declared.frame.Frame.TheVariants.{Content, Head, Priority, Reset, Settings, SettingsAck, Ping, GoAway, Update, Continued, Unknown}
use Rattle.h2_layouts.specs.declared.frame_type.FrameType.{FrameType}
use Rattle.h2_layouts.specs.declared.frame_type.FrameType.TheVariants as types
use Rattle.h2_layouts.specs.declared.header.FrameHeader.{FrameHeader}
use Rattle.h2_layouts.specs.declared.role.Role.{Role}
use Rattle.h2_layouts.specs.declared.rule.FrameRule.{FrameRule}
use Rattle.h2_layouts.specs.declared.rule.FrameRule.TheVariants as rules
use Rattle.h2_layouts.specs.declared.setting.Setting.{Setting}
use Rattle.h2_layouts.specs.Numbers.{u32_of, u31_of, has}
use Rattle.esi_base.specs.Answers.{◌>>=◌}
use Rattle.h2_layouts.specs.Rules.{settings_of, pushes, is_window_too_large, is_frame_size_out_of_range}

-- the stream of a frame that is on a stream
abbrev pub stream_of : FrameHeader → Result ℕ FrameRule
stream_of header = if header.stream == 0 then Err rules.OnStream else Ok header.stream

-- nothing, of a frame that is on the connection
abbrev pub on_connection : FrameHeader → Result (Unit {0}) FrameRule
on_connection header = if header.stream == 0 then Ok tt else Err rules.OnConnection

-- the octets before the padding, of which there is so much
abbrev pub before_padding : FrameRule → ℕ → List ℕ → Result (List ℕ) FrameRule
before_padding rule pad octets = if nat_lt (length octets) pad then Err rule else Ok (take (length octets - pad) octets)

-- DATA
abbrev pub padded_data : List ℕ → Result (List ℕ) FrameRule
padded_data [] = Err rules.DataPadLength
padded_data (pad ∷ octets) = before_padding rules.DataPadding pad octets

abbrev pub data_octets : ℕ → List ℕ → Result (List ℕ) FrameRule
data_octets flags payload = if has flags PADDED then padded_data payload else Ok payload

unfoldable pub data_of : FrameHeader → List ℕ → Result Frame FrameRule
data_of header payload = do
  stream ← stream_of header
  octets ← data_octets header.flags payload
  Ok (Content stream (has header.flags END_STREAM) octets (length payload))

-- HEADERS
abbrev pub after_priority : ℕ → List ℕ → Result (List ℕ) FrameRule
after_priority flags octets = if has flags PRIORITY then (if nat_lt (length octets) 5 then Err rules.HeadersLength else Ok (drop 5 octets)) else Ok octets

unfoldable pub padded_headers : ℕ → List ℕ → Result (List ℕ) FrameRule
padded_headers flags [] = Err rules.HeadersLength
padded_headers flags (pad ∷ octets) = do
  following ← after_priority flags octets
  before_padding rules.HeadersPadding pad following

abbrev pub headers_octets : ℕ → List ℕ → Result (List ℕ) FrameRule
headers_octets flags payload = if has flags PADDED then padded_headers flags payload else after_priority flags payload

unfoldable pub headers_of : FrameHeader → List ℕ → Result Frame FrameRule
headers_of header payload = do
  stream ← stream_of header
  octets ← headers_octets header.flags payload
  Ok (Head stream (has header.flags END_STREAM) (has header.flags END_HEADERS) octets)

-- PRIORITY
unfoldable pub priority_of : FrameHeader → List ℕ → Result Frame FrameRule
priority_of header payload = do
  stream ← stream_of header
  if length payload == 5 then Ok (Priority stream) else Err rules.PriorityLength

-- RST_STREAM
abbrev pub code_at : List ℕ → Result ℕ FrameRule
code_at (a ∷ b ∷ c ∷ d ∷ []) = Ok (u32_of a b c d)
code_at payload = Err rules.RstStreamLength

unfoldable pub rst_stream_of : FrameHeader → List ℕ → Result Frame FrameRule
rst_stream_of header payload = do
  stream ← stream_of header
  code ← code_at payload
  Ok (Reset stream code)

-- SETTINGS
abbrev pub acknowledged : List ℕ → Result Frame FrameRule
acknowledged payload = if length payload == 0 then Ok SettingsAck else Err rules.AckPayload

abbrev pub broken_setting : Role → List Setting → Option FrameRule
broken_setting role settings =
    if list_any (pushes role) settings then Some rules.EnablePush
    else (if list_any is_window_too_large settings then Some rules.InitialWindowSize
    else (if list_any is_frame_size_out_of_range settings then Some rules.MaxFrameSize
    else None))

abbrev pub unless_broken : List Setting → Option FrameRule → Result Frame FrameRule
unless_broken settings (Some rule) = Err rule
unless_broken settings None = Ok (Settings settings)

abbrev pub lawful_settings : Role → List Setting → Result Frame FrameRule
lawful_settings role settings = unless_broken settings (broken_setting role settings)

abbrev pub settings_at : Role → List ℕ → Result Frame FrameRule
settings_at role payload = if length payload % 6 == 0 then lawful_settings role (settings_of payload) else Err rules.SettingsLength

unfoldable pub settings_frame_of : Role → FrameHeader → List ℕ → Result Frame FrameRule
settings_frame_of role header payload = do
  nothing ← on_connection header
  if has header.flags ACK then acknowledged payload else settings_at role payload

-- PING
abbrev pub eight_octets : List ℕ → Result (List ℕ) FrameRule
eight_octets (a ∷ b ∷ c ∷ d ∷ e ∷ f ∷ g ∷ h ∷ []) = Ok (a ∷ b ∷ c ∷ d ∷ e ∷ f ∷ g ∷ h ∷ [])
eight_octets payload = Err rules.PingLength

unfoldable pub ping_of : FrameHeader → List ℕ → Result Frame FrameRule
ping_of header payload = do
  nothing ← on_connection header
  octets ← eight_octets payload
  Ok (Ping (has header.flags ACK) octets)

-- GOAWAY
abbrev pub goaway_at : List ℕ → Result Frame FrameRule
goaway_at (a ∷ b ∷ c ∷ d ∷ e ∷ f ∷ g ∷ h ∷ debug) = Ok (GoAway (u31_of a b c d) (u32_of e f g h))
goaway_at payload = Err rules.GoAwayLength

unfoldable pub goaway_of : FrameHeader → List ℕ → Result Frame FrameRule
goaway_of header payload = do
  nothing ← on_connection header
  goaway_at payload

-- WINDOW_UPDATE
abbrev pub increment_at : List ℕ → Result ℕ FrameRule
increment_at (a ∷ b ∷ c ∷ d ∷ []) = Ok (u31_of a b c d)
increment_at payload = Err rules.WindowUpdateLength

unfoldable pub window_update_of : FrameHeader → List ℕ → Result Frame FrameRule
window_update_of header payload = do
  increment ← increment_at payload
  if header.stream == 0 && increment == 0 then Err rules.Increment else Ok (Update header.stream increment)

-- CONTINUATION
abbrev pub continuation_of : FrameHeader → List ℕ → Result Frame FrameRule
continuation_of header payload = Ok (Continued header.stream (has header.flags END_HEADERS) payload)

-- each type by its own
abbrev pub frame_by : FrameType → Role → FrameHeader → List ℕ → Result Frame FrameRule
frame_by types.Data role header payload = data_of header payload
frame_by types.Headers role header payload = headers_of header payload
frame_by types.Priority role header payload = priority_of header payload
frame_by types.RstStream role header payload = rst_stream_of header payload
frame_by types.Settings role header payload = settings_frame_of role header payload
frame_by types.PushPromise role header payload = Err rules.PushPromise
frame_by types.Ping role header payload = ping_of header payload
frame_by types.GoAway role header payload = goaway_of header payload
frame_by types.WindowUpdate role header payload = window_update_of header payload
frame_by types.Continuation role header payload = continuation_of header payload
frame_by (types.Unknown number) role header payload = Ok (Unknown number)

abbrev pub frame_of : Role → FrameHeader → List ℕ → Result Frame FrameRule
frame_of role header payload = frame_by header.kind role header payload
