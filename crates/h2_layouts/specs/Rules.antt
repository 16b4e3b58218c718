-- The rules of frames (RFC 9113, sections 3.4, 4.2 and 6): when each is broken, in which order they are checked,
-- and the error code of each.
use Rattle.std.specs.Prelude.{ℕ, ◌+◌, ◌-◌, ◌%◌, ◌==◌, nat_lt, nat_le, Bool, true, false, not, ◌&&◌, List, [], ◌∷◌, length, Option, Some, None, find, if◌then◌else◌}
use Rattle.std.specs.List.{list_any}
use Rattle.h2_layouts.specs.declared.code.TheConstants.{PROTOCOL_ERROR, FLOW_CONTROL_ERROR, FRAME_SIZE_ERROR}
use Rattle.h2_layouts.specs.declared.context.FrameContext.{FrameContext}
use Rattle.h2_layouts.specs.declared.flag.TheConstants.{ACK, PADDED, PRIORITY}
use Rattle.h2_layouts.specs.declared.frame_type.FrameType.{FrameType}
use Rattle.h2_layouts.specs.declared.frame_type.FrameType.TheVariants as types
use Rattle.h2_layouts.specs.declared.header.FrameHeader.{FrameHeader}
use Rattle.h2_layouts.specs.declared.limit.TheConstants.{LONGEST_PAYLOAD, GREATEST_WINDOW, GREATEST_FRAME_SIZE}
use Rattle.h2_layouts.specs.declared.role.Role.{Role}
use Rattle.h2_layouts.specs.declared.role.Role.TheVariants.{Server, Client}
use Rattle.h2_layouts.specs.declared.rule.FrameRule.{FrameRule}
use Rattle.h2_layouts.specs.declared.rule.FrameRule.TheVariants.{Preface, FrameSize, FirstSettings, OpenBlock, NoBlock, OnStream, OnConnection, DataPadLength, DataPadding, HeadersLength, HeadersPadding, PriorityLength, RstStreamLength, AckPayload, SettingsLength, EnablePush, InitialWindowSize, MaxFrameSize, PushPromise, PingLength, GoAwayLength, WindowUpdateLength, Increment}
use Rattle.h2_layouts.specs.declared.setting.Setting.{Setting}
use Rattle.h2_layouts.specs.declared.setting.TheConstants.{ENABLE_PUSH, INITIAL_WINDOW_SIZE, MAX_FRAME_SIZE}
use Rattle.h2_layouts.specs.Contexts.{new_context}
use Rattle.h2_layouts.specs.Headers.{begins_settings, continues, is_continuation}
use Rattle.h2_layouts.specs.Numbers.{u16_of, u31_of, u32_of, has}

-- ---- what the rules speak of

-- the first octet, which tells how much padding there is
abbrev pub pad_length : List ℕ → ℕ
pad_length [] = 0
pad_length (pad ∷ octets) = pad

-- how many octets HEADERS has before its header block: one of PADDED, five of PRIORITY
abbrev pub octets_before_block : ℕ → ℕ
octets_before_block flags = (if has flags PADDED then 1 else 0) + (if has flags PRIORITY then 5 else 0)

-- by how much a window grows
abbrev pub increment_of : List ℕ → ℕ
increment_of (a ∷ b ∷ c ∷ d ∷ octets) = u31_of a b c d
increment_of octets = 0

-- the settings that octets are, six octets each
abbrev pub settings_of : List ℕ → List Setting
settings_of (a ∷ b ∷ c ∷ d ∷ e ∷ f ∷ octets) = record { id = u16_of a b; value = u32_of c d e f } ∷ settings_of octets
settings_of octets = []

-- the greatest ENABLE_PUSH that an end may read
abbrev pub greatest_push : Role → ℕ
greatest_push Server = 1
greatest_push Client = 0

abbrev pub pushes : Role → Setting → Bool
pushes role setting = (setting.id == ENABLE_PUSH) && nat_lt (greatest_push role) setting.value

abbrev pub is_window_too_large : Setting → Bool
is_window_too_large setting = (setting.id == INITIAL_WINDOW_SIZE) && nat_lt GREATEST_WINDOW setting.value

abbrev pub is_frame_size_out_of_range : Setting → Bool
is_frame_size_out_of_range setting =
    (setting.id == MAX_FRAME_SIZE) && not (nat_le LONGEST_PAYLOAD setting.value && nat_le setting.value GREATEST_FRAME_SIZE)

-- a frame inside a header block that does not go on with it
abbrev pub interrupts : Option ℕ → FrameHeader → Bool
interrupts (Some stream) header = not (continues stream header)
interrupts None header = false

-- CONTINUATION outside a header block
abbrev pub continues_nothing : Option ℕ → FrameHeader → Bool
continues_nothing (Some stream) header = false
continues_nothing None header = is_continuation header.kind

-- ---- the rules

-- whether a frame with this header and this payload breaks a rule, where it stands so
abbrev pub breaks : FrameContext → FrameHeader → List ℕ → FrameRule → Bool
breaks context header payload Preface = false
breaks context header payload FrameSize = nat_lt LONGEST_PAYLOAD header.length
breaks context header payload FirstSettings = context.first && not (begins_settings header)
breaks context header payload OpenBlock = interrupts context.block header
breaks context header payload NoBlock = continues_nothing context.block header
breaks context header payload OnStream = header.stream == 0
breaks context header payload OnConnection = not (header.stream == 0)
breaks context header payload DataPadLength = has header.flags PADDED && (length payload == 0)
breaks context header payload DataPadding = has header.flags PADDED && nat_le (length payload) (pad_length payload)
breaks context header payload HeadersLength = nat_lt (length payload) (octets_before_block header.flags)
breaks context header payload HeadersPadding =
    has header.flags PADDED && nat_lt (length payload - octets_before_block header.flags) (pad_length payload)
breaks context header payload PriorityLength = not (length payload == 5)
breaks context header payload RstStreamLength = not (length payload == 4)
breaks context header payload AckPayload = has header.flags ACK && not (length payload == 0)
breaks context header payload SettingsLength = not (length payload % 6 == 0)
breaks context header payload EnablePush = list_any (pushes context.role) (settings_of payload)
breaks context header payload InitialWindowSize = list_any is_window_too_large (settings_of payload)
breaks context header payload MaxFrameSize = list_any is_frame_size_out_of_range (settings_of payload)
breaks context header payload PushPromise = true
breaks context header payload PingLength = not (length payload == 8)
breaks context header payload GoAwayLength = nat_lt (length payload) 8
breaks context header payload WindowUpdateLength = not (length payload == 4)
breaks context header payload Increment = (header.stream == 0) && (increment_of payload == 0)

-- the rules that are checked when the nine octets of a header stand, in order
abbrev pub header_rules : List FrameRule
header_rules = FrameSize ∷ FirstSettings ∷ OpenBlock ∷ NoBlock ∷ []

-- the rules of each type, which are checked when the frame stands whole, in order
abbrev pub payload_rules : FrameType → List FrameRule
payload_rules types.Data = OnStream ∷ DataPadLength ∷ DataPadding ∷ []
payload_rules types.Headers = OnStream ∷ HeadersLength ∷ HeadersPadding ∷ []
payload_rules types.Priority = OnStream ∷ PriorityLength ∷ []
payload_rules types.RstStream = OnStream ∷ RstStreamLength ∷ []
payload_rules types.Settings = OnConnection ∷ AckPayload ∷ SettingsLength ∷ EnablePush ∷ InitialWindowSize ∷ MaxFrameSize ∷ []
payload_rules types.PushPromise = PushPromise ∷ []
payload_rules types.Ping = OnConnection ∷ PingLength ∷ []
payload_rules types.GoAway = OnConnection ∷ GoAwayLength ∷ []
payload_rules types.WindowUpdate = WindowUpdateLength ∷ Increment ∷ []
payload_rules types.Continuation = []
payload_rules (types.Unknown number) = []

-- the first rule that a frame's header breaks
abbrev pub broken_header : FrameContext → FrameHeader → Option FrameRule
broken_header context header = find (breaks context header []) header_rules

-- the first rule that a whole frame breaks, whose header breaks none, where this end reads it
abbrev pub broken_payload : Role → FrameHeader → List ℕ → Option FrameRule
broken_payload role header payload = find (breaks (new_context role) header payload) (payload_rules header.kind)

-- the error code with which the connection ends where the rule is broken
abbrev pub code_of : FrameRule → ℕ
code_of Preface = PROTOCOL_ERROR
code_of FrameSize = FRAME_SIZE_ERROR
code_of FirstSettings = PROTOCOL_ERROR
code_of OpenBlock = PROTOCOL_ERROR
code_of NoBlock = PROTOCOL_ERROR
code_of OnStream = PROTOCOL_ERROR
code_of OnConnection = PROTOCOL_ERROR
code_of DataPadLength = FRAME_SIZE_ERROR
code_of DataPadding = PROTOCOL_ERROR
code_of HeadersLength = FRAME_SIZE_ERROR
code_of HeadersPadding = PROTOCOL_ERROR
code_of PriorityLength = FRAME_SIZE_ERROR
code_of RstStreamLength = FRAME_SIZE_ERROR
code_of AckPayload = FRAME_SIZE_ERROR
code_of SettingsLength = FRAME_SIZE_ERROR
code_of EnablePush = PROTOCOL_ERROR
code_of InitialWindowSize = FLOW_CONTROL_ERROR
code_of MaxFrameSize = PROTOCOL_ERROR
code_of PushPromise = PROTOCOL_ERROR
code_of PingLength = FRAME_SIZE_ERROR
code_of GoAwayLength = FRAME_SIZE_ERROR
code_of WindowUpdateLength = FRAME_SIZE_ERROR
code_of Increment = PROTOCOL_ERROR
