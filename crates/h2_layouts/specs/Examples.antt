-- Worked examples. Each of them holds by computing.
use Rattle.std.specs.Prelude.{◌≡◌, [], ◌∷◌, false, true, None, Some, Ok, refl}
use Rattle.h2_layouts.specs.declared.code.TheConstants.{FRAME_SIZE_ERROR}
use Rattle.h2_layouts.specs.declared.frame.Frame.TheVariants.{Content, Settings, SettingsAck, Ping, GoAway, Update}
use Rattle.h2_layouts.specs.declared.frame_type.FrameType.TheVariants as types
use Rattle.h2_layouts.specs.declared.role.Role.TheVariants.{Server, Client}
use Rattle.h2_layouts.specs.declared.rule.FrameRule.TheVariants as rules
use Rattle.h2_layouts.specs.Headers.{header_of}
use Rattle.h2_layouts.specs.PayloadReading.{frame_of, data_of}
use Rattle.h2_layouts.specs.Rules.{broken_header, broken_payload}
use Rattle.h2_layouts.specs.Written.{octets_of}

-- the frames with which a server begins: MAX_CONCURRENT_STREAMS 64 and MAX_HEADER_LIST_SIZE 16,384, and a larger window
first_settings : octets_of (Settings (record { id = 3; value = 64 } ∷ record { id = 6; value = 16384 } ∷ []))
    ≡ 0 ∷ 0 ∷ 12 ∷ 4 ∷ 0 ∷ 0 ∷ 0 ∷ 0 ∷ 0 ∷ 0 ∷ 3 ∷ 0 ∷ 0 ∷ 0 ∷ 64 ∷ 0 ∷ 6 ∷ 0 ∷ 0 ∷ 64 ∷ 0 ∷ []
first_settings = refl

first_window : octets_of (Update 0 983041) ≡ 0 ∷ 0 ∷ 4 ∷ 8 ∷ 0 ∷ 0 ∷ 0 ∷ 0 ∷ 0 ∷ 0 ∷ 15 ∷ 0 ∷ 1 ∷ []
first_window = refl

-- answers to SETTINGS and to PING, and the end by FRAME_SIZE_ERROR
settings_answer : octets_of SettingsAck ≡ 0 ∷ 0 ∷ 0 ∷ 4 ∷ 1 ∷ 0 ∷ 0 ∷ 0 ∷ 0 ∷ []
settings_answer = refl

ping_answer : octets_of (Ping true (1 ∷ 2 ∷ 3 ∷ 4 ∷ 5 ∷ 6 ∷ 7 ∷ 8 ∷ [])) ≡ 0 ∷ 0 ∷ 8 ∷ 6 ∷ 1 ∷ 0 ∷ 0 ∷ 0 ∷ 0 ∷ 1 ∷ 2 ∷ 3 ∷ 4 ∷ 5 ∷ 6 ∷ 7 ∷ 8 ∷ []
ping_answer = refl

connection_end : octets_of (GoAway 0 FRAME_SIZE_ERROR) ≡ 0 ∷ 0 ∷ 8 ∷ 7 ∷ 0 ∷ 0 ∷ 0 ∷ 0 ∷ 0 ∷ 0 ∷ 0 ∷ 0 ∷ 0 ∷ 0 ∷ 0 ∷ 0 ∷ 6 ∷ []
connection_end = refl

-- a length of 16,385 is too long, and one of 16,384 is not
too_long : broken_header (record { role = Server; first = false; block = None }) (header_of (0 ∷ 64 ∷ 1 ∷ 0 ∷ 0 ∷ 0 ∷ 0 ∷ 0 ∷ 1 ∷ [])) ≡ Some rules.FrameSize
too_long = refl

longest : broken_header (record { role = Server; first = false; block = None }) (header_of (0 ∷ 64 ∷ 0 ∷ 0 ∷ 0 ∷ 0 ∷ 0 ∷ 0 ∷ 1 ∷ [])) ≡ None
longest = refl

-- the reserved bit is ignored
reserved : header_of (0 ∷ 0 ∷ 1 ∷ 0 ∷ 0 ∷ 128 ∷ 0 ∷ 0 ∷ 1 ∷ []) ≡ record { length = 1; kind = types.Data; flags = 0; stream = 1 }
reserved = refl

-- inside a header block of stream 1
interrupted : broken_header (record { role = Server; first = false; block = Some 1 }) (header_of (0 ∷ 0 ∷ 8 ∷ 6 ∷ 0 ∷ 0 ∷ 0 ∷ 0 ∷ 0 ∷ [])) ≡ Some rules.OpenBlock
interrupted = refl

-- DATA with two octets and two of padding, which counts five; and padding that is as long as the payload
padded : frame_of Server (record { length = 5; kind = types.Data; flags = 9; stream = 1 }) (2 ∷ 170 ∷ 187 ∷ 0 ∷ 0 ∷ []) ≡ Ok (Content 1 true (170 ∷ 187 ∷ []) 5)
unfolding data_of
padded = refl

overpadded : broken_payload Server (record { length = 3; kind = types.Data; flags = 8; stream = 1 }) (3 ∷ 170 ∷ 187 ∷ []) ≡ Some rules.DataPadding
overpadded = refl

-- a server sends no ENABLE_PUSH 1, a client may; and the rules of values are checked rule by rule
push : broken_payload Client (record { length = 6; kind = types.Settings; flags = 0; stream = 0 }) (0 ∷ 2 ∷ 0 ∷ 0 ∷ 0 ∷ 1 ∷ []) ≡ Some rules.EnablePush
push = refl

client_push : broken_payload Server (record { length = 6; kind = types.Settings; flags = 0; stream = 0 }) (0 ∷ 2 ∷ 0 ∷ 0 ∷ 0 ∷ 1 ∷ []) ≡ None
client_push = refl

push_first : broken_payload Server (record { length = 12; kind = types.Settings; flags = 0; stream = 0 }) (0 ∷ 4 ∷ 128 ∷ 0 ∷ 0 ∷ 0 ∷ 0 ∷ 2 ∷ 0 ∷ 0 ∷ 0 ∷ 2 ∷ []) ≡ Some rules.EnablePush
push_first = refl

-- an increment of 0 on the connection
no_increment : broken_payload Server (record { length = 4; kind = types.WindowUpdate; flags = 0; stream = 0 }) (128 ∷ 0 ∷ 0 ∷ 0 ∷ []) ≡ Some rules.Increment
no_increment = refl
