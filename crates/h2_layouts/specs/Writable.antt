-- Which frames are written, by a test.
use Rattle.std.specs.Prelude.{◌≡◌, ◌↔◌, ℕ, ◌*◌, ◌%◌, ◌<◌, ◌≤◌, ◌==◌, nat_lt, nat_le, Bool, true, false, not, ◌&&◌, List, length, Option, Some, None, is_none, refl, IsTrue, if◌then◌else◌}
use Rattle.std.specs.List.{flat_map}
use Rattle.std.proofs.Common.{arith, ap, ◌∙◌, sym, lit<, lit≤}
use Rattle.std.proofs.lemmas.Bool.Decides.{nat_tests}
use Rattle.h2_layouts.specs.declared.frame.Frame.{Frame}
use Rattle.h2_layouts.specs.declared.frame.Frame.TheVariants.{Content, Head, Priority, Reset, Settings, SettingsAck, Ping, GoAway, Update, Continued, Unknown}
use Rattle.h2_layouts.specs.declared.limit.TheConstants.{LONGEST_PAYLOAD, STREAMS}
use Rattle.h2_layouts.specs.declared.role.Role.{Role}
use Rattle.h2_layouts.specs.declared.role.Role.TheVariants.{Server, Client}
use Rattle.h2_layouts.specs.declared.rule.FrameRule.TheVariants as rules
use Rattle.h2_layouts.specs.declared.setting.Setting.{Setting}
use Rattle.h2_layouts.specs.LayoutLaws.{settings_again, settings_len}
use Rattle.h2_layouts.specs.PayloadReading.{broken_setting}
use Rattle.h2_layouts.specs.Rules.{broken_payload, settings_of}
use Rattle.h2_layouts.specs.Written.{setting_octets, header_for, payload_of, IsWritable}
use Rattle.h2_layouts.specs.WrittenLaws.{settings_written}

-- a stream, and not the connection
abbrev pub is_stream : ℕ → Bool
is_stream stream = not (stream == 0) && nat_lt stream STREAMS

-- octets that are no more than a payload may have
abbrev pub fits : List ℕ → Bool
fits octets = nat_le (length octets) LONGEST_PAYLOAD

-- settings that are no more than a payload may have, with values that both ends may read
abbrev pub are_lawful : List Setting → Bool
are_lawful pairs = nat_le (6 * length pairs) LONGEST_PAYLOAD && is_none (broken_setting Server pairs) && is_none (broken_setting Client pairs)

abbrev pub is_writable : Frame → Bool
is_writable (Content stream end octets flow) = is_stream stream && fits octets && flow == length octets
is_writable (Head stream end last octets) = is_stream stream && fits octets
is_writable (Priority stream) = is_stream stream
is_writable (Reset stream code) = is_stream stream
is_writable (Settings pairs) = are_lawful pairs
is_writable SettingsAck = true
is_writable (Ping ack octets) = length octets == 8
is_writable (GoAway last code) = nat_lt last STREAMS
is_writable (Update stream increment) = nat_lt stream STREAMS && nat_lt increment STREAMS && not (stream == 0 && increment == 0)
is_writable (Continued stream last octets) = nat_lt stream STREAMS && fits octets
is_writable (Unknown number) = false

-- ---- where the test says so, a frame is one that is written

data_lawful : (role : Role) (stream : ℕ) (end : Bool) (octets : List ℕ) (flow : ℕ) → (stream == 0) ≡ false → broken_payload role (header_for (Content stream end octets flow)) octets ≡ None
data_lawful role stream true octets flow e = grind (arith, nat_tests)
data_lawful role stream false octets flow e = grind (arith, nat_tests)

headers_lawful : (role : Role) (stream : ℕ) (end last : Bool) (octets : List ℕ) → (stream == 0) ≡ false → broken_payload role (header_for (Head stream end last octets)) octets ≡ None
headers_lawful role stream true true octets e = grind (arith, nat_tests)
headers_lawful role stream true false octets e = grind (arith, nat_tests)
headers_lawful role stream false true octets e = grind (arith, nat_tests)
headers_lawful role stream false false octets e = grind (arith, nat_tests)

priority_lawful : (role : Role) (stream : ℕ) → (stream == 0) ≡ false → broken_payload role (header_for (Priority stream)) (payload_of (Priority stream)) ≡ None
priority_lawful role stream e = grind (arith, nat_tests)

rst_stream_lawful : (role : Role) (stream code : ℕ) → (stream == 0) ≡ false → broken_payload role (header_for (Reset stream code)) (payload_of (Reset stream code)) ≡ None
rst_stream_lawful role stream code e = grind (arith, nat_tests)

window_update_lawful : (role : Role) (stream increment : ℕ) → increment < 2147483648 → (stream == 0 && increment == 0) ≡ false → broken_payload role (header_for (Update stream increment)) (payload_of (Update stream increment)) ≡ None
window_update_lawful role stream increment h e = grind (arith, nat_tests)

ping_lawful : (role : Role) (ack : Bool) (octets : List ℕ) → (length octets == 8) ≡ true → broken_payload role (header_for (Ping ack octets)) octets ≡ None
ping_lawful role ack octets e = grind (arith, nat_tests)

none_is : {A : Type 0} (o : Option A) → is_none o ≡ true → o ≡ None
none_is None e = refl
none_is (Some x) e = absurd (cc e)

-- the rules of settings are those of their values
settings_rules : (role : Role) (pairs : List Setting) → broken_payload role (header_for (Settings pairs)) (flat_map setting_octets pairs) ≡ broken_setting role pairs
settings_rules role pairs =
    let count = settings_len (flat_map setting_octets pairs) pairs (settings_written pairs) in
    let six : (length (flat_map setting_octets pairs) % 6 == 0) ≡ true = grind (arith, nat_tests) in
    ap (λ b. if not b then Some rules.SettingsLength else broken_setting role (settings_of (flat_map setting_octets pairs))) six
    ∙ ap (λ ss. broken_setting role ss) (settings_again (flat_map setting_octets pairs) pairs (settings_written pairs))

settings_len_is : (pairs : List Setting) → length (flat_map setting_octets pairs) ≡ 6 * length pairs
settings_len_is pairs = settings_len (flat_map setting_octets pairs) pairs (settings_written pairs)

record AreLawful (pairs : List Setting) : Type 0 where
  short : 6 * length pairs ≤ 16384
  server : broken_setting Server pairs ≡ None
  client : broken_setting Client pairs ≡ None

three : (a b c : Bool) → (a && b && c) ≡ true → (a ≡ true) × (b ≡ true) × (c ≡ true)
three a b c e = (grind arith, grind arith, grind arith)

lawful_settings : (pairs : List Setting) → are_lawful pairs ≡ true → AreLawful pairs
lawful_settings pairs e =
    let t = three (nat_le (6 * length pairs) 16384) (is_none (broken_setting Server pairs)) (is_none (broken_setting Client pairs)) e in
    record { short = grind (arith, nat_tests, t.0); server = none_is (broken_setting Server pairs) t.1; client = none_is (broken_setting Client pairs) t.2 }

settings_lawful : (role : Role) (pairs : List Setting) → AreLawful pairs → broken_payload role (header_for (Settings pairs)) (flat_map setting_octets pairs) ≡ None
settings_lawful Server pairs l = settings_rules Server pairs ∙ l.server
settings_lawful Client pairs l = settings_rules Client pairs ∙ l.client

test_writable : (f : Frame) → is_writable f ≡ true → IsWritable f
test_writable (Content stream end octets flow) e = record {
  payload = grind (arith, nat_tests);
  stream = grind (arith, nat_tests);
  numbers = grind (arith, nat_tests);
  lawful = λ role. data_lawful role stream end octets flow (grind (arith, nat_tests));
}
test_writable (Head stream end last octets) e = record {
  payload = grind (arith, nat_tests);
  stream = grind (arith, nat_tests);
  numbers = tt;
  lawful = λ role. headers_lawful role stream end last octets (grind (arith, nat_tests));
}
test_writable (Priority stream) e = record {
  payload = lit≤ tt;
  stream = grind (arith, nat_tests);
  numbers = tt;
  lawful = λ role. priority_lawful role stream (grind (arith, nat_tests));
}
test_writable (Reset stream code) e = record {
  payload = lit≤ tt;
  stream = grind (arith, nat_tests);
  numbers = tt;
  lawful = λ role. rst_stream_lawful role stream code (grind (arith, nat_tests));
}
test_writable (Settings pairs) e =
    let l = lawful_settings pairs e in
    let short = l.short in
    let count = settings_len_is pairs in
    record { payload = omega arith; stream = lit< tt; numbers = tt; lawful = λ role. settings_lawful role pairs l }
test_writable SettingsAck e = record { payload = lit≤ tt; stream = lit< tt; numbers = tt; lawful = λ role. refl }
test_writable (Ping ack octets) e = record {
  payload = grind (arith, nat_tests);
  stream = lit< tt;
  numbers = tt;
  lawful = λ role. ping_lawful role ack octets e;
}
test_writable (GoAway last code) e = record { payload = lit≤ tt; stream = lit< tt; numbers = grind (arith, nat_tests); lawful = λ role. refl }
test_writable (Update stream increment) e = record {
  payload = lit≤ tt;
  stream = grind (arith, nat_tests);
  numbers = grind (arith, nat_tests);
  lawful = λ role. window_update_lawful role stream increment (grind (arith, nat_tests)) (grind (arith, nat_tests));
}
test_writable (Continued stream last octets) e = record {
  payload = grind (arith, nat_tests);
  stream = grind (arith, nat_tests);
  numbers = tt;
  lawful = λ role. refl;
}
test_writable (Unknown number) e = absurd (cc e)

-- ---- and nowhere else

data_on : (stream : ℕ) (end : Bool) (octets : List ℕ) (flow : ℕ) → broken_payload Server (header_for (Content stream end octets flow)) octets ≡ None → (stream == 0) ≡ false
data_on stream end octets flow e = grind (arith, nat_tests)

headers_on : (stream : ℕ) (end last : Bool) (octets : List ℕ) → broken_payload Server (header_for (Head stream end last octets)) octets ≡ None → (stream == 0) ≡ false
headers_on stream end last octets e = grind (arith, nat_tests)

priority_on : (stream : ℕ) → broken_payload Server (header_for (Priority stream)) (payload_of (Priority stream)) ≡ None → (stream == 0) ≡ false
priority_on stream e = grind (arith, nat_tests)

rst_stream_on : (stream code : ℕ) → broken_payload Server (header_for (Reset stream code)) (payload_of (Reset stream code)) ≡ None → (stream == 0) ≡ false
rst_stream_on stream code e = grind (arith, nat_tests)

window_update_on : (stream increment : ℕ) → increment < 2147483648 → broken_payload Server (header_for (Update stream increment)) (payload_of (Update stream increment)) ≡ None → (stream == 0 && increment == 0) ≡ false
window_update_on stream increment h e = grind (arith, nat_tests)

ping_on : (ack : Bool) (octets : List ℕ) → broken_payload Server (header_for (Ping ack octets)) octets ≡ None → (length octets == 8) ≡ true
ping_on ack octets e = grind (arith, nat_tests)

stream_test : (stream : ℕ) → (stream == 0) ≡ false → stream < 2147483648 → is_stream stream ≡ true
stream_test stream e h = grind (arith, nat_tests)

fits_test : (octets : List ℕ) → length octets ≤ 16384 → fits octets ≡ true
fits_test octets h = grind (arith, nat_tests)

both : (a b : Bool) → a ≡ true → b ≡ true → (a && b) ≡ true
both a b e g = grind arith

is_none_test : {A : Type 0} (o : Option A) → o ≡ None → is_none o ≡ true
is_none_test o e = ap is_none e

writable_test : (f : Frame) → IsWritable f → is_writable f ≡ true
writable_test (Content stream end octets flow) w =
    let on = stream_test stream (data_on stream end octets flow (w.lawful Server)) w.stream in
    let count : (flow == length octets) ≡ true = let n = w.numbers in grind (arith, nat_tests) in
    both (is_stream stream && fits octets) (flow == length octets) (both (is_stream stream) (fits octets) on (fits_test octets w.payload)) count
writable_test (Head stream end last octets) w =
    both (is_stream stream) (fits octets) (stream_test stream (headers_on stream end last octets (w.lawful Server)) w.stream) (fits_test octets w.payload)
writable_test (Priority stream) w = stream_test stream (priority_on stream (w.lawful Server)) w.stream
writable_test (Reset stream code) w = stream_test stream (rst_stream_on stream code (w.lawful Server)) w.stream
writable_test (Settings pairs) w =
    let count = settings_len_is pairs in
    let short = w.payload in
    let small : nat_le (6 * length pairs) 16384 ≡ true = grind (arith, nat_tests) in
    let server = is_none_test (broken_setting Server pairs) (sym (settings_rules Server pairs) ∙ w.lawful Server) in
    let client = is_none_test (broken_setting Client pairs) (sym (settings_rules Client pairs) ∙ w.lawful Client) in
    both (nat_le (6 * length pairs) 16384 && is_none (broken_setting Server pairs)) (is_none (broken_setting Client pairs))
    (both (nat_le (6 * length pairs) 16384) (is_none (broken_setting Server pairs)) small server) client
writable_test SettingsAck w = refl
writable_test (Ping ack octets) w = ping_on ack octets (w.lawful Server)
writable_test (GoAway last code) w = let n : last < 2147483648 = w.numbers in grind (arith, nat_tests)
writable_test (Update stream increment) w =
    let s : stream < 2147483648 = w.stream in
    let n : increment < 2147483648 = w.numbers in
    let on = window_update_on stream increment n (w.lawful Server) in
    grind (arith, nat_tests)
writable_test (Continued stream last octets) w =
    let s : stream < 2147483648 = w.stream in
    let small : nat_lt stream 2147483648 ≡ true = grind (arith, nat_tests) in
    both (nat_lt stream 2147483648) (fits octets) small (fits_test octets w.payload)
writable_test (Unknown number) w = absurd w.numbers

-- the test is exact
pub writable_tested : (f : Frame) (answer : Bool) → answer ≡ is_writable f → IsTrue answer ↔ IsWritable f
writable_tested f answer e = (λ t. test_writable f (sym e ∙ t), λ w. e ∙ writable_test f w)
