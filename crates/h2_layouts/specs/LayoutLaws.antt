-- A reading gives exactly the frame whose layout the header and the payload have.
use Rattle.std.specs.Prelude.{◌≡◌, ℕ, ◌+◌, ◌-◌, ◌*◌, ◌%◌, ◌≤◌, ◌==◌, nat_lt, Bool, true, false, ◌&&◌, List, [], ◌∷◌, ◌++◌, length, take, drop, Option, Some, None, Result, Ok, Err, refl, if◌then◌else◌}
use Rattle.std.proofs.Common.{arith, ap, ◌∙◌, sym, subst, append_assoc}
use Rattle.std.proofs.lemmas.Bool.Decides.{nat_tests}
use Rattle.std.proofs.lemmas.List.{take_at, drop_at, take-append-drop, length-append, length-drop, length-take-le}
use Rattle.h2_layouts.specs.declared.flag.TheConstants.{END_STREAM, ACK, END_HEADERS, PADDED, PRIORITY}
use Rattle.h2_layouts.specs.declared.frame.Frame.{Frame}
use Rattle.h2_layouts.specs.declared.frame.Frame.TheVariants.{Content, Head, Priority, Reset, Settings, SettingsAck, Ping, GoAway, Update, Continued, Unknown}
use Rattle.h2_layouts.specs.declared.frame_type.FrameType.{FrameType}
use Rattle.h2_layouts.specs.declared.frame_type.FrameType.TheVariants as types
use Rattle.h2_layouts.specs.declared.header.FrameHeader.{FrameHeader}
use Rattle.h2_layouts.specs.declared.role.Role.{Role}
use Rattle.h2_layouts.specs.declared.rule.FrameRule.{FrameRule}
use Rattle.h2_layouts.specs.declared.rule.FrameRule.TheVariants as rules
use Rattle.h2_layouts.specs.declared.setting.Setting.{Setting}
use Rattle.h2_layouts.specs.Numbers.{u32_of, u31_of, has}
use Rattle.h2_layouts.specs.Rules.{settings_of, broken_payload}
use Rattle.esi_base.specs.Answers.{◌>>=◌}
use Rattle.h2_layouts.specs.PayloadReading.{stream_of, on_connection, before_padding, padded_data, data_octets, data_of, after_priority, padded_headers, headers_octets, headers_of, priority_of, code_at, rst_stream_of, acknowledged, broken_setting, unless_broken, settings_at, settings_frame_of, eight_octets, ping_of, goaway_at, goaway_of, increment_at, window_update_of, frame_by, frame_of}
use Rattle.h2_layouts.specs.Layouts.{IsPadded, IsData, IsHeaders, IsPriority, IsRstStream, IsSetting, AreSettings, IsSettings, IsSettingsAck, IsPing, IsGoAway, IsWindowUpdate, HasLayout, IsPayload}
use Rattle.h2_layouts.specs.RuleLaws.{rule_of, frame_rule}

-- ---- do-blocks taken apart

bind_ok : {A B : Type 0} (r : Result A FrameRule) (f : A → Result B FrameRule) (y : B) → (r >>= f) ≡ Ok y → (x : A) × (r ≡ Ok x) × (f x ≡ Ok y)
bind_ok (Ok x) f y e = (x, refl, e)
bind_ok (Err rule) f y e = absurd (cc e)

-- what was read
abbrev done : {A : Type 0} → A → Result A FrameRule
done x = Ok x

ok_one : {A : Type 0} (x y : A) → done x ≡ done y → x ≡ y
ok_one x y e = cc e

-- a guard that lets through
passed : {A : Type 0} (b : Bool) (rule : FrameRule) (x y : A) → (if b then Err rule else Ok x) ≡ Ok y → (b ≡ false) × (x ≡ y)
passed true rule x y e = absurd (cc e)
passed false rule x y e = (refl, ok_one x y e)

let_in : {A : Type 0} (b : Bool) (rule : FrameRule) (x y : A) → (if b then Ok x else Err rule) ≡ Ok y → (b ≡ true) × (x ≡ y)
let_in true rule x y e = (refl, ok_one x y e)
let_in false rule x y e = absurd (cc e)

-- ---- padding

padding_layout : (rule : FrameRule) (pad : ℕ) (octets content : List ℕ) → before_padding rule pad octets ≡ Ok content → (padding : List ℕ) × (length padding ≡ pad) × (octets ≡ content ++ padding)
padding_layout rule pad octets content e =
    let g = passed (nat_lt (length octets) pad) rule (take (length octets - pad) octets) content e in
    let enough : pad ≤ length octets = grind (arith, nat_tests, g.0) in (
      drop (length octets - pad) octets,
      omega (arith, length-drop (length octets - pad) octets),
      sym (take-append-drop (length octets - pad) octets) ∙ ap (λ o. o ++ drop (length octets - pad) octets) g.1,
    )

padding_again : (rule : FrameRule) (content padding : List ℕ) → before_padding rule (length padding) (content ++ padding) ≡ Ok content
padding_again rule content padding =
    let enough : nat_lt (length (content ++ padding)) (length padding) ≡ false = grind (arith, nat_tests, length-append content padding) in
    let count : length (content ++ padding) - length padding ≡ length content = omega (arith, length-append content padding) in
    ap (λ b. if b then Err rule else Ok (take (length (content ++ padding) - length padding) (content ++ padding))) enough
    ∙ ap (λ n. Ok (take n (content ++ padding))) count
    ∙ ap (λ o. Ok o) (take_at content padding (length content) refl)

-- ---- DATA

padded_data_layout : (b : Bool) (payload octets : List ℕ) → (if b then padded_data payload else Ok payload) ≡ Ok octets → IsPadded b payload octets
padded_data_layout false payload octets e = ok_one payload octets e
padded_data_layout true [] octets e = absurd (cc e)
padded_data_layout true (pad ∷ rest) octets e = of (padding_layout rules.DataPadding pad rest octets e)
  where
    of : ((padding : List ℕ) × (length padding ≡ pad) × (rest ≡ octets ++ padding)) → IsPadded true (pad ∷ rest) octets
    of (padding, count, whole) = (padding, ap (λ n. n ∷ rest) (sym count) ∙ ap (λ o. length padding ∷ o) whole)

padded_data_again : (b : Bool) (payload octets : List ℕ) → IsPadded b payload octets → (if b then padded_data payload else Ok payload) ≡ Ok octets
padded_data_again false payload octets e = ap (λ o. Ok o) e
padded_data_again true payload octets (padding, e) = ap padded_data e ∙ padding_again rules.DataPadding octets padding

data_layout : (h : FrameHeader) (p : List ℕ) (f : Frame) → h.kind ≡ types.Data → data_of h p ≡ Ok f → HasLayout f h p
unfolding data_of
data_layout h p f k e = of (bind_ok (stream_of h) (λ stream. data_octets h.flags p >>= λ octets. Ok (Content stream (has h.flags END_STREAM) octets (length p))) f e)
  where
    parts : (stream : ℕ) → stream ≡ h.stream → ((octets : List ℕ) × (data_octets h.flags p ≡ Ok octets) × (done (Content stream (has h.flags END_STREAM) octets (length p)) ≡ Ok f)) → HasLayout f h p
    parts stream s (octets, o, g) =
        subst (λ x. HasLayout x h p) (ok_one (Content stream (has h.flags END_STREAM) octets (length p)) f g)
        (record { kind_is = k; stream_is = s; end_is = refl; octets_is = padded_data_layout (has h.flags PADDED) p octets o; flow_is = refl })

    of : ((stream : ℕ) × (stream_of h ≡ Ok stream) × ((data_octets h.flags p >>= λ octets. Ok (Content stream (has h.flags END_STREAM) octets (length p))) ≡ Ok f)) → HasLayout f h p
    of (stream, s, g) =
        parts stream (sym ((passed (h.stream == 0) rules.OnStream h.stream stream s).1))
        (bind_ok (data_octets h.flags p) (λ octets. Ok (Content stream (has h.flags END_STREAM) octets (length p))) f g)

data_again : (h : FrameHeader) (p : List ℕ) (stream : ℕ) (end : Bool) (octets : List ℕ) (flow : ℕ) → (h.stream == 0) ≡ false → IsData h p stream end octets flow → data_of h p ≡ Ok (Content stream end octets flow)
unfolding data_of
data_again h p stream end octets flow on d =
    ap (λ b. (if b then Err rules.OnStream else Ok h.stream) >>= λ s. data_octets h.flags p >>= λ o. Ok (Content s (has h.flags END_STREAM) o (length p))) on
    ∙ ap (λ r. r >>= λ o. Ok (Content h.stream (has h.flags END_STREAM) o (length p))) (padded_data_again (has h.flags PADDED) p octets d.octets_is)
    ∙ ap (λ s. Ok (Content s (has h.flags END_STREAM) octets (length p))) (sym d.stream_is)
    ∙ ap (λ e. Ok (Content stream e octets (length p))) (sym d.end_is)
    ∙ ap (λ n. Ok (Content stream end octets n)) (sym d.flow_is)

-- ---- HEADERS

priority_layout : (b : Bool) (octets content : List ℕ) → (if b then (if nat_lt (length octets) 5 then Err rules.HeadersLength else Ok (drop 5 octets)) else Ok octets) ≡ done content
    → (priority : List ℕ) × (length priority ≡ (if b then 5 else 0)) × (octets ≡ priority ++ content)
priority_layout false octets content e = ([], refl, ok_one octets content e)
priority_layout true octets content e =
    let g = passed (nat_lt (length octets) 5) rules.HeadersLength (drop 5 octets) content e in
    let enough : 5 ≤ length octets = grind (arith, nat_tests, g.0) in (
      take 5 octets,
      length-take-le 5 octets enough,
      sym (take-append-drop 5 octets) ∙ ap (λ o. take 5 octets ++ o) g.1,
    )

priority_again : (b : Bool) (priority content : List ℕ) → length priority ≡ (if b then 5 else 0)
    → (if b then (if nat_lt (length (priority ++ content)) 5 then Err rules.HeadersLength else Ok (drop 5 (priority ++ content))) else Ok (priority ++ content)) ≡ done content
priority_again false [] content h = refl
priority_again false (octet ∷ octets) content h = absurd (omega arith)
priority_again true priority content h =
    let enough : nat_lt (length (priority ++ content)) 5 ≡ false = grind (arith, nat_tests, length-append priority content) in
    ap (λ b. if b then Err rules.HeadersLength else Ok (drop 5 (priority ++ content))) enough
    ∙ ap (λ o. Ok o) (drop_at priority content 5 h)

padded_headers_layout : (b : Bool) (flags : ℕ) (payload content : List ℕ) → (if b then padded_headers flags payload else after_priority flags payload) ≡ done content
    → (priority : List ℕ) × (length priority ≡ (if has flags PRIORITY then 5 else 0)) × IsPadded b payload (priority ++ content)
unfolding padded_headers
padded_headers_layout false flags payload content e = priority_layout (has flags PRIORITY) payload content e
padded_headers_layout true flags [] content e = absurd (cc e)
padded_headers_layout true flags (pad ∷ octets) content e = of (bind_ok (after_priority flags octets) (λ following. before_padding rules.HeadersPadding pad following) content e)
  where
    joined : (following padding priority : List ℕ) → length padding ≡ pad → following ≡ content ++ padding → length priority ≡ (if has flags PRIORITY then 5 else 0) → octets ≡ priority ++ following
        → (priority : List ℕ) × (length priority ≡ (if has flags PRIORITY then 5 else 0)) × IsPadded true (pad ∷ octets) (priority ++ content)
    joined following padding priority count whole five octets_are = (
      priority,
      five,
      (padding, ap (λ n. n ∷ octets) (sym count) ∙ ap (λ o. length padding ∷ o) (octets_are ∙ ap (λ o. priority ++ o) whole ∙ sym (append_assoc priority content padding))),
    )

    parts : (following : List ℕ) → ((padding : List ℕ) × (length padding ≡ pad) × (following ≡ content ++ padding)) → ((priority : List ℕ) × (length priority ≡ (if has flags PRIORITY then 5 else 0)) × (octets ≡ priority ++ following))
        → (priority : List ℕ) × (length priority ≡ (if has flags PRIORITY then 5 else 0)) × IsPadded true (pad ∷ octets) (priority ++ content)
    parts following (padding, count, whole) (priority, five, octets_are) = joined following padding priority count whole five octets_are

    of : ((following : List ℕ) × (after_priority flags octets ≡ Ok following) × (before_padding rules.HeadersPadding pad following ≡ Ok content))
        → (priority : List ℕ) × (length priority ≡ (if has flags PRIORITY then 5 else 0)) × IsPadded true (pad ∷ octets) (priority ++ content)
    of (following, b, c) = parts following (padding_layout rules.HeadersPadding pad following content c) (priority_layout (has flags PRIORITY) octets following b)

padded_headers_again : (b : Bool) (flags : ℕ) (payload priority content : List ℕ) → length priority ≡ (if has flags PRIORITY then 5 else 0) → IsPadded b payload (priority ++ content)
    → (if b then padded_headers flags payload else after_priority flags payload) ≡ done content
unfolding padded_headers
padded_headers_again false flags payload priority content five e = ap (λ o. after_priority flags o) e ∙ priority_again (has flags PRIORITY) priority content five
padded_headers_again true flags payload priority content five (padding, e) =
    ap (λ o. padded_headers flags o) (e ∙ ap (λ o. length padding ∷ o) (append_assoc priority content padding))
    ∙ ap (λ r. r >>= λ following. before_padding rules.HeadersPadding (length padding) following) (priority_again (has flags PRIORITY) priority (content ++ padding) five)
    ∙ padding_again rules.HeadersPadding content padding

headers_layout : (h : FrameHeader) (p : List ℕ) (f : Frame) → h.kind ≡ types.Headers → headers_of h p ≡ Ok f → HasLayout f h p
unfolding headers_of
headers_layout h p f k e = of (bind_ok (stream_of h) (λ stream. headers_octets h.flags p >>= λ octets. Ok (Head stream (has h.flags END_STREAM) (has h.flags END_HEADERS) octets)) f e)
  where
    layout : (stream : ℕ) (octets : List ℕ) → stream ≡ h.stream → ((priority : List ℕ) × (length priority ≡ (if has h.flags PRIORITY then 5 else 0)) × IsPadded (has h.flags PADDED) p (priority ++ octets))
        → IsHeaders h p stream (has h.flags END_STREAM) (has h.flags END_HEADERS) octets
    layout stream octets s (priority, five, padded) = record { kind_is = k; stream_is = s; end_is = refl; last_is = refl; priority = priority; priority_len = five; octets_is = padded }

    parts : (stream : ℕ) → stream ≡ h.stream → ((octets : List ℕ) × (headers_octets h.flags p ≡ Ok octets) × (done (Head stream (has h.flags END_STREAM) (has h.flags END_HEADERS) octets) ≡ Ok f)) → HasLayout f h p
    parts stream s (octets, o, g) =
        subst (λ x. HasLayout x h p) (ok_one (Head stream (has h.flags END_STREAM) (has h.flags END_HEADERS) octets) f g)
        (layout stream octets s (padded_headers_layout (has h.flags PADDED) h.flags p octets o))

    of : ((stream : ℕ) × (stream_of h ≡ Ok stream) × ((headers_octets h.flags p >>= λ octets. Ok (Head stream (has h.flags END_STREAM) (has h.flags END_HEADERS) octets)) ≡ Ok f)) → HasLayout f h p
    of (stream, s, g) =
        parts stream (sym ((passed (h.stream == 0) rules.OnStream h.stream stream s).1))
        (bind_ok (headers_octets h.flags p) (λ octets. Ok (Head stream (has h.flags END_STREAM) (has h.flags END_HEADERS) octets)) f g)

headers_again : (h : FrameHeader) (p : List ℕ) (stream : ℕ) (end last : Bool) (octets : List ℕ) → (h.stream == 0) ≡ false → IsHeaders h p stream end last octets → headers_of h p ≡ Ok (Head stream end last octets)
unfolding headers_of
headers_again h p stream end last octets on d =
    ap (λ b. (if b then Err rules.OnStream else Ok h.stream) >>= λ s. headers_octets h.flags p >>= λ o. Ok (Head s (has h.flags END_STREAM) (has h.flags END_HEADERS) o)) on
    ∙ ap (λ r. r >>= λ o. Ok (Head h.stream (has h.flags END_STREAM) (has h.flags END_HEADERS) o)) (padded_headers_again (has h.flags PADDED) h.flags p d.priority octets d.priority_len d.octets_is)
    ∙ ap (λ s. Ok (Head s (has h.flags END_STREAM) (has h.flags END_HEADERS) octets)) (sym d.stream_is)
    ∙ ap (λ e. Ok (Head stream e (has h.flags END_HEADERS) octets)) (sym d.end_is)
    ∙ ap (λ e. Ok (Head stream end e octets)) (sym d.last_is)

-- ---- PRIORITY

priority_frame_layout : (h : FrameHeader) (p : List ℕ) (f : Frame) → h.kind ≡ types.Priority → priority_of h p ≡ Ok f → HasLayout f h p
unfolding priority_of
priority_frame_layout h p f k e = of (bind_ok (stream_of h) (λ stream. if length p == 5 then Ok (Priority stream) else Err rules.PriorityLength) f e)
  where
    of : ((stream : ℕ) × (stream_of h ≡ Ok stream) × ((if length p == 5 then Ok (Priority stream) else Err rules.PriorityLength) ≡ Ok f)) → HasLayout f h p
    of (stream, s, g) =
        let five = let_in (length p == 5) rules.PriorityLength (Priority stream) f g in
        subst (λ x. HasLayout x h p) five.1
        (record { kind_is = k; stream_is = sym ((passed (h.stream == 0) rules.OnStream h.stream stream s).1); payload_is = grind (arith, nat_tests, five.0) })

priority_frame_again : (h : FrameHeader) (p : List ℕ) (stream : ℕ) → (h.stream == 0) ≡ false → IsPriority h p stream → priority_of h p ≡ Ok (Priority stream)
unfolding priority_of
priority_frame_again h p stream on d =
    ap (λ b. (if b then Err rules.OnStream else Ok h.stream) >>= λ s. if length p == 5 then Ok (Priority s) else Err rules.PriorityLength) on
    ∙ ap (λ n. if n == 5 then Ok (Priority h.stream) else Err rules.PriorityLength) d.payload_is
    ∙ ap (λ s. Ok (Priority s)) (sym d.stream_is)

-- ---- RST_STREAM

record IsCode (payload : List ℕ) (code : ℕ) : Type 0 where
  a : ℕ
  b : ℕ
  c : ℕ
  d : ℕ
  payload_is : payload ≡ a ∷ b ∷ c ∷ d ∷ []
  code_is : code ≡ u32_of a b c d

code_layout : (payload : List ℕ) (code : ℕ) → code_at payload ≡ Ok code → IsCode payload code
code_layout (a ∷ b ∷ c ∷ d ∷ []) code e = record { a = a; b = b; c = c; d = d; payload_is = refl; code_is = sym (ok_one (u32_of a b c d) code e) }
code_layout [] code e = absurd (cc e)
code_layout (a ∷ []) code e = absurd (cc e)
code_layout (a ∷ b ∷ []) code e = absurd (cc e)
code_layout (a ∷ b ∷ c ∷ []) code e = absurd (cc e)
code_layout (a ∷ b ∷ c ∷ d ∷ g ∷ payload) code e = absurd (cc e)

rst_stream_layout : (h : FrameHeader) (p : List ℕ) (f : Frame) → h.kind ≡ types.RstStream → rst_stream_of h p ≡ Ok f → HasLayout f h p
unfolding rst_stream_of
rst_stream_layout h p f k e = of (bind_ok (stream_of h) (λ stream. code_at p >>= λ code. Ok (Reset stream code)) f e)
  where
    parts : (stream : ℕ) → stream ≡ h.stream → ((code : ℕ) × (code_at p ≡ Ok code) × (done (Reset stream code) ≡ Ok f)) → HasLayout f h p
    parts stream s (code, c, g) =
        let is = code_layout p code c in
        subst (λ x. HasLayout x h p) (ok_one (Reset stream code) f g)
        (record { kind_is = k; stream_is = s; a = is.a; b = is.b; c = is.c; d = is.d; payload_is = is.payload_is; code_is = is.code_is })

    of : ((stream : ℕ) × (stream_of h ≡ Ok stream) × ((code_at p >>= λ code. Ok (Reset stream code)) ≡ Ok f)) → HasLayout f h p
    of (stream, s, g) = parts stream (sym ((passed (h.stream == 0) rules.OnStream h.stream stream s).1)) (bind_ok (code_at p) (λ code. Ok (Reset stream code)) f g)

rst_stream_again : (h : FrameHeader) (p : List ℕ) (stream code : ℕ) → (h.stream == 0) ≡ false → IsRstStream h p stream code → rst_stream_of h p ≡ Ok (Reset stream code)
unfolding rst_stream_of
rst_stream_again h p stream code on d =
    ap (λ b. (if b then Err rules.OnStream else Ok h.stream) >>= λ s. code_at p >>= λ c. Ok (Reset s c)) on
    ∙ ap (λ o. code_at o >>= λ c. Ok (Reset h.stream c)) d.payload_is
    ∙ ap (λ n. Ok (Reset h.stream n)) (sym d.code_is)
    ∙ ap (λ s. Ok (Reset s code)) (sym d.stream_is)

-- ---- SETTINGS

-- octets in sixes are settings, and no others
pub settings_layout : (payload : List ℕ) → length payload % 6 ≡ 0 → AreSettings payload (settings_of payload)
settings_layout [] h = refl
settings_layout (a ∷ []) h = absurd (omega arith)
settings_layout (a ∷ b ∷ []) h = absurd (omega arith)
settings_layout (a ∷ b ∷ c ∷ []) h = absurd (omega arith)
settings_layout (a ∷ b ∷ c ∷ d ∷ []) h = absurd (omega arith)
settings_layout (a ∷ b ∷ c ∷ d ∷ e ∷ []) h = absurd (omega arith)
settings_layout (a ∷ b ∷ c ∷ d ∷ e ∷ f ∷ payload) h = (
  payload,
  record { a = a; b = b; c = c; d = d; e = e; f = f; octets_is = refl; id_is = refl; value_is = refl },
  settings_layout payload (omega arith),
)

setting_again : (octets following : List ℕ) (setting : Setting) → IsSetting octets setting following → settings_of octets ≡ setting ∷ settings_of following
setting_again octets following setting s =
    ap settings_of s.octets_is
    ∙ ap (λ n. record { id = n; value = u32_of s.c s.d s.e s.f } ∷ settings_of following) (sym s.id_is)
    ∙ ap (λ n. record { id = setting.id; value = n } ∷ settings_of following) (sym s.value_is)

pub settings_again : (payload : List ℕ) (settings : List Setting) → AreSettings payload settings → settings_of payload ≡ settings
settings_again payload [] e = ap settings_of e
settings_again payload (setting ∷ settings) (following, first, others) = setting_again payload following setting first ∙ ap (λ ss. setting ∷ ss) (settings_again following settings others)

pub settings_len : (payload : List ℕ) (settings : List Setting) → AreSettings payload settings → length payload ≡ 6 * length settings
settings_len payload [] e = ap length e
settings_len payload (setting ∷ settings) (following, first, others) =
    let count = settings_len following settings others in
    let whole : length payload ≡ length following + 6 = ap length first.octets_is ∙ omega arith in
    omega arith

unless_ok : (settings : List Setting) (rule : Option FrameRule) (f : Frame) → unless_broken settings rule ≡ Ok f → (rule ≡ None) × (Settings settings ≡ f)
unless_ok settings None f e = (refl, ok_one (Settings settings) f e)
unless_ok settings (Some rule) f e = absurd (cc e)

settings_frame_layout : (role : Role) (h : FrameHeader) (p : List ℕ) (f : Frame) → h.kind ≡ types.Settings → settings_frame_of role h p ≡ Ok f → HasLayout f h p
unfolding settings_frame_of
settings_frame_layout role h p f k e = of (bind_ok (on_connection h) (λ nothing. if has h.flags ACK then acknowledged p else settings_at role p) f e)
  where
    empty : (o : List ℕ) → length o ≡ 0 → o ≡ []
    empty [] n = refl
    empty (a ∷ o) n = absurd (omega arith)

    parts : (ack : Bool) → has h.flags ACK ≡ ack → (if ack then acknowledged p else settings_at role p) ≡ Ok f → HasLayout f h p
    parts true a g =
        let none = let_in (length p == 0) rules.AckPayload SettingsAck f g in
        subst (λ x. HasLayout x h p) none.1 (record { kind_is = k; ack_is = a; payload_is = empty p (grind (arith, nat_tests, none.0)) })
    parts false a g = sixes a (length p % 6 == 0) refl g
      where
        sixes : has h.flags ACK ≡ false → (six : Bool) → (length p % 6 == 0) ≡ six → (if six then unless_broken (settings_of p) (broken_setting role (settings_of p)) else Err rules.SettingsLength) ≡ Ok f → HasLayout f h p
        sixes a false s g = absurd (cc g)
        sixes a true s g =
            let fine = unless_ok (settings_of p) (broken_setting role (settings_of p)) f g in
            subst (λ x. HasLayout x h p) fine.1 (record { kind_is = k; ack_is = a; pairs_is = settings_layout p (grind (arith, nat_tests, s)) })

    of : ((nothing : Unit {0}) × (on_connection h ≡ Ok nothing) × ((if has h.flags ACK then acknowledged p else settings_at role p) ≡ Ok f)) → HasLayout f h p
    of (nothing, c, g) = parts (has h.flags ACK) refl g

-- ---- PING

eight_layout : (payload octets : List ℕ) → eight_octets payload ≡ Ok octets → (payload ≡ octets) × (length octets ≡ 8)
eight_layout (a ∷ b ∷ c ∷ d ∷ e ∷ f ∷ g ∷ h ∷ []) octets r =
    let same = ok_one (a ∷ b ∷ c ∷ d ∷ e ∷ f ∷ g ∷ h ∷ []) octets r in
    (same, ap length (sym same))
eight_layout [] octets r = absurd (cc r)
eight_layout (a ∷ []) octets r = absurd (cc r)
eight_layout (a ∷ b ∷ []) octets r = absurd (cc r)
eight_layout (a ∷ b ∷ c ∷ []) octets r = absurd (cc r)
eight_layout (a ∷ b ∷ c ∷ d ∷ []) octets r = absurd (cc r)
eight_layout (a ∷ b ∷ c ∷ d ∷ e ∷ []) octets r = absurd (cc r)
eight_layout (a ∷ b ∷ c ∷ d ∷ e ∷ f ∷ []) octets r = absurd (cc r)
eight_layout (a ∷ b ∷ c ∷ d ∷ e ∷ f ∷ g ∷ []) octets r = absurd (cc r)
eight_layout (a ∷ b ∷ c ∷ d ∷ e ∷ f ∷ g ∷ h ∷ i ∷ payload) octets r = absurd (cc r)

eight_again : (octets : List ℕ) → length octets ≡ 8 → eight_octets octets ≡ Ok octets
eight_again (a ∷ b ∷ c ∷ d ∷ e ∷ f ∷ g ∷ h ∷ []) n = refl
eight_again [] n = absurd (omega arith)
eight_again (a ∷ []) n = absurd (omega arith)
eight_again (a ∷ b ∷ []) n = absurd (omega arith)
eight_again (a ∷ b ∷ c ∷ []) n = absurd (omega arith)
eight_again (a ∷ b ∷ c ∷ d ∷ []) n = absurd (omega arith)
eight_again (a ∷ b ∷ c ∷ d ∷ e ∷ []) n = absurd (omega arith)
eight_again (a ∷ b ∷ c ∷ d ∷ e ∷ f ∷ []) n = absurd (omega arith)
eight_again (a ∷ b ∷ c ∷ d ∷ e ∷ f ∷ g ∷ []) n = absurd (omega arith)
eight_again (a ∷ b ∷ c ∷ d ∷ e ∷ f ∷ g ∷ h ∷ i ∷ octets) n = absurd (omega arith)

ping_layout : (h : FrameHeader) (p : List ℕ) (f : Frame) → h.kind ≡ types.Ping → ping_of h p ≡ Ok f → HasLayout f h p
unfolding ping_of
ping_layout h p f k e = of (bind_ok (on_connection h) (λ nothing. eight_octets p >>= λ octets. Ok (Ping (has h.flags ACK) octets)) f e)
  where
    parts : ((octets : List ℕ) × (eight_octets p ≡ Ok octets) × (done (Ping (has h.flags ACK) octets) ≡ Ok f)) → HasLayout f h p
    parts (octets, o, g) =
        let eight = eight_layout p octets o in
        subst (λ x. HasLayout x h p) (ok_one (Ping (has h.flags ACK) octets) f g) (record { kind_is = k; ack_is = refl; payload_is = eight.0; eight = eight.1 })

    of : ((nothing : Unit {0}) × (on_connection h ≡ Ok nothing) × ((eight_octets p >>= λ octets. Ok (Ping (has h.flags ACK) octets)) ≡ Ok f)) → HasLayout f h p
    of (nothing, c, g) = parts (bind_ok (eight_octets p) (λ octets. Ok (Ping (has h.flags ACK) octets)) f g)

ping_again : (h : FrameHeader) (p : List ℕ) (ack : Bool) (octets : List ℕ) → (h.stream == 0) ≡ true → IsPing h p ack octets → ping_of h p ≡ Ok (Ping ack octets)
unfolding ping_of
ping_again h p ack octets on d =
    ap (λ b. (if b then Ok tt else Err rules.OnConnection) >>= λ nothing. eight_octets p >>= λ o. Ok (Ping (has h.flags ACK) o)) on
    ∙ ap (λ o. eight_octets o >>= λ x. Ok (Ping (has h.flags ACK) x)) d.payload_is
    ∙ ap (λ r. r >>= λ x. Ok (Ping (has h.flags ACK) x)) (eight_again octets d.eight)
    ∙ ap (λ a. Ok (Ping a octets)) (sym d.ack_is)

-- ---- GOAWAY

goaway_octets_layout : (h : FrameHeader) (p : List ℕ) (f : Frame) → h.kind ≡ types.GoAway → goaway_at p ≡ Ok f → HasLayout f h p
goaway_octets_layout h (a ∷ b ∷ c ∷ d ∷ e ∷ i ∷ j ∷ l ∷ debug) f k r =
    subst (λ x. HasLayout x h (a ∷ b ∷ c ∷ d ∷ e ∷ i ∷ j ∷ l ∷ debug)) (ok_one (GoAway (u31_of a b c d) (u32_of e i j l)) f r)
    (record { kind_is = k; a = a; b = b; c = c; d = d; e = e; f = i; g = j; h = l; debug = debug; payload_is = refl; last_is = refl; code_is = refl })
goaway_octets_layout h [] f k r = absurd (cc r)
goaway_octets_layout h (a ∷ []) f k r = absurd (cc r)
goaway_octets_layout h (a ∷ b ∷ []) f k r = absurd (cc r)
goaway_octets_layout h (a ∷ b ∷ c ∷ []) f k r = absurd (cc r)
goaway_octets_layout h (a ∷ b ∷ c ∷ d ∷ []) f k r = absurd (cc r)
goaway_octets_layout h (a ∷ b ∷ c ∷ d ∷ e ∷ []) f k r = absurd (cc r)
goaway_octets_layout h (a ∷ b ∷ c ∷ d ∷ e ∷ i ∷ []) f k r = absurd (cc r)
goaway_octets_layout h (a ∷ b ∷ c ∷ d ∷ e ∷ i ∷ j ∷ []) f k r = absurd (cc r)

goaway_layout : (h : FrameHeader) (p : List ℕ) (f : Frame) → h.kind ≡ types.GoAway → goaway_of h p ≡ Ok f → HasLayout f h p
unfolding goaway_of
goaway_layout h p f k e = of (bind_ok (on_connection h) (λ nothing. goaway_at p) f e)
  where
    of : ((nothing : Unit {0}) × (on_connection h ≡ Ok nothing) × (goaway_at p ≡ Ok f)) → HasLayout f h p
    of (nothing, c, g) = goaway_octets_layout h p f k g

goaway_again : (h : FrameHeader) (p : List ℕ) (last code : ℕ) → (h.stream == 0) ≡ true → IsGoAway h p last code → goaway_of h p ≡ Ok (GoAway last code)
unfolding goaway_of
goaway_again h p last code on d =
    ap (λ b. (if b then Ok tt else Err rules.OnConnection) >>= λ nothing. goaway_at p) on
    ∙ ap goaway_at d.payload_is
    ∙ ap (λ n. Ok (GoAway n (u32_of d.e d.f d.g d.h))) (sym d.last_is)
    ∙ ap (λ n. Ok (GoAway last n)) (sym d.code_is)

-- ---- WINDOW_UPDATE

record IsIncrement (payload : List ℕ) (increment : ℕ) : Type 0 where
  a : ℕ
  b : ℕ
  c : ℕ
  d : ℕ
  payload_is : payload ≡ a ∷ b ∷ c ∷ d ∷ []
  increment_is : increment ≡ u31_of a b c d

increment_layout : (payload : List ℕ) (increment : ℕ) → increment_at payload ≡ Ok increment → IsIncrement payload increment
increment_layout (a ∷ b ∷ c ∷ d ∷ []) increment e = record { a = a; b = b; c = c; d = d; payload_is = refl; increment_is = sym (ok_one (u31_of a b c d) increment e) }
increment_layout [] increment e = absurd (cc e)
increment_layout (a ∷ []) increment e = absurd (cc e)
increment_layout (a ∷ b ∷ []) increment e = absurd (cc e)
increment_layout (a ∷ b ∷ c ∷ []) increment e = absurd (cc e)
increment_layout (a ∷ b ∷ c ∷ d ∷ g ∷ payload) increment e = absurd (cc e)

window_update_layout : (h : FrameHeader) (p : List ℕ) (f : Frame) → h.kind ≡ types.WindowUpdate → window_update_of h p ≡ Ok f → HasLayout f h p
unfolding window_update_of
window_update_layout h p f k e = of (bind_ok (increment_at p) (λ increment. if h.stream == 0 && increment == 0 then Err rules.Increment else Ok (Update h.stream increment)) f e)
  where
    of : ((increment : ℕ) × (increment_at p ≡ Ok increment) × ((if h.stream == 0 && increment == 0 then Err rules.Increment else Ok (Update h.stream increment)) ≡ Ok f)) → HasLayout f h p
    of (increment, i, g) =
        let is = increment_layout p increment i in
        subst (λ x. HasLayout x h p) ((passed (h.stream == 0 && increment == 0) rules.Increment (Update h.stream increment) f g).1)
        (record { kind_is = k; stream_is = refl; a = is.a; b = is.b; c = is.c; d = is.d; payload_is = is.payload_is; increment_is = is.increment_is })

-- ---- all types

layout_by : (kind : FrameType) (role : Role) (h : FrameHeader) (p : List ℕ) (f : Frame) → h.kind ≡ kind → frame_by kind role h p ≡ Ok f → HasLayout f h p
layout_by types.Data role h p f k e = data_layout h p f k e
layout_by types.Headers role h p f k e = headers_layout h p f k e
layout_by types.Priority role h p f k e = priority_frame_layout h p f k e
layout_by types.RstStream role h p f k e = rst_stream_layout h p f k e
layout_by types.Settings role h p f k e = settings_frame_layout role h p f k e
layout_by types.PushPromise role h p f k e = absurd (cc e)
layout_by types.Ping role h p f k e = ping_layout h p f k e
layout_by types.GoAway role h p f k e = goaway_layout h p f k e
layout_by types.WindowUpdate role h p f k e = window_update_layout h p f k e
layout_by types.Continuation role h p f k e =
    subst (λ x. HasLayout x h p) (ok_one (Continued h.stream (has h.flags END_HEADERS) p) f e) (record { kind_is = k; stream_is = refl; last_is = refl; octets_is = refl })
layout_by (types.Unknown number) role h p f k e = subst (λ x. HasLayout x h p) (ok_one (Unknown number) f e) (record { kind_is = k })

-- ---- a frame without a broken rule is read

-- a reading that no guard stops
lets_on : {A : Type 0} (b : Bool) (rule : FrameRule) (x : ℕ) (f : ℕ → Result A FrameRule) → rule_of ((if b then Err rule else Ok x) >>= f) ≡ None → b ≡ false
lets_on true rule x f e = absurd (cc e)
lets_on false rule x f e = refl

lets_in : {A : Type 0} (b : Bool) (rule : FrameRule) (f : Unit {0} → Result A FrameRule) → rule_of ((if b then Ok tt else Err rule) >>= f) ≡ None → b ≡ true
lets_in true rule f e = refl
lets_in false rule f e = absurd (cc e)

on_stream_data : (h : FrameHeader) (p : List ℕ) → rule_of (data_of h p) ≡ None → (h.stream == 0) ≡ false
unfolding data_of
on_stream_data h p e = lets_on (h.stream == 0) rules.OnStream h.stream (λ stream. data_octets h.flags p >>= λ octets. Ok (Content stream (has h.flags END_STREAM) octets (length p))) e

on_stream_headers : (h : FrameHeader) (p : List ℕ) → rule_of (headers_of h p) ≡ None → (h.stream == 0) ≡ false
unfolding headers_of
on_stream_headers h p e = lets_on (h.stream == 0) rules.OnStream h.stream (λ stream. headers_octets h.flags p >>= λ octets. Ok (Head stream (has h.flags END_STREAM) (has h.flags END_HEADERS) octets)) e

on_stream_priority : (h : FrameHeader) (p : List ℕ) → rule_of (priority_of h p) ≡ None → (h.stream == 0) ≡ false
unfolding priority_of
on_stream_priority h p e = lets_on (h.stream == 0) rules.OnStream h.stream (λ stream. if length p == 5 then Ok (Priority stream) else Err rules.PriorityLength) e

on_stream_rst : (h : FrameHeader) (p : List ℕ) → rule_of (rst_stream_of h p) ≡ None → (h.stream == 0) ≡ false
unfolding rst_stream_of
on_stream_rst h p e = lets_on (h.stream == 0) rules.OnStream h.stream (λ stream. code_at p >>= λ code. Ok (Reset stream code)) e

on_connection_settings : (role : Role) (h : FrameHeader) (p : List ℕ) → rule_of (settings_frame_of role h p) ≡ None → (h.stream == 0) ≡ true
unfolding settings_frame_of
on_connection_settings role h p e = lets_in (h.stream == 0) rules.OnConnection (λ nothing. if has h.flags ACK then acknowledged p else settings_at role p) e

on_connection_ping : (h : FrameHeader) (p : List ℕ) → rule_of (ping_of h p) ≡ None → (h.stream == 0) ≡ true
unfolding ping_of
on_connection_ping h p e = lets_in (h.stream == 0) rules.OnConnection (λ nothing. eight_octets p >>= λ octets. Ok (Ping (has h.flags ACK) octets)) e

on_connection_goaway : (h : FrameHeader) (p : List ℕ) → rule_of (goaway_of h p) ≡ None → (h.stream == 0) ≡ true
unfolding goaway_of
on_connection_goaway h p e = lets_in (h.stream == 0) rules.OnConnection (λ nothing. goaway_at p) e

settings_ack_again : (role : Role) (h : FrameHeader) (p : List ℕ) → (h.stream == 0) ≡ true → IsSettingsAck h p → settings_frame_of role h p ≡ Ok SettingsAck
unfolding settings_frame_of
settings_ack_again role h p on d =
    ap (λ b. (if b then Ok tt else Err rules.OnConnection) >>= λ nothing. if has h.flags ACK then acknowledged p else settings_at role p) on
    ∙ ap (λ b. if b then acknowledged p else settings_at role p) d.ack_is
    ∙ ap acknowledged d.payload_is

-- where no value breaks a rule
unless_none : (settings : List Setting) (rule : Option FrameRule) → rule_of (unless_broken settings rule) ≡ None → unless_broken settings rule ≡ Ok (Settings settings)
unless_none settings None e = refl
unless_none settings (Some rule) e = absurd (cc e)

settings_frame_again : (role : Role) (h : FrameHeader) (p : List ℕ) (pairs : List Setting) → rule_of (settings_frame_of role h p) ≡ None → IsSettings h p pairs → settings_frame_of role h p ≡ Ok (Settings pairs)
unfolding settings_frame_of
settings_frame_again role h p pairs e d =
    let on = on_connection_settings role h p e in
    let count = settings_len p pairs d.pairs_is in
    let six : (length p % 6 == 0) ≡ true = grind (arith, nat_tests) in
    let way : settings_frame_of role h p ≡ unless_broken (settings_of p) (broken_setting role (settings_of p))
    = ap (λ b. (if b then Ok tt else Err rules.OnConnection) >>= λ nothing. if has h.flags ACK then acknowledged p else settings_at role p) on
    ∙ ap (λ b. if b then acknowledged p else settings_at role p) d.ack_is
    ∙ ap (λ b. if b then unless_broken (settings_of p) (broken_setting role (settings_of p)) else Err rules.SettingsLength) six in
    way
    ∙ unless_none (settings_of p) (broken_setting role (settings_of p)) (ap rule_of (sym way) ∙ e)
    ∙ ap (λ ss. Ok (Settings ss)) (settings_again p pairs d.pairs_is)

-- a reading that its guard lets through
guarded : {A : Type 0} (b : Bool) (rule : FrameRule) (x : A) → rule_of (if b then Err rule else Ok x) ≡ None → (if b then Err rule else Ok x) ≡ done x
guarded true rule x e = absurd (cc e)
guarded false rule x e = refl

window_update_again : (h : FrameHeader) (p : List ℕ) (stream increment : ℕ) → rule_of (window_update_of h p) ≡ None → IsWindowUpdate h p stream increment → window_update_of h p ≡ Ok (Update stream increment)
unfolding window_update_of
window_update_again h p stream increment e d =
    let way : window_update_of h p ≡ (if h.stream == 0 && u31_of d.a d.b d.c d.d == 0 then Err rules.Increment else Ok (Update h.stream (u31_of d.a d.b d.c d.d)))
    = ap (λ o. increment_at o >>= λ i. if h.stream == 0 && i == 0 then Err rules.Increment else Ok (Update h.stream i)) d.payload_is in
    way
    ∙ guarded (h.stream == 0 && u31_of d.a d.b d.c d.d == 0) rules.Increment (Update h.stream (u31_of d.a d.b d.c d.d)) (ap rule_of (sym way) ∙ e)
    ∙ ap (λ n. Ok (Update h.stream n)) (sym d.increment_is)
    ∙ ap (λ s. Ok (Update s increment)) (sym d.stream_is)

-- no rule of the type is broken
abbrev IsLawful : FrameType → Role → FrameHeader → List ℕ → Type 0
IsLawful kind role h p = rule_of (frame_by kind role h p) ≡ None

again_by : (f : Frame) (role : Role) (h : FrameHeader) (p : List ℕ) → HasLayout f h p → IsLawful h.kind role h p → frame_by h.kind role h p ≡ Ok f
again_by (Content stream end octets flow) role h p d e =
    let lawful : rule_of (data_of h p) ≡ None = subst (λ k. IsLawful k role h p) d.kind_is e in
    ap (λ k. frame_by k role h p) d.kind_is ∙ data_again h p stream end octets flow (on_stream_data h p lawful) d
again_by (Head stream end last octets) role h p d e =
    let lawful : rule_of (headers_of h p) ≡ None = subst (λ k. IsLawful k role h p) d.kind_is e in
    ap (λ k. frame_by k role h p) d.kind_is ∙ headers_again h p stream end last octets (on_stream_headers h p lawful) d
again_by (Priority stream) role h p d e =
    let lawful : rule_of (priority_of h p) ≡ None = subst (λ k. IsLawful k role h p) d.kind_is e in
    ap (λ k. frame_by k role h p) d.kind_is ∙ priority_frame_again h p stream (on_stream_priority h p lawful) d
again_by (Reset stream code) role h p d e =
    let lawful : rule_of (rst_stream_of h p) ≡ None = subst (λ k. IsLawful k role h p) d.kind_is e in
    ap (λ k. frame_by k role h p) d.kind_is ∙ rst_stream_again h p stream code (on_stream_rst h p lawful) d
again_by (Settings pairs) role h p d e =
    ap (λ k. frame_by k role h p) d.kind_is ∙ settings_frame_again role h p pairs (subst (λ k. IsLawful k role h p) d.kind_is e) d
again_by SettingsAck role h p d e =
    ap (λ k. frame_by k role h p) d.kind_is ∙ settings_ack_again role h p (on_connection_settings role h p (subst (λ k. IsLawful k role h p) d.kind_is e)) d
again_by (Ping ack octets) role h p d e =
    ap (λ k. frame_by k role h p) d.kind_is ∙ ping_again h p ack octets (on_connection_ping h p (subst (λ k. IsLawful k role h p) d.kind_is e)) d
again_by (GoAway last code) role h p d e =
    ap (λ k. frame_by k role h p) d.kind_is ∙ goaway_again h p last code (on_connection_goaway h p (subst (λ k. IsLawful k role h p) d.kind_is e)) d
again_by (Update stream increment) role h p d e =
    ap (λ k. frame_by k role h p) d.kind_is ∙ window_update_again h p stream increment (subst (λ k. IsLawful k role h p) d.kind_is e) d
again_by (Continued stream last octets) role h p d e =
    ap (λ k. frame_by k role h p) d.kind_is
    ∙ ap (λ s. Ok (Continued s (has h.flags END_HEADERS) p)) (sym d.stream_is)
    ∙ ap (λ l. Ok (Continued stream l p)) (sym d.last_is)
    ∙ ap (λ o. Ok (Continued stream last o)) d.octets_is
again_by (Unknown number) role h p d e = ap (λ k. frame_by k role h p) d.kind_is

-- ---- a reading is exact

pub frame_read : (role : Role) (h : FrameHeader) (p : List ℕ) (f : Frame) → frame_of role h p ≡ Ok f → IsPayload role h p f
frame_read role h p f e = record { lawful = sym (frame_rule role h p) ∙ ap rule_of e; layout = layout_by h.kind role h p f refl e }

pub payload_read : (role : Role) (h : FrameHeader) (p : List ℕ) (f : Frame) → IsPayload role h p f → frame_of role h p ≡ Ok f
payload_read role h p f is = again_by f role h p is.layout (frame_rule role h p ∙ is.lawful)

pub rule_read : (role : Role) (h : FrameHeader) (p : List ℕ) (rule : FrameRule) → frame_of role h p ≡ Err rule → broken_payload role h p ≡ Some rule
rule_read role h p rule e = sym (frame_rule role h p) ∙ ap rule_of e

some_rule : (r : Result Frame FrameRule) (rule : FrameRule) → rule_of r ≡ Some rule → r ≡ Err rule
some_rule (Ok f) rule e = absurd (cc e)
some_rule (Err other) rule e = ap (λ x. Err x) (cc e)

pub broken_read : (role : Role) (h : FrameHeader) (p : List ℕ) (rule : FrameRule) → broken_payload role h p ≡ Some rule → frame_of role h p ≡ Err rule
broken_read role h p rule e = some_rule (frame_of role h p) rule (frame_rule role h p ∙ e)
