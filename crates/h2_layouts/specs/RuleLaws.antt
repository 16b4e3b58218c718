-- A reading stops exactly with the first rule that is broken.
use Rattle.std.specs.Prelude.{◌≡◌, ℕ, List, [], ◌∷◌, Option, Some, None, Result, Ok, Err, find, refl}
use Rattle.std.proofs.Common.{arith}
use Rattle.std.proofs.lemmas.Bool.Decides.{nat_tests}
use Rattle.h2_layouts.specs.Contexts.{new_context}
use Rattle.h2_layouts.specs.declared.context.FrameContext.{FrameContext}
use Rattle.h2_layouts.specs.declared.frame_type.FrameType.{FrameType}
use Rattle.h2_layouts.specs.declared.frame_type.FrameType.TheVariants as types
use Rattle.h2_layouts.specs.declared.header.FrameHeader.{FrameHeader}
use Rattle.h2_layouts.specs.declared.role.Role.{Role}
use Rattle.h2_layouts.specs.declared.rule.FrameRule.{FrameRule}
use Rattle.h2_layouts.specs.declared.rule.FrameRule.TheVariants as rules
use Rattle.h2_layouts.specs.Rules.{breaks, payload_rules, broken_payload}
use Rattle.h2_layouts.specs.PayloadReading.{data_of, padded_headers, headers_of, priority_of, rst_stream_of, settings_frame_of, ping_of, goaway_of, window_update_of, frame_by, frame_of}

-- the rule with which a reading stops
abbrev pub rule_of : {A : Type 0} → Result A FrameRule → Option FrameRule
rule_of (Ok x) = None
rule_of (Err rule) = Some rule

data_rule : (c : FrameContext) (h : FrameHeader) (p : List ℕ) → rule_of (data_of h p) ≡ find (breaks c h p) (rules.OnStream ∷ rules.DataPadLength ∷ rules.DataPadding ∷ [])
unfolding data_of
data_rule c h p = grind (arith, nat_tests)

headers_rule : (c : FrameContext) (h : FrameHeader) (p : List ℕ) → rule_of (headers_of h p) ≡ find (breaks c h p) (rules.OnStream ∷ rules.HeadersLength ∷ rules.HeadersPadding ∷ [])
unfolding headers_of padded_headers
headers_rule c h p = grind (arith, nat_tests)

priority_rule : (c : FrameContext) (h : FrameHeader) (p : List ℕ) → rule_of (priority_of h p) ≡ find (breaks c h p) (rules.OnStream ∷ rules.PriorityLength ∷ [])
unfolding priority_of
priority_rule c h p = grind (arith, nat_tests)

rst_stream_rule : (c : FrameContext) (h : FrameHeader) (p : List ℕ) → rule_of (rst_stream_of h p) ≡ find (breaks c h p) (rules.OnStream ∷ rules.RstStreamLength ∷ [])
unfolding rst_stream_of
rst_stream_rule c h p = grind (arith, nat_tests)

settings_rule : (role : Role) (h : FrameHeader) (p : List ℕ) → rule_of (settings_frame_of role h p)
    ≡ find (breaks (new_context role) h p) (rules.OnConnection ∷ rules.AckPayload ∷ rules.SettingsLength ∷ rules.EnablePush ∷ rules.InitialWindowSize ∷ rules.MaxFrameSize ∷ [])
unfolding settings_frame_of
settings_rule role h p = grind (arith, nat_tests)

ping_rule : (c : FrameContext) (h : FrameHeader) (p : List ℕ) → rule_of (ping_of h p) ≡ find (breaks c h p) (rules.OnConnection ∷ rules.PingLength ∷ [])
unfolding ping_of
ping_rule c h p = grind (arith, nat_tests)

goaway_rule : (c : FrameContext) (h : FrameHeader) (p : List ℕ) → rule_of (goaway_of h p) ≡ find (breaks c h p) (rules.OnConnection ∷ rules.GoAwayLength ∷ [])
unfolding goaway_of
goaway_rule c h p = grind (arith, nat_tests)

window_update_rule : (c : FrameContext) (h : FrameHeader) (p : List ℕ) → rule_of (window_update_of h p) ≡ find (breaks c h p) (rules.WindowUpdateLength ∷ rules.Increment ∷ [])
unfolding window_update_of
window_update_rule c h p = grind (arith, nat_tests)

-- each type's reading stops with the first of its rules that is broken
rule_by : (kind : FrameType) (role : Role) (h : FrameHeader) (p : List ℕ) → rule_of (frame_by kind role h p) ≡ find (breaks (new_context role) h p) (payload_rules kind)
rule_by types.Data role h p = data_rule (new_context role) h p
rule_by types.Headers role h p = headers_rule (new_context role) h p
rule_by types.Priority role h p = priority_rule (new_context role) h p
rule_by types.RstStream role h p = rst_stream_rule (new_context role) h p
rule_by types.Settings role h p = settings_rule role h p
rule_by types.PushPromise role h p = refl
rule_by types.Ping role h p = ping_rule (new_context role) h p
rule_by types.GoAway role h p = goaway_rule (new_context role) h p
rule_by types.WindowUpdate role h p = window_update_rule (new_context role) h p
rule_by types.Continuation role h p = refl
rule_by (types.Unknown number) role h p = refl

pub frame_rule : (role : Role) (h : FrameHeader) (p : List ℕ) → rule_of (frame_of role h p) ≡ broken_payload role h p
frame_rule role h p = rule_by h.kind role h p
