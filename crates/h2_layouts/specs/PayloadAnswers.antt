-- What a reader of payloads answers.
use Rattle.std.specs.Prelude.{◌≡◌, ◌⊎◌, ℕ, List, Some, Result, Ok, Err, IfOk, IsErrOf}
use Rattle.std.proofs.Common.{◌∙◌, inl, inr, subst}
use Rattle.h2_layouts.specs.declared.frame.Frame.{Frame}
use Rattle.h2_layouts.specs.declared.header.FrameHeader.{FrameHeader}
use Rattle.h2_layouts.specs.declared.role.Role.{Role}
use Rattle.h2_layouts.specs.declared.rule.FrameRule.{FrameRule}
use Rattle.esi_base.specs.Answers.{Reads}
use Rattle.esi_base.specs.declared.stop.Stop.{Stop}
use Rattle.esi_base.specs.declared.stop.Stop.TheVariants.{Refused, NoMemory}
use Rattle.h2_layouts.specs.Layouts.{IsPayload}
use Rattle.h2_layouts.specs.LayoutLaws.{frame_read, payload_read, rule_read, broken_read}
use Rattle.h2_layouts.specs.PayloadReading.{frame_of}
use Rattle.h2_layouts.specs.Rules.{broken_payload}

pub frame_found : (role : Role) (h : FrameHeader) (p : List ℕ) (answer : Result Frame (Stop FrameRule)) → Reads (frame_of role h p) answer → IfOk answer (λ f. IsPayload role h p f)
frame_found role h p (Ok f) e = frame_read role h p f e
frame_found role h p (Err stop) e = tt

pub frame_only : (role : Role) (h : FrameHeader) (p : List ℕ) (answer : Result Frame (Stop FrameRule)) → Reads (frame_of role h p) answer
    → (f : Frame) → IsPayload role h p f → Reads (Ok f) answer
frame_only role h p answer e f is = subst (λ reading. Reads reading answer) (payload_read role h p f is) e

-- a stop by a rule
abbrev stops_by : FrameRule → Result Frame (Stop FrameRule)
stops_by rule = Err (Refused rule)

same_rule : (other rule : FrameRule) → stops_by other ≡ stops_by rule → Some other ≡ Some rule
same_rule other rule b = cc b

pub rule_found : (role : Role) (h : FrameHeader) (p : List ℕ) (answer : Result Frame (Stop FrameRule)) → Reads (frame_of role h p) answer
    → (rule : FrameRule) → IsErrOf answer (Refused rule) → broken_payload role h p ≡ Some rule
rule_found role h p (Ok f) e rule b = absurd (cc b)
rule_found role h p (Err (Refused other)) e rule b = rule_read role h p other e ∙ same_rule other rule b
rule_found role h p (Err NoMemory) e rule b = absurd (cc b)

pub rule_only : (role : Role) (h : FrameHeader) (p : List ℕ) (answer : Result Frame (Stop FrameRule)) → Reads (frame_of role h p) answer
    → (rule : FrameRule) → broken_payload role h p ≡ Some rule → Reads (Err rule) answer
rule_only role h p answer e rule b = subst (λ reading. Reads reading answer) (broken_read role h p rule b) e

-- a header and a payload are a frame, or they break a rule
pub record HasFrame (role : Role) (h : FrameHeader) (p : List ℕ) : Type 0 where
  pub frame : Frame
  pub is_payload : IsPayload role h p frame

pub record HasRule (role : Role) (h : FrameHeader) (p : List ℕ) : Type 0 where
  pub rule : FrameRule
  pub broken : broken_payload role h p ≡ Some rule

of_reading : (role : Role) (h : FrameHeader) (p : List ℕ) (reading : Result Frame FrameRule) → frame_of role h p ≡ reading → HasFrame role h p ⊎ HasRule role h p
of_reading role h p (Ok f) e = inl (record { frame = f; is_payload = frame_read role h p f e })
of_reading role h p (Err rule) e = inr (record { rule = rule; broken = rule_read role h p rule e })

pub frame_or_rule : (role : Role) (h : FrameHeader) (p : List ℕ) → HasFrame role h p ⊎ HasRule role h p
frame_or_rule role h p = of_reading role h p (frame_of role h p) (λ i. frame_of role h p)
