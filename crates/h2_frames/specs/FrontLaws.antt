-- What is computed of the front of octets is what stands there.
use Rattle.std.specs.Prelude.{◌≡◌, ◌≢◌, ℕ, zero, suc, ◌+◌, ◌<◌, ◌≤◌, ◌==◌, nat_lt, Bool, true, false, ◌&&◌, List, [], ◌∷◌, ◌++◌, length, drop, Option, Some, None, refl, slice_index, if◌then◌else◌}
use Rattle.std.proofs.Common.{inl, inr, sym, ap, ◌∙◌, arith}
use Rattle.std.proofs.lemmas.Bool.Decides.{nat_tests}
use Rattle.std.proofs.lemmas.List.{drop_at, length-append, length-drop}
use Rattle.h2_layouts.specs.declared.context.FrameContext.{FrameContext}
use Rattle.h2_layouts.specs.declared.header.FrameHeader.{FrameHeader}
use Rattle.h2_layouts.specs.declared.rule.FrameRule.{FrameRule}
use Rattle.h2_layouts.specs.declared.rule.FrameRule.TheVariants.{Preface}
use Rattle.h2_layouts.specs.Headers.{header_of}
use Rattle.h2_layouts.specs.Rules.{broken_header}
use Rattle.h2_frames.specs.declared.front.Front.{Front}
use Rattle.h2_frames.specs.declared.front.Front.TheVariants.{Whole, Broken, Unfinished}
use Rattle.h2_frames.specs.Front.{front_by_rule, front_after_preface, front_of}
use Rattle.h2_frames.specs.Prefaces.{agrees, preface_due}
use Rattle.h2_frames.specs.Reading.{Reading}
use Rattle.h2_frames.specs.Streams.{BreaksPreface, BreaksHeader, Breaks}

-- ---- the preface

-- a text agrees with what it begins
pub agrees_front : (text rest : List ℕ) → agrees text (text ++ rest) ≡ true
agrees_front [] rest = refl
agrees_front (a ∷ text) rest =
    let same : (a == a) ≡ true = grind (arith, nat_tests) in
    ap (λ b. b && agrees text (text ++ rest)) same ∙ agrees_front text rest

-- what agrees with a text and is no shorter begins with it
agreed : (text octets : List ℕ) → agrees text octets ≡ true → length text ≤ length octets → octets ≡ text ++ drop (length text) octets
agreed [] octets e h = refl
agreed (a ∷ text) [] e h = absurd (omega arith)
agreed (a ∷ text) (b ∷ octets) e h =
    let same : a ≡ b = grind (arith, nat_tests) in
    let others : agrees text octets ≡ true = grind (arith, nat_tests) in
    ap (λ x. x ∷ octets) (sym same) ∙ ap (λ x. a ∷ x) (agreed text octets others (omega arith))

-- an offset at which two texts differ
pub record Differs (text octets : List ℕ) : Type 0 where
  pub at : ℕ
  pub stands : at < length octets
  pub due : at < length text
  pub differs : slice_index text at ≢ slice_index octets at

differs_behind : (a b : ℕ) (text octets : List ℕ) → Differs text octets → Differs (a ∷ text) (b ∷ octets)
differs_behind a b text octets d =
    let s = d.stands in
    let u = d.due in
    record { at = suc d.at; stands = omega arith; due = omega arith; differs = d.differs }

pub disagreed : (text octets : List ℕ) → agrees text octets ≡ false → Differs text octets
disagreed [] octets e = absurd (cc e)
disagreed (a ∷ text) [] e = absurd (cc e)
disagreed (a ∷ text) (b ∷ octets) e = of (a == b) (λ g. disagreed text octets g) refl e
  where
    of : (same : Bool) → (agrees text octets ≡ false → Differs text octets) → (a == b) ≡ same → (same && agrees text octets) ≡ false → Differs (a ∷ text) (b ∷ octets)
    of true others s g = differs_behind a b text octets (others g)
    of false others s g = record { at = 0; stands = omega arith; due = omega arith; differs = grind (arith, nat_tests, s) }

agrees_first : (a b : ℕ) (text octets : List ℕ) → agrees (a ∷ text) (b ∷ octets) ≡ true → (a ≡ b) × (agrees text octets ≡ true)
agrees_first a b text octets e = (grind (arith, nat_tests), grind (arith, nat_tests))

pub differing : (text octets : List ℕ) (at : ℕ) → at < length octets → at < length text → slice_index text at ≢ slice_index octets at → agrees text octets ≡ true → ⊥
differing [] octets at s u n e = omega arith
differing (a ∷ text) [] at s u n e = omega arith
differing (a ∷ text) (b ∷ octets) zero s u n e = n ((agrees_first a b text octets e).0)
differing (a ∷ text) (b ∷ octets) (suc at) s u n e = differing text octets at (omega arith) (omega arith) n ((agrees_first a b text octets e).1)

-- ---- the first nine octets

-- nine octets are checked as a header
pub nine_front : (context : FrameContext) (before : ℕ) (nine following : List ℕ) → length nine ≡ 9
    → front_after_preface context before (nine ++ following) ≡ front_by_rule (broken_header context (header_of nine)) (header_of nine) before (length following)
nine_front context before (a ∷ b ∷ c ∷ d ∷ e ∷ f ∷ g ∷ h ∷ i ∷ []) following n = refl
nine_front context before (a ∷ b ∷ c ∷ d ∷ e ∷ f ∷ g ∷ h ∷ i ∷ j ∷ nine) following n = absurd (omega arith)
nine_front context before [] following n = absurd (omega arith)
nine_front context before (a ∷ []) following n = absurd (omega arith)
nine_front context before (a ∷ b ∷ []) following n = absurd (omega arith)
nine_front context before (a ∷ b ∷ c ∷ []) following n = absurd (omega arith)
nine_front context before (a ∷ b ∷ c ∷ d ∷ []) following n = absurd (omega arith)
nine_front context before (a ∷ b ∷ c ∷ d ∷ e ∷ []) following n = absurd (omega arith)
nine_front context before (a ∷ b ∷ c ∷ d ∷ e ∷ f ∷ []) following n = absurd (omega arith)
nine_front context before (a ∷ b ∷ c ∷ d ∷ e ∷ f ∷ g ∷ []) following n = absurd (omega arith)
nine_front context before (a ∷ b ∷ c ∷ d ∷ e ∷ f ∷ g ∷ h ∷ []) following n = absurd (omega arith)

-- a header that was checked, in octets
record HasHeader (context : FrameContext) (before : ℕ) (octets : List ℕ) (front : Front) : Type 0 where
  nine : List ℕ
  following : List ℕ
  whole : octets ≡ nine ++ following
  nine_len : length nine ≡ 9
  front_is : front_by_rule (broken_header context (header_of nine)) (header_of nine) before (length following) ≡ front

-- what is not unfinished was checked by nine octets
front_nine : (context : FrameContext) (before : ℕ) (octets : List ℕ) (front : Front) → front_after_preface context before octets ≡ front → front ≢ Unfinished → HasHeader context before octets front
front_nine context before (a ∷ b ∷ c ∷ d ∷ e ∷ f ∷ g ∷ h ∷ i ∷ following) front r n =
    record { nine = a ∷ b ∷ c ∷ d ∷ e ∷ f ∷ g ∷ h ∷ i ∷ []; following = following; whole = refl; nine_len = refl; front_is = r }
front_nine context before [] front r n = absurd (n (sym r))
front_nine context before (a ∷ []) front r n = absurd (n (sym r))
front_nine context before (a ∷ b ∷ []) front r n = absurd (n (sym r))
front_nine context before (a ∷ b ∷ c ∷ []) front r n = absurd (n (sym r))
front_nine context before (a ∷ b ∷ c ∷ d ∷ []) front r n = absurd (n (sym r))
front_nine context before (a ∷ b ∷ c ∷ d ∷ e ∷ []) front r n = absurd (n (sym r))
front_nine context before (a ∷ b ∷ c ∷ d ∷ e ∷ f ∷ []) front r n = absurd (n (sym r))
front_nine context before (a ∷ b ∷ c ∷ d ∷ e ∷ f ∷ g ∷ []) front r n = absurd (n (sym r))
front_nine context before (a ∷ b ∷ c ∷ d ∷ e ∷ f ∷ g ∷ h ∷ []) front r n = absurd (n (sym r))

-- ---- judgements of a header

pub record LetThrough (rule : Option FrameRule) (header found : FrameHeader) (before following from : ℕ) : Type 0 where
  pub lawful : rule ≡ None
  pub header_is : header ≡ found
  pub from_is : from ≡ before + 9
  pub there : header.length ≤ following

pub let_through : (rule : Option FrameRule) (header found : FrameHeader) (before following from : ℕ) → front_by_rule rule header before following ≡ Whole found from → LetThrough rule header found before following from
let_through (Some rule) header found before following from e = absurd (cc e)
let_through None header found before following from e = of (nat_lt following header.length) refl e
  where
    of : (short : Bool) → nat_lt following header.length ≡ short → (if short then Unfinished else Whole header (before + 9)) ≡ Whole found from → LetThrough None header found before following from
    of true s g = absurd (cc g)
    of false s g = record { lawful = refl; header_is = cc g; from_is = cc g; there = grind (arith, nat_tests, s) }

broken_first : (rule : Option FrameRule) (header : FrameHeader) (before following : ℕ) (first : FrameRule) → front_by_rule rule header before following ≡ Broken first → rule ≡ Some first
broken_first (Some rule) header before following first e = cc e
broken_first None header before following first e = of (nat_lt following header.length) e
  where
    of : (short : Bool) → (if short then Unfinished else Whole header (before + 9)) ≡ Broken first → None ≡ Some first
    of true g = absurd (cc g)
    of false g = absurd (cc g)

pub whole_by_rule : (header : FrameHeader) (before following : ℕ) → header.length ≤ following → front_by_rule None header before following ≡ Whole header (before + 9)
whole_by_rule header before following h =
    let enough : nat_lt following header.length ≡ false = grind (arith, nat_tests) in
    ap (λ b. if b then Unfinished else Whole header (before + 9)) enough

-- ---- after the preface

abbrev pub due_len : FrameContext → ℕ
due_len context = length (preface_due context)

-- octets that begin with the preface, where it is due, are checked after it
pub front_due : (context : FrameContext) (octets following : List ℕ) → octets ≡ preface_due context ++ following → front_of context octets ≡ front_after_preface context (due_len context) following
front_due context octets following e =
    ap (λ o. front_of context o) e
    ∙ ap (λ b. if b then front_after_preface context (due_len context) (drop (due_len context) (preface_due context ++ following)) else Broken Preface) (agrees_front (preface_due context) following)
    ∙ ap (λ o. front_after_preface context (due_len context) o) (drop_at (preface_due context) following (due_len context) refl)

-- what was checked after the preface
pub record HasHeaderDue (context : FrameContext) (octets : List ℕ) (front : Front) : Type 0 where
  pub nine : List ℕ
  pub following : List ℕ
  pub whole : octets ≡ preface_due context ++ (nine ++ following)
  pub nine_len : length nine ≡ 9
  pub front_is : front_by_rule (broken_header context (header_of nine)) (header_of nine) (due_len context) (length following) ≡ front

short_drop : (n : ℕ) (octets nine following : List ℕ) → drop n octets ≡ nine ++ following → length nine ≡ 9 → n ≤ length octets
short_drop n octets nine following e k = omega (arith, ap length e, length-append nine following, length-drop n octets)

header_due : (context : FrameContext) (octets : List ℕ) (front : Front) → agrees (preface_due context) octets ≡ true
    → HasHeader context (due_len context) (drop (due_len context) octets) front → HasHeaderDue context octets front
header_due context octets front a j = record {
  nine = j.nine;
  following = j.following;
  whole = agreed (preface_due context) octets a (short_drop (due_len context) octets j.nine j.following j.whole j.nine_len) ∙ ap (λ o. preface_due context ++ o) j.whole;
  nine_len = j.nine_len;
  front_is = j.front_is;
}

-- a whole frame was found
pub front_whole : (context : FrameContext) (octets : List ℕ) (header : FrameHeader) (from : ℕ) → front_of context octets ≡ Whole header from → HasHeaderDue context octets (Whole header from)
front_whole context octets header from e = of (agrees (preface_due context) octets) refl e
  where
    whole_is : Whole header from ≢ Unfinished
    whole_is e = cc e

    of : (same : Bool) → agrees (preface_due context) octets ≡ same → (if same then front_after_preface context (due_len context) (drop (due_len context) octets) else Broken Preface) ≡ Whole header from → HasHeaderDue context octets (Whole header from)
    of true a g = header_due context octets (Whole header from) a (front_nine context (due_len context) (drop (due_len context) octets) (Whole header from) g whole_is)
    of false a g = absurd (cc g)

-- a rule is broken by the preface, or by a header
pub front_broken : (old : Reading) (rule : FrameRule) → front_of old.context old.unread ≡ Broken rule → Breaks old rule
front_broken old rule e = of (agrees (preface_due old.context) old.unread) refl e
  where
    broken_is : Broken rule ≢ Unfinished
    broken_is e = cc e

    by_preface : Differs (preface_due old.context) old.unread → BreaksPreface old
    by_preface d = record { at = d.at; stands = d.stands; due = d.due; differs = d.differs }

    by_header : HasHeaderDue old.context old.unread (Broken rule) → BreaksHeader old rule
    by_header j = record { nine = j.nine; following = j.following; whole = j.whole; nine_len = j.nine_len; broken = broken_first (broken_header old.context (header_of j.nine)) (header_of j.nine) (due_len old.context) (length j.following) rule j.front_is }

    of : (same : Bool) → agrees (preface_due old.context) old.unread ≡ same → (if same then front_after_preface old.context (due_len old.context) (drop (due_len old.context) old.unread) else Broken Preface) ≡ Broken rule → Breaks old rule
    of true a g = inr (inl (by_header (header_due old.context old.unread (Broken rule) a (front_nine old.context (due_len old.context) (drop (due_len old.context) old.unread) (Broken rule) g broken_is))))
    of false a g = inl (cc g, by_preface (disagreed (preface_due old.context) old.unread a))
