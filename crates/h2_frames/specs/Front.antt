-- What stands first in the octets of a connection, computed.
use Rattle.std.specs.Prelude.{ℕ, ◌+◌, ◌≤◌, nat_lt, List, [], ◌∷◌, length, drop, Option, Some, None, if◌then◌else◌}
use Rattle.h2_layouts.specs.declared.context.FrameContext.{FrameContext}
use Rattle.h2_layouts.specs.declared.header.FrameHeader.{FrameHeader}
use Rattle.h2_layouts.specs.declared.rule.FrameRule.{FrameRule}
use Rattle.h2_layouts.specs.declared.rule.FrameRule.TheVariants.{Preface}
use Rattle.h2_layouts.specs.Headers.{header_of}
use Rattle.h2_layouts.specs.Rules.{broken_header}
use Rattle.h2_frames.specs.declared.front.Front.{Front}
use Rattle.h2_frames.specs.declared.front.Front.TheVariants.{Whole, Broken, Unfinished}
use Rattle.h2_frames.specs.Prefaces.{agrees, preface_due}

-- a header, before which so many octets stand and after which so many, where it breaks this rule or none
abbrev pub front_by_rule : Option FrameRule → FrameHeader → ℕ → ℕ → Front
front_by_rule (Some rule) header before following = Broken rule
front_by_rule None header before following = if nat_lt following header.length then Unfinished else Whole header (before + 9)

-- the first nine octets are checked as soon as they stand
abbrev pub front_after_preface : FrameContext → ℕ → List ℕ → Front
front_after_preface context before (a ∷ b ∷ c ∷ number ∷ flags ∷ s ∷ t ∷ u ∷ v ∷ following) =
    let header = header_of (a ∷ b ∷ c ∷ number ∷ flags ∷ s ∷ t ∷ u ∷ v ∷ []) in
    front_by_rule (broken_header context header) header before (length following)
front_after_preface context before octets = Unfinished

-- the preface first, where it is due
abbrev pub front_of : FrameContext → List ℕ → Front
front_of context octets =
    if agrees (preface_due context) octets
    then front_after_preface context (length (preface_due context)) (drop (length (preface_due context)) octets)
    else Broken Preface

-- a whole frame ends within so many octets
abbrev pub EndsWithin : Front → ℕ → Type 0
EndsWithin (Whole header from) len = from + header.length ≤ len
EndsWithin (Broken rule) len = Unit {0}
EndsWithin Unfinished len = Unit {0}
