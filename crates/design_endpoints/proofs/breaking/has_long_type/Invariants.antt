use Rattle.std.proofs.Common.{◌≡◌, false, take}
use Rattle.std.specs.List.{list_any}
use Rattle.design_endpoints.specs.BindRules.{has_long_text}
use Rattle.design_endpoints.proofs.breaking.has_long_type.Given as goal

abbrev pub invariant-loop-member : goal.invariant-loop-member
invariant-loop-member l = list_any has_long_text (take l.member-index l.members) ≡ false
