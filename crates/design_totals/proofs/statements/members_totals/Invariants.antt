use Rattle.std.proofs.Common.{◌≡◌, map, take}
use Rattle.check_rules.specs.Totals.{member_total}
use Rattle.design_totals.specs.Capped.{capped_totals, no_totals, joined_from}
use Rattle.design_totals.proofs.statements.members_totals.Given as goal

abbrev pub invariant-loop-member : goal.invariant-loop-member
invariant-loop-member l = l.totals ≡ joined_from no_totals (map (λ m. capped_totals (member_total m)) (take l.member-index l.members))
