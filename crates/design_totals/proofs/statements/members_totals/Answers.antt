use Rattle.check_rules.specs.Totals.{member_total}
use Rattle.design_totals.specs.Capped.{capped_totals}
use Rattle.design_totals.proofs.CappedLaws.{joined_next}
use Rattle.design_totals.proofs.statements.members_totals.Goals as goal

pub loop-member-preserved : goal.loop-member-preserved
loop-member-preserved c =
    joined_next (λ m. capped_totals (member_total m)) c.args.members.now c.loop-member.member-index c.member-item.result c.loop-member.totals c.endpoint-more.result c.together-totals.result
    c.loop-member-test.true c.member-item.is c.loop-member.invariant c.endpoint-more.ensures c.together-totals.ensures
