use Rattle.std.proofs.Common.{◌<◌, ◌-◌, length, true, subst, ap, ◌∙◌}
use Rattle.netlist.specs.Plans.{Plan}
use Rattle.cycle_sim.proofs.users.Users.new.Goals as goal
use Rattle.cycle_sim.specs.Users.{users_more}

pub loop-user-preserved : goal.loop-user-preserved
loop-user-preserved c =
    let plan : Plan = c.args.net.now in
    let lt : c.loop-user.user < length plan.nets = subst (λ k. c.loop-user.user < k) (c.len-count.ensures ∙ ap length c.nets.ensures.nets) c.loop-user-test.true in
    users_more plan c.loop-user.lists.items c.note_user.new.lists.items c.loop-user.user c.nets.ensures.kept.plan_kept lt c.in_ok-note_user.ensures c.loop-user.invariant
