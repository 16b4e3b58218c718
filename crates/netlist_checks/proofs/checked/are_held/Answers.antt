use Rattle.std.proofs.Common.{◌≡◌, length, arith, ap, ◌∙◌}
use Rattle.netlist.specs.Plans.{Plan}
use Rattle.netlist_checks.proofs.checked.are_held.Goals as goal
use Rattle.netlist_checks.proofs.InputWords.{held_from}

pub returns-clause-held : goal.returns-clause-held
returns-clause-held c = λ t.
    let plan : Plan = c.args.net.now in
    let nets : c.as_slice-nets.result.now ≡ plan.nets = c.as_slice-nets.ensures ∙ c.nets.ensures.nets in
    let count = ap length nets in
    held_from plan c.args.held.now c.loop-at.at c.nets.ensures.kept.plan_kept (omega arith) c.loop-at.invariant
