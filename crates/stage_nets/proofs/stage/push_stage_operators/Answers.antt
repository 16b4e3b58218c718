use Rattle.std.proofs.Common.{◌≡◌, sym, subst}
use Rattle.netlist.specs.Plans.{Plan}
use Rattle.net_lists.specs.Lists.{with_nets}
use Rattle.net_lists.specs.ListLaws.{on_ok}
use Rattle.stage_nets.specs.Stage.{stage_next, CanLink}
use Rattle.stage_nets.specs.StageFits.{stage_fits, stage_can_link}
use Rattle.stage_nets.proofs.stage.push_stage_operators.Goals as goal

pub push_nets-requires : goal.push_nets-requires
push_nets-requires c = stage_fits c.args.netlist.now c.args.stage c.args.at c.len-count.ensures.kept c.requires.place c.requires.ready

pub returns-clause-link : goal.returns-clause-link
returns-clause-link c =
    on_ok c.push_nets.result (c.push_nets.new.netlist ≡ with_nets c.args.netlist.now (stage_next c.args.stage c.args.at)) (CanLink c.push_nets.new.netlist c.args.stage.registers c.args.at)
    (λ pushed. subst (λ (p : Plan). CanLink p c.args.stage.registers c.args.at) (sym pushed) (stage_can_link c.args.netlist.now c.args.stage c.args.at c.len-count.ensures.kept c.requires.place c.requires.ready))
    c.push_nets.ensures.pushed
