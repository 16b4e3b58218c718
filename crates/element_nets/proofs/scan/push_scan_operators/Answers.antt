use Rattle.std.proofs.Common.{◌≡◌, ◌+◌, sym, subst}
use Rattle.netlist.specs.Plans.{Plan, IsNextOf}
use Rattle.net_lists.specs.Lists.{with_nets}
use Rattle.net_lists.specs.ListLaws.{on_ok}
use Rattle.element_nets.specs.Scans.{scan_next, scan_fits, scan_can_link}
use Rattle.element_nets.proofs.scan.push_scan_operators.Goals as goal

pub push_nets-requires : goal.push_nets-requires
push_nets-requires c = scan_fits c.args.netlist.now c.args.scan c.args.reset c.args.at c.len-count.ensures.kept c.requires.place c.requires.ready

pub returns-clause-link : goal.returns-clause-link
returns-clause-link c =
    on_ok c.push_nets.result (c.push_nets.new.netlist ≡ with_nets c.args.netlist.now (scan_next c.args.scan c.args.at)) (IsNextOf c.push_nets.new.netlist c.args.scan.register (c.args.at + 1))
    (λ pushed. subst (λ (p : Plan). IsNextOf p c.args.scan.register (c.args.at + 1)) (sym pushed) (scan_can_link c.args.netlist.now c.args.scan c.args.reset c.args.at c.len-count.ensures.kept c.requires.place c.requires.ready))
    c.push_nets.ensures.pushed
