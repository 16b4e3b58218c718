use Rattle.std.proofs.Common.{◌≡◌, ◌<◌, length, subst, sym, ap, ◌∙◌}
use Rattle.netlist.specs.Nets.{sources}
use Rattle.netlist.specs.Plans.{Plan, net_at, IsPlan}
use Rattle.netlist.proofs.netlist.Netlist.sources.Goals as goal
use Rattle.netlist.specs.Sources.{listed}
use Rattle.netlist.specs.Reading.{net_read, before_from_plan}

pub returns-clause-before : goal.returns-clause-before
returns-clause-before c =
    let plan : Plan = c.args.self.now in
    let kept : IsPlan plan = subst IsPlan c.self.view_is c.self.invariant in
    let nets : c.as_slice-nets.result.now ≡ plan.nets = c.as_slice-nets.ensures ∙ ap (λ (p : Plan). p.nets) c.self.view_is in
    let lt : c.args.id < length c.as_slice-nets.result.now = subst (λ ns. c.args.id < length ns) (sym nets) c.requires in
    let is : c.index-nets-id.result ≡ net_at plan.nets c.args.id = net_read c.as_slice-nets.result.now c.args.id c.index-nets-id.result lt c.index-nets-id.is ∙ ap (λ ns. net_at ns c.args.id) nets in
    before_from_plan plan c.args.id (listed c.sources.result) kept c.requires (c.sources.ensures ∙ ap sources is)
