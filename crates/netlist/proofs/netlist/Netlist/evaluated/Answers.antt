use Rattle.std.proofs.Common.{◌≡◌, ◌<◌, length, subst, sym, ap, ◌∙◌}
use Rattle.netlist.specs.Nets.{Takes, result_of}
use Rattle.netlist.specs.Plans.{Plan, net_at, IsPlan}
use Rattle.netlist.specs.PlanLaws.{takes_at, length-result_at}
use Rattle.netlist.specs.Reading.{net_read}
use Rattle.netlist.proofs.netlist.Netlist.evaluated.Goals as goal

pub evaluated-requires : goal.evaluated-requires
evaluated-requires c =
    let plan : Plan = c.args.self.now in
    let kept : IsPlan plan = subst IsPlan c.self.view_is c.self.invariant in
    let nets : c.as_slice-nets.result.now ≡ plan.nets = c.as_slice-nets.ensures ∙ ap (λ (p : Plan). p.nets) c.self.view_is in
    let lt : c.args.id < length c.as_slice-nets.result.now = subst (λ ns. c.args.id < length ns) (sym nets) c.requires.within in
    let is : c.index-nets-id.result ≡ net_at plan.nets c.args.id = net_read c.as_slice-nets.result.now c.args.id c.index-nets-id.result lt c.index-nets-id.is ∙ ap (λ ns. net_at ns c.args.id) nets in
    subst (λ n. Takes n c.args.words.now) (sym is) (takes_at plan kept c.args.id c.args.words.now c.requires.within c.requires.computed c.requires.operands)

pub returns-clause-width : goal.returns-clause-width
returns-clause-width c =
    let plan : Plan = c.args.self.now in
    let kept : IsPlan plan = subst IsPlan c.self.view_is c.self.invariant in
    let nets : c.as_slice-nets.result.now ≡ plan.nets = c.as_slice-nets.ensures ∙ ap (λ (p : Plan). p.nets) c.self.view_is in
    let lt : c.args.id < length c.as_slice-nets.result.now = subst (λ ns. c.args.id < length ns) (sym nets) c.requires.within in
    let is : c.index-nets-id.result ≡ net_at plan.nets c.args.id = net_read c.as_slice-nets.result.now c.args.id c.index-nets-id.result lt c.index-nets-id.is ∙ ap (λ ns. net_at ns c.args.id) nets in
    ap length (c.evaluated.ensures ∙ ap (λ n. result_of n c.args.words.now) is) ∙ length-result_at plan kept c.args.id c.args.words.now c.requires.within c.requires.computed c.requires.operands
