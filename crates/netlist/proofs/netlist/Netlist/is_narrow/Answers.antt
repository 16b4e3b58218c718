use Rattle.std.proofs.Common.{◌≡◌, ◌<◌, List, ℕ, length, subst, sym, ap, ◌∙◌}
use Rattle.std.specs.List.{AllByRecursion}
use Rattle.netlist.specs.Nets.{width_at, sources}
use Rattle.netlist.specs.Plans.{Plan, net_at, IsPlan}
use Rattle.netlist.specs.NarrowLaws.{sources_among, narrow_test}
use Rattle.netlist.specs.Reading.{net_read}
use Rattle.netlist.proofs.netlist.Netlist.is_narrow.Goals as goal

pub are_narrow-requires : goal.are_narrow-requires
are_narrow-requires c =
    let plan : Plan = c.args.self.now in
    let kept : IsPlan plan = subst IsPlan c.self.view_is c.self.invariant in
    let nets : c.as_slice-nets.result.now ≡ plan.nets = c.as_slice-nets.ensures ∙ ap (λ (p : Plan). p.nets) c.self.view_is in
    let widths : c.as_slice-widths.result.now ≡ plan.widths = c.as_slice-widths.ensures ∙ ap (λ (p : Plan). p.widths) c.self.view_is in
    let lt : c.args.id < length c.as_slice-nets.result.now = subst (λ ns. c.args.id < length ns) (sym nets) c.requires in
    let is : c.index-nets-id.result ≡ net_at plan.nets c.args.id = net_read c.as_slice-nets.result.now c.args.id c.index-nets-id.result lt c.index-nets-id.is ∙ ap (λ ns. net_at ns c.args.id) nets in
    subst (λ m. AllByRecursion (λ source. source < length c.as_slice-widths.result.now) (sources m)) (sym is)
    (subst (λ (ws : List ℕ). AllByRecursion (λ source. source < length ws) (sources (net_at plan.nets c.args.id))) (sym widths) (sources_among plan c.args.id kept c.requires))

pub returns : goal.returns
returns c =
    let plan : Plan = c.args.self.now in
    let kept : IsPlan plan = subst IsPlan c.self.view_is c.self.invariant in
    let nets : c.as_slice-nets.result.now ≡ plan.nets = c.as_slice-nets.ensures ∙ ap (λ (p : Plan). p.nets) c.self.view_is in
    let widths : c.as_slice-widths.result.now ≡ plan.widths = c.as_slice-widths.ensures ∙ ap (λ (p : Plan). p.widths) c.self.view_is in
    let lt : c.args.id < length c.as_slice-nets.result.now = subst (λ ns. c.args.id < length ns) (sym nets) c.requires in
    let is : c.index-nets-id.result ≡ net_at plan.nets c.args.id = net_read c.as_slice-nets.result.now c.args.id c.index-nets-id.result lt c.index-nets-id.is ∙ ap (λ ns. net_at ns c.args.id) nets in
    narrow_test plan c.args.id c.index-nets-id.result (width_at c.as_slice-widths.result.now c.args.id) c.as_slice-widths.result.now c.are_narrow.result is (ap (λ (ws : List ℕ). width_at ws c.args.id) widths) widths c.are_narrow.ensures
