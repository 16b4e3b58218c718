use Rattle.std.proofs.Common.{◌≡◌, ◌<◌, List, ℕ, All, length, subst, sym, ap, ◌∙◌}
use Rattle.netlist.specs.Nets.{Fits}
use Rattle.netlist.specs.Narrow.{IsNarrowNet, number_in}
use Rattle.netlist.specs.Plans.{Plan, net_at, IsPlan, IsWidth}
use Rattle.netlist.specs.PlanLaws.{widths_wide}
use Rattle.netlist.specs.NarrowLaws.{fits_among, narrow_net, number_at}
use Rattle.netlist.specs.Reading.{net_read}
use Rattle.netlist.proofs.netlist.Netlist.number.Goals as goal

pub number-requires-clause-fits : goal.number-requires-clause-fits
number-requires-clause-fits c =
    let plan : Plan = c.args.self.now in
    let kept : IsPlan plan = subst IsPlan c.self.view_is c.self.invariant in
    let nets : c.as_slice-nets.result.now ≡ plan.nets = c.as_slice-nets.ensures ∙ ap (λ (p : Plan). p.nets) c.self.view_is in
    let widths : c.as_slice.result.now ≡ plan.widths = c.as_slice.ensures ∙ ap (λ (p : Plan). p.widths) c.self.view_is in
    let lt : c.args.id < length c.as_slice-nets.result.now = subst (λ ns. c.args.id < length ns) (sym nets) c.requires.within in
    let is : c.index-nets-id.result ≡ net_at plan.nets c.args.id = net_read c.as_slice-nets.result.now c.args.id c.index-nets-id.result lt c.index-nets-id.is ∙ ap (λ ns. net_at ns c.args.id) nets in
    subst (λ m. Fits m (length c.as_slice.result.now) c.as_slice.result.now) (sym is)
    (subst (λ (ws : List ℕ). Fits (net_at plan.nets c.args.id) (length ws) ws) (sym widths) (fits_among plan c.args.id kept c.requires.within))

pub number-requires-clause-each : goal.number-requires-clause-each
number-requires-clause-each c =
    let plan : Plan = c.args.self.now in
    let kept : IsPlan plan = subst IsPlan c.self.view_is c.self.invariant in
    let widths : c.as_slice.result.now ≡ plan.widths = c.as_slice.ensures ∙ ap (λ (p : Plan). p.widths) c.self.view_is in
    subst (λ (ws : List ℕ). All IsWidth ws) (sym widths) (widths_wide plan kept)

pub number-requires-clause-narrow : goal.number-requires-clause-narrow
number-requires-clause-narrow c =
    let plan : Plan = c.args.self.now in
    let kept : IsPlan plan = subst IsPlan c.self.view_is c.self.invariant in
    let nets : c.as_slice-nets.result.now ≡ plan.nets = c.as_slice-nets.ensures ∙ ap (λ (p : Plan). p.nets) c.self.view_is in
    let widths : c.as_slice.result.now ≡ plan.widths = c.as_slice.ensures ∙ ap (λ (p : Plan). p.widths) c.self.view_is in
    let lt : c.args.id < length c.as_slice-nets.result.now = subst (λ ns. c.args.id < length ns) (sym nets) c.requires.within in
    let is : c.index-nets-id.result ≡ net_at plan.nets c.args.id = net_read c.as_slice-nets.result.now c.args.id c.index-nets-id.result lt c.index-nets-id.is ∙ ap (λ ns. net_at ns c.args.id) nets in
    subst (λ m. IsNarrowNet m c.as_slice.result.now) (sym is)
    (subst (λ (ws : List ℕ). IsNarrowNet (net_at plan.nets c.args.id) ws) (sym widths) (narrow_net plan c.args.id kept c.requires.within c.requires.narrow))

pub returns : goal.returns
returns c = λ words same numbers.
    let plan : Plan = c.args.self.now in
    let kept : IsPlan plan = subst IsPlan c.self.view_is c.self.invariant in
    let nets : c.as_slice-nets.result.now ≡ plan.nets = c.as_slice-nets.ensures ∙ ap (λ (p : Plan). p.nets) c.self.view_is in
    let widths : c.as_slice.result.now ≡ plan.widths = c.as_slice.ensures ∙ ap (λ (p : Plan). p.widths) c.self.view_is in
    let lt : c.args.id < length c.as_slice-nets.result.now = subst (λ ns. c.args.id < length ns) (sym nets) c.requires.within in
    let is : c.index-nets-id.result ≡ net_at plan.nets c.args.id = net_read c.as_slice-nets.result.now c.args.id c.index-nets-id.result lt c.index-nets-id.is ∙ ap (λ ns. net_at ns c.args.id) nets in
    c.number.ensures ∙ ap (λ m. number_in m c.as_slice.result.now c.args.a c.args.b c.args.c) is
    ∙ ap (λ (ws : List ℕ). number_in (net_at plan.nets c.args.id) ws c.args.a c.args.b c.args.c) widths
    ∙ number_at plan c.args.id kept c.requires.within words c.args.a c.args.b c.args.c c.requires.computed c.requires.narrow same numbers
