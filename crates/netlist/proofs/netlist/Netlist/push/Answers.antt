use Rattle.std.proofs.Common.{rules, ◌≡◌, ◌++◌, ◌∷◌, [], length, arith, subst, sym, ap, ◌∙◌, None}
use Rattle.netlist.specs.Nets.{Fits, width_in}
use Rattle.netlist.specs.Plans.{Plan}
use Rattle.netlist.specs.PlanLaws.{plan_from_push, widths_wide}
use Rattle.netlist.proofs.netlist.Netlist.push.Goals as goal

pub width_of-width-requires-clause-each : goal.width_of-width-requires-clause-each
width_of-width-requires-clause-each c =
    let plan : Plan = record { nets = c.self.inside.nets; widths = c.self.inside.widths; nexts = c.self.inside.nexts } in
    rw c.as_slice.ensures (widths_wide plan c.self.invariant)

pub invariant_of-self-else-is_err-3 : goal.invariant_of-self-else-is_err-3
invariant_of-self-else-is_err-3 c =
    let plan : Plan = record { nets = c.self.inside.nets; widths = c.self.inside.widths; nexts = c.self.inside.nexts } in
    let fits : Fits c.args.net (length c.self.inside.nets) c.self.inside.widths = subst (λ (p : Plan). Fits c.args.net (length p.nets) p.widths) (sym c.self.view_is) c.requires in
    let own : c.width_of-width.result ≡ width_in c.args.net c.self.inside.widths = c.width_of-width.ensures.width ∙ ap (width_in c.args.net) c.as_slice.ensures in
    let nets : c.push-3.new.self ≡ c.self.inside.nets ++ c.args.net ∷ [] = search rules in
    let widths : c.push.new.self ≡ c.self.inside.widths ++ c.width_of-width.result ∷ [] = search rules in
    let nexts : c.push-2.new.self ≡ c.self.inside.nexts ++ None ∷ [] = search rules in
    plan_from_push plan c.args.net _ _ _ c.width_of-width.result c.self.invariant fits own c.width_of-width.ensures.wide (omega arith) nets widths nexts
