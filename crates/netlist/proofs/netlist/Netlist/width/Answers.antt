use Rattle.std.proofs.Common.{◌<◌, length, subst, sym}
use Rattle.netlist.specs.Plans.{Plan}
use Rattle.netlist.specs.PlanLaws.{wide_at}
use Rattle.netlist.proofs.netlist.Netlist.width.Goals as goal

pub returns-clause-wide : goal.returns-clause-wide
returns-clause-wide c =
    let plan : Plan = record { nets = c.self.inside.nets; widths = c.self.inside.widths; nexts = c.self.inside.nexts } in
    let within : c.args.net < length c.self.inside.nets = subst (λ (p : Plan). c.args.net < length p.nets) (sym c.self.view_is) c.requires in
    rw c.as_slice.ensures (wide_at plan c.args.net c.self.invariant within)
