use Rattle.netlist.specs.Plans.{Plan}
use Rattle.netlist.specs.PlanLaws.{plan_from_next}
use Rattle.netlist.proofs.netlist.Netlist.set_next.Goals as goal

pub invariant_of-self : goal.invariant_of-self
invariant_of-self c =
    let plan : Plan = record { nets = c.self.inside.nets; widths = c.self.inside.widths; nexts = c.self.inside.nexts } in
    plan_from_next plan c.args.register c.args.next _ c.self.invariant (rw (c.self.view_is) c.requires) c.set-none_before.ensures.put
