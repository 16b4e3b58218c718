use Rattle.std.proofs.Common.{◌<◌, length, sym, subst}
use Rattle.netlist.specs.Plans.{Plan, IsPlan}
use Rattle.netlist.proofs.sealed.Sealed.next.Goals as goal

pub returns-in-Some-clause-within : goal.returns-in-Some-clause-within
returns-in-Some-clause-within c =
    let plan : Plan = c.self.inside.netlist in
    let kept : IsPlan plan = c.next.ensures.kept in
    let is = kept.set_nexts c.args.register c.in-Some.next (sym c.in-Some.ensures.next) in
    subst (λ (p : Plan). c.in-Some.next < length p.nets) c.self.view_is is.within
