use Rattle.std.proofs.Common.{◌-◌, true, subst}
use Rattle.cycle_sim.specs.Marks.{IsFirstMark, found}
use Rattle.cycle_sim.proofs.marks.Marks.first.Goals as goal

pub returns-then-place-self : goal.returns-then-place-self
returns-then-place-self c =
    subst (λ ms. IsFirstMark ms c.args.from c.first_mark-place.result) c.self.view_is
    (found c.self.inside.flags.items c.deref.result.now c.self.inside.from c.self.inside.end c.args.from c.max.result c.first_mark-place.result c.self.invariant c.deref.ensures.value c.max.ensures c.if-place-self.true
    c.first_mark-place.ensures.from c.first_mark-place.ensures.past c.first_mark-place.ensures.marked c.first_mark-place.ensures.none)
