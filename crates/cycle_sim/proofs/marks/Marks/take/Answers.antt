use Rattle.std.proofs.Common.{◌<◌, ◌-◌, arith, subst, ap}
use Rattle.std.specs.Prelude.{if◌then◌else◌}
use Rattle.cycle_sim.specs.Marks.{IsFirstMark, found}
use Rattle.cycle_sim.proofs.marks.Marks.take.Goals as goal
use Rattle.cycle_sim.proofs.marks.Marks.take.Goals.{then-from-self, else-from-self}

pub returns-then-place-self-clause-first : goal.returns-then-place-self-clause-first
returns-then-place-self-clause-first c =
    let lt : c.first_mark-place.result < c.self.inside.end =
    elim c.if-from-self.branch [
      | then-from-self w ↦ let e = ap (λ s. s.end) w.self-inside-is in omega arith
      | else-from-self w ↦ let e = ap (λ s. s.end) w.self-inside-is in omega arith
    ] in
    subst (λ ms. IsFirstMark ms c.args.from c.first_mark-place.result) c.self.view_is
    (found c.self.inside.flags.items c.deref.result.now c.self.inside.from c.self.inside.end c.args.from c.max.result c.first_mark-place.result c.self.invariant c.deref.ensures.value c.max.ensures lt
    c.first_mark-place.ensures.from c.first_mark-place.ensures.past c.first_mark-place.ensures.marked c.first_mark-place.ensures.none)
