use Rattle.std.proofs.Common.{List, ℕ, subst, sym, ap, ◌∙◌}
use Rattle.cycle_sim.specs.Stored.{AreStored, shown, within_numbers, put_number_is, stored-put_number}
use Rattle.cycle_sim.proofs.values.Values.put_number.Goals as goal

pub set-before-requires : goal.set-before-requires
set-before-requires c = within_numbers c.self.inside.words c.self.inside.numbers c.args.self.now c.args.place c.self.invariant c.self.view_is c.requires.within

pub invariant_of-self : goal.invariant_of-self
invariant_of-self c = subst (λ (ns : List ℕ). AreStored c.self.inside.words ns) (sym c.set-before.ensures.put) (stored-put_number c.self.inside.words c.self.inside.numbers c.args.self.now c.args.place c.self.invariant c.self.view_is c.requires.within c.args.number c.requires.fits)

pub returns : goal.returns
returns c = ap (shown c.self.inside.words) c.set-before.ensures.put ∙ put_number_is c.self.inside.words c.self.inside.numbers c.args.self.now c.args.place c.self.invariant c.self.view_is c.requires.within c.args.number c.requires.narrow
