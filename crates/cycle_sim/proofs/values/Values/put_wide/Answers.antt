use Rattle.std.proofs.Common.{List, subst, sym, ap, ◌∙◌}
use Rattle.netlist.specs.Nets.{Bits}
use Rattle.cycle_sim.specs.Stored.{AreStored, shown, within_words, put_word_is, stored-put_word}
use Rattle.cycle_sim.proofs.values.Values.put_wide.Goals as goal

pub set-before-requires : goal.set-before-requires
set-before-requires c = within_words c.self.inside.words c.self.inside.numbers c.args.self.now c.args.place c.self.invariant c.self.view_is c.requires.within

pub invariant_of-self : goal.invariant_of-self
invariant_of-self c = subst (λ (ws : List Bits). AreStored ws c.self.inside.numbers) (sym c.set-before.ensures.put) (stored-put_word c.self.inside.words c.self.inside.numbers c.args.self.now c.args.place c.self.invariant c.self.view_is c.requires.within c.args.word c.requires.width)

pub returns : goal.returns
returns c = ap (λ (ws : List Bits). shown ws c.self.inside.numbers) c.set-before.ensures.put ∙ put_word_is c.self.inside.words c.self.inside.numbers c.args.self.now c.args.place c.self.invariant c.self.view_is c.requires.within c.args.word c.requires.wide
