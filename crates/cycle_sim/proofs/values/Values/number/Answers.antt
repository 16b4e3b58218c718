use Rattle.std.proofs.Common.{List, ℕ, arith, ap, sym, ◌∙◌, length}
use Rattle.std.specs.List.{slice_index_or}
use Rattle.cycle_sim.specs.Stored.{within_numbers, number_stored}
use Rattle.cycle_sim.proofs.values.Values.number.Goals as goal

pub prove-unreachable-requires : goal.prove-unreachable-requires
prove-unreachable-requires c = let lt = within_numbers c.self.inside.words c.self.inside.numbers c.args.self.now c.args.place c.self.invariant c.self.view_is c.requires.within in let e = ap length c.as_slice-numbers.ensures in omega arith

pub returns : goal.returns
returns c = ap (λ (ns : List ℕ). slice_index_or ns c.args.place 0) c.as_slice-numbers.ensures ∙ sym (number_stored c.self.inside.words c.self.inside.numbers c.args.self.now c.args.place c.self.invariant c.self.view_is c.requires.within c.requires.narrow)
