use Rattle.cycle_sim.specs.Stored.{stored_first, shown_first}
use Rattle.std.proofs.Common.{ap, ◌∙◌, map}
use Rattle.cycle_sim.specs.Stored.{stored_number}
use Rattle.cycle_sim.proofs.values.Values.new.Goals as goal

pub invariant_of-result : goal.invariant_of-result
invariant_of-result c = stored_first c.args.words c.in_ok-numbers.numbers (c.in_ok-numbers.ensures ∙ ap (map stored_number) c.as_slice.ensures)

pub returns : goal.returns
returns c = shown_first c.args.words c.in_ok-numbers.numbers (c.in_ok-numbers.ensures ∙ ap (map stored_number) c.as_slice.ensures)
