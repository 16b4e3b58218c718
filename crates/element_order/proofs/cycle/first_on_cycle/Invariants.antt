use Rattle.element_order.specs.Laws.{TellsFirst}
use Rattle.element_order.specs.Reached.{AreClear}
use Rattle.element_order.proofs.cycle.first_on_cycle.Given as goal

abbrev pub invariant-loop-element : goal.invariant-loop-element
invariant-loop-element l = record {
  clear : AreClear l.needs l.cleared.items;
  first : TellsFirst l.needs l.places l.element l.first;
}
