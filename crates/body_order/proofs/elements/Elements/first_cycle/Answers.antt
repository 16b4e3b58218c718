use Rattle.std.proofs.Common.{length, subst, sym, ◌∙◌}
use Rattle.std.specs.Prelude.{All}
use Rattle.element_order.specs.Orders.{AllBelow}
use Rattle.body_order.proofs.NeedLaws.{needs_below}
use Rattle.body_order.proofs.CycleLaws.{first_breaks}
use Rattle.body_order.proofs.elements.Elements.first_cycle.Goals as goal

pub first_on_cycle-requires-clause-needs : goal.first_on_cycle-requires-clause-needs
first_on_cycle-requires-clause-needs c = subst (λ needs. All (AllBelow (length needs)) needs) (sym (c.as_slice.ensures ∙ c.in_ok-needs.ensures)) (needs_below c.args.self.now)

pub returns : goal.returns
returns c =
    first_breaks c.args.self.now c.as_slice-2.result.now c.as_slice.result.now c.in_ok-first_on_cycle.field-0 (c.as_slice-2.ensures ∙ c.in_ok-places.ensures) (c.as_slice.ensures ∙ c.in_ok-needs.ensures) c.in_ok-first_on_cycle.ensures
