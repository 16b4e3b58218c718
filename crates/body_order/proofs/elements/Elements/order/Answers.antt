use Rattle.std.proofs.Common.{length, subst, sym, ◌∙◌}
use Rattle.std.specs.Prelude.{All}
use Rattle.element_order.specs.Orders.{AllBelow}
use Rattle.body_order.proofs.NeedLaws.{needs_below}
use Rattle.body_order.proofs.elements.Elements.order.Goals as goal

pub element_order-requires : goal.element_order-requires
element_order-requires c = subst (λ needs. All (AllBelow (length needs)) needs) (sym (c.as_slice.ensures ∙ c.in_ok-needs.ensures)) (needs_below c.args.self.now)
