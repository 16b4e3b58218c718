use Rattle.std.proofs.Common.{◌∙◌, drop}
use Rattle.std.specs.Vec.Iter.{into_iter_items, into_iter_len}
use Rattle.element_parts.specs.Numbering.{body_parts}
use Rattle.element_parts.proofs.Turns.{numbered_none}
use Rattle.element_parts.proofs.numbering.add_elements.Goals as goal

pub returns-in-None : goal.returns-in-None
returns-in-None c =
    numbered_none (body_parts c.loop-number.parts c.loop-number.elements) (body_parts c.args.parts.now c.args.elements.now) (drop c.loop-number.number-index c.args.order.now) c.args.order.now
    (into_iter_items c.loop-number.left) _ c.args.typed (into_iter_len c.loop-number.left) c.in-None.ensures.cases.0 c.loop-number.invariant.1 c.loop-number.invariant.0 (c.into_iter-left.ensures.rest ∙ c.into_vec.ensures)
