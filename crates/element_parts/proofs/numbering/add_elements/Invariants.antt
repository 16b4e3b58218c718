use Rattle.std.proofs.Common.{◌≡◌, length, drop}
use Rattle.std.specs.Vec.Iter.{into_iter_items, into_iter_len}
use Rattle.element_parts.specs.Numbering.{body_parts, numbered_along}
use Rattle.element_parts.proofs.numbering.add_elements.Given as goal

abbrev pub invariant-loop-number : goal.invariant-loop-number
invariant-loop-number l = (numbered_along (body_parts l.parts l.elements) (drop l.number-index l.order) (into_iter_items l.left) ≡ numbered_along (body_parts l.initial.parts l.initial.elements) l.order (into_iter_items l.initial.left))
    × (into_iter_len l.left ≡ length (into_iter_items l.left))
