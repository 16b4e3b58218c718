use Rattle.std.proofs.Common.{◌≡◌, [], drop}
use Rattle.channel_typing.specs.Walk.{typed_along}
use Rattle.channel_typing.proofs.body.type_elements.Given as goal

abbrev pub invariant-loop-number : goal.invariant-loop-number
invariant-loop-number l = typed_along l.scope l.elements l.known l.typed (drop l.number-index l.order) ≡ typed_along l.scope l.elements l.fn.known [] l.order
