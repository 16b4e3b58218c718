use Rattle.std.proofs.Common.{◌≡◌, take}
use Rattle.std.specs.Prelude.{flat_map}
use Rattle.body_order.specs.Signals.{first_of, wrong_sources, numbered}
use Rattle.body_order.proofs.elements.Elements.wrong_in_order.Given as goal

abbrev pub invariant-loop-number : goal.invariant-loop-number
invariant-loop-number l = l.first ≡ first_of (flat_map (wrong_sources l.self) (numbered l.self (take l.number-index l.order)))
