use Rattle.std.proofs.Common.{◌≡◌, ◌++◌, map, take}
use Rattle.check_rules.specs.References.{binding_source}
use Rattle.body_order.specs.Makers.{needs_of_sources}
use Rattle.body_order.proofs.elements.Elements.add_bound.Given as goal

abbrev pub invariant-loop-binding : goal.invariant-loop-binding
invariant-loop-binding l = l.needs ≡ l.fn.needs ++ needs_of_sources l.self (map binding_source (take l.binding-index l.bindings))
