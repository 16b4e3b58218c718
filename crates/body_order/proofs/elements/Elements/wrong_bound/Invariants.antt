use Rattle.std.proofs.Common.{◌≡◌, map, take, false}
use Rattle.std.specs.Prelude.{flat_map}
use Rattle.check_rules.specs.References.{binding_source}
use Rattle.body_order.specs.Signals.{first_of, or_else, wrong_source}
use Rattle.body_order.proofs.elements.Elements.wrong_bound.Given as goal

abbrev pub invariant-loop-binding : goal.invariant-loop-binding
invariant-loop-binding l = l.place ≡ or_else l.fn.first (first_of (flat_map (wrong_source l.self false) (map binding_source (take l.binding-index l.bindings))))
