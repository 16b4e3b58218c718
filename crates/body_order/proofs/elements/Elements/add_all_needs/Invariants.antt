use Rattle.std.proofs.Common.{◌≡◌, ◌++◌, map, take}
use Rattle.check_rules.specs.References.{sources_of}
use Rattle.body_order.specs.Makers.{needs_of_sources}
use Rattle.body_order.proofs.elements.Elements.add_all_needs.Given as goal

abbrev pub invariant-loop-statement : goal.invariant-loop-statement
invariant-loop-statement l = l.needs ≡ l.fn.needs ++ map (λ s. needs_of_sources l.self (sources_of s.now)) (take l.statement-index l.statements)
