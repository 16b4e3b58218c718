use Rattle.std.proofs.Common.{◌++◌, ap, ◌∙◌, map}
use Rattle.std.proofs.lemmas.List.{take_all}
use Rattle.check_rules.specs.References.{sources_of}
use Rattle.body_order.specs.Makers.{needs_of_sources}
use Rattle.body_order.proofs.NeedLaws.{map_both}
use Rattle.body_order.proofs.elements.Elements.add_all_needs.Goals as goal

pub returns : goal.returns
returns c =
    c.loop-statement.invariant
    ∙ ap (λ xs. c.args.needs.now ++ map (λ s. needs_of_sources c.args.self.now (sources_of s.now)) xs) (take_all c.loop-statement.statement-index c.args.statements.now c.loop-statement-test.false)
    ∙ ap (λ xs. c.args.needs.now ++ xs) (map_both (λ s. needs_of_sources c.args.self.now (sources_of s)) c.args.statements.now)
