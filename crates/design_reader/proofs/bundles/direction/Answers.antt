use Rattle.std.proofs.Common.{sym, subst}
use Rattle.design_grammar.specs.Grammar.{AnswersAt}
use Rattle.design_reader.specs.DesignReading as spec
use Rattle.design_reader.specs.DesignSteps.{from_read}
use Rattle.design_reader.proofs.bundles.direction.Goals as goal

pub returns-else-is_same-clause-reads : goal.returns-else-is_same-clause-reads
returns-else-is_same-clause-reads c = subst (λ z. AnswersAt z c.from_hardware.result c.from_hardware.new.cursor) (sym (from_read c.args.cursor.now (cc))) c.from_hardware.ensures.reads
