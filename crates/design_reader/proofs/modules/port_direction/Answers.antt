use Rattle.std.proofs.Common.{sym, subst}
use Rattle.design_grammar.specs.Grammar.{AnswersAt}
use Rattle.design_reader.specs.DesignReading as spec
use Rattle.design_reader.specs.DesignSteps.{out_read}
use Rattle.design_reader.proofs.modules.port_direction.Goals as goal

pub returns-else-is_same-clause-reads : goal.returns-else-is_same-clause-reads
returns-else-is_same-clause-reads c = subst (λ z. AnswersAt z c.outwards.result c.outwards.new.cursor) (sym (out_read c.args.cursor.now (cc))) c.outwards.ensures.reads
