use Rattle.h2_layouts.specs.PayloadAnswers.{rule_found}
use Rattle.h2_layouts.proofs.reading.read_payload.Goals as goal

pub returns-clause-rule : goal.returns-clause-rule
returns-clause-rule c = rule_found c.args.role c.args.header c.args.payload.now c.read_by_type.result c.read_by_type.ensures
