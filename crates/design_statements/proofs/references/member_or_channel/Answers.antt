use Rattle.design_statements.specs.StatementSteps.{channel_alone}
use Rattle.design_statements.proofs.references.member_or_channel.Goals as goal

pub returns-else-is_same-2-clause-reads : goal.returns-else-is_same-2-clause-reads
returns-else-is_same-2-clause-reads c = channel_alone c.args.name c.args.cursor.now (cc) (cc)
