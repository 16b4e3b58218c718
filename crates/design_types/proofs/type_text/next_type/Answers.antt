use Rattle.design_types.specs.GoodTypes.{read_good}
use Rattle.design_types.proofs.type_text.next_type.Goals as goal

pub returns-clause-good : goal.returns-clause-good
returns-clause-good c = λ spelled. read_good c.args.cursor.now c.type_at.result c.type_at.new.cursor c.type_at.ensures.reads spelled
