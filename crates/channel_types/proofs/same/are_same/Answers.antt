use Rattle.channel_types.specs.SameTypesLaws.{same_answer}
use Rattle.channel_types.proofs.same.are_same.Goals as goal

pub returns-clause-computed : goal.returns-clause-computed
returns-clause-computed c = same_answer c.args.ty.now c.args.other.now c.are_one.result c.are_one.ensures
