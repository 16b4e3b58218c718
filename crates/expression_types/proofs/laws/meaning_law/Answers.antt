use Rattle.expression_types.specs.MeaningLaws.{each_means}
use Rattle.expression_types.proofs.laws.meaning_law.Goals as goal

pub returns : goal.returns
returns c = each_means
