use Rattle.esi_text.specs.MeaningLaws.{only_one}
use Rattle.esi_text.proofs.laws.one_design_law.Goals as goal

pub returns : goal.returns
returns c = only_one
