use Rattle.channel_typing.proofs.ListedLaws.{each_type_listed, each_misfit_listed}
use Rattle.channel_typing.proofs.laws.listed_law.Goals as goal

pub returns : goal.returns
returns c = record { types = each_type_listed; misfits = each_misfit_listed }
