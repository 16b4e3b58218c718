use Rattle.channel_typing.specs.BodyLaws.{each_type_found, each_misfit_found}
use Rattle.channel_typing.proofs.laws.body_law.Goals as goal

pub returns : goal.returns
returns c = record { types = each_type_found; misfits = each_misfit_found }
