use Rattle.channel_typing.specs.OperationLaws.{each_makes, each_misfits}
use Rattle.channel_typing.proofs.laws.operation_law.Goals as goal

pub returns : goal.returns
returns c = record { makes = each_makes; misfits = each_misfits }
