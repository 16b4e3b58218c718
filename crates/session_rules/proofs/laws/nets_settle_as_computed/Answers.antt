use Rattle.session_rules.specs.SettledWords.{settled_is}
use Rattle.session_rules.proofs.laws.nets_settle_as_computed.Goals as goal

pub returns : goal.returns
returns c = λ plan h inputs held words settled. settled_is plan h inputs held words settled
