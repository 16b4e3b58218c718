use Rattle.std.proofs.Common.{arith}
use Rattle.esi_links.proofs.LogSteps.{next_at, next_none}
use Rattle.esi_links.proofs.sure_links.copy_next.Goals as goal

pub returns-in-Some : goal.returns-in-Some
returns-in-Some c = grind (arith, next_at)

pub returns-in-None : goal.returns-in-None
returns-in-None c = grind (arith, next_none)
