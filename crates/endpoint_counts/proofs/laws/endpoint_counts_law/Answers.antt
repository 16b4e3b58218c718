use Rattle.endpoint_counts.proofs.Bodies.{each_counted}
use Rattle.endpoint_counts.proofs.laws.endpoint_counts_law.Goals as goal

pub returns : goal.returns
returns c = each_counted
