use Rattle.endpoint_counts.proofs.Few.{each_few}
use Rattle.endpoint_counts.proofs.laws.few_endpoints_law.Goals as goal

pub returns : goal.returns
returns c = each_few
