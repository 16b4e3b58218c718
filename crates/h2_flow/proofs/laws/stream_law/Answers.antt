use Rattle.h2_flow.specs.StreamSums.{stream_sums}
use Rattle.h2_flow.proofs.laws.stream_law.Goals as goal

pub returns : goal.returns
returns c = stream_sums
