use Rattle.std.proofs.Common.{◌≡◌, drop}
use Rattle.design_flow.specs.Weights.{put_all}
use Rattle.design_flow.proofs.weights.put_each.Given as goal

abbrev pub invariant-loop-channel : goal.invariant-loop-channel
invariant-loop-channel l = put_all l.weights (drop l.channel-index l.channels) l.weight ≡ put_all l.fn.weights l.channels l.weight
