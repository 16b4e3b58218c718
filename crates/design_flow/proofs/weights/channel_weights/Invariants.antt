use Rattle.design_flow.specs.Elements.{row_of}
use Rattle.design_flow.proofs.WeightSteps.{IsWeighing}
use Rattle.design_flow.proofs.weights.channel_weights.Given as goal

abbrev pub invariant-loop-at : goal.invariant-loop-at
invariant-loop-at l = IsWeighing l.servers (row_of l.parts l.flat) l.clients l.made l.at l.weights
