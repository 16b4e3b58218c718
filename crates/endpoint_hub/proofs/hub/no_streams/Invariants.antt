use Rattle.std.proofs.Common.{◌≡◌, false, replicate}
use Rattle.endpoint_hub.proofs.hub.no_streams.Given as goal

abbrev pub invariant-loop-made : goal.invariant-loop-made
invariant-loop-made l = l.flags ≡ replicate l.made false
