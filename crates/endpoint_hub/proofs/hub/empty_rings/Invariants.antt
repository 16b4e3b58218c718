use Rattle.std.proofs.Common.{◌≡◌, [], replicate}
use Rattle.endpoint_hub.proofs.hub.empty_rings.Given as goal

abbrev pub invariant-loop-made : goal.invariant-loop-made
invariant-loop-made l = l.rings.items ≡ replicate l.made []
