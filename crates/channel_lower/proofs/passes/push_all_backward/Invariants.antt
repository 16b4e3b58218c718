use Rattle.std.proofs.Common.{◌≡◌, length}
use Rattle.channel_lower.specs.Lowerable.{place_of}
use Rattle.channel_lower.specs.Lowering.{backward_pass}
use Rattle.channel_lower.specs.Progress.{Progress}
use Rattle.channel_lower.proofs.passes.push_all_backward.Given as goal

abbrev pub invariant-loop-done : goal.invariant-loop-done
invariant-loop-done l = record {
  is : l.lowering ≡ backward_pass l.parts l.flat.elements l.done l.initial.lowering;
  so_far : Progress l.parts l.flat l.clients l.lowering (place_of l.servers l.flat.elements (length l.flat.elements)) (length l.clients) (length l.flat.elements) (length l.flat.elements) l.done 0;
}
