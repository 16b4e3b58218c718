use Rattle.std.proofs.Common.{◌≡◌, length}
use Rattle.channel_lower.specs.Lowerable.{place_of}
use Rattle.channel_lower.specs.Lowering.{forward_pass}
use Rattle.channel_lower.specs.Progress.{Progress}
use Rattle.channel_lower.proofs.passes.push_all_forward.Given as goal

abbrev pub invariant-loop-number : goal.invariant-loop-number
invariant-loop-number l = record {
  is : l.lowering ≡ forward_pass l.parts l.flat.elements l.number l.initial.lowering;
  so_far : Progress l.parts l.flat l.clients l.lowering (place_of l.servers l.flat.elements l.number) (length l.clients) (length l.flat.elements) l.number 0 0;
}
