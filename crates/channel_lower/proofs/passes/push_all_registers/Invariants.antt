use Rattle.std.proofs.Common.{◌≡◌, length}
use Rattle.channel_lower.specs.Lowering.{register_pass}
use Rattle.channel_lower.specs.Progress.{Progress}
use Rattle.channel_lower.proofs.passes.push_all_registers.Given as goal

abbrev pub invariant-loop-number : goal.invariant-loop-number
invariant-loop-number l = record {
  is : l.lowering ≡ register_pass l.parts l.flat.elements l.number l.initial.lowering;
  so_far : Progress l.parts l.flat l.clients l.lowering l.servers (length l.clients) l.number 0 0 0;
}
