use Rattle.std.proofs.Common.{◌≡◌}
use Rattle.channel_lower.specs.Lowering.{client_pass}
use Rattle.channel_lower.specs.Progress.{Progress}
use Rattle.channel_lower.proofs.passes.push_clients.Given as goal

abbrev pub invariant-loop-number : goal.invariant-loop-number
invariant-loop-number l = record {
  is : l.lowering ≡ client_pass l.clients l.number l.initial.lowering;
  so_far : Progress l.parts l.flat l.clients l.lowering l.servers l.number 0 0 0 0;
}
