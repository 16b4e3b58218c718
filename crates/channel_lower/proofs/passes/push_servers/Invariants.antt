use Rattle.std.proofs.Common.{◌≡◌}
use Rattle.channel_lower.specs.Lowering.{server_pass}
use Rattle.channel_lower.specs.Progress.{Progress}
use Rattle.channel_lower.proofs.passes.push_servers.Given as goal

abbrev pub invariant-loop-channel : goal.invariant-loop-channel
invariant-loop-channel l = record {
  is : l.lowering ≡ server_pass l.flat.widths l.channel l.initial.lowering;
  so_far : Progress l.parts l.flat l.clients l.lowering l.channel 0 0 0 0 0;
}
