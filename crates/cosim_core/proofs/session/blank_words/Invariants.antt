use Rattle.std.proofs.Common.{◌≡◌, ◌++◌, map, drop}
use Rattle.session_rules.specs.Ports.{blank_word}
use Rattle.cosim_core.proofs.session.blank_words.Given as goal

abbrev pub invariant-loop-channel : goal.invariant-loop-channel
invariant-loop-channel l = l.words ++ map (blank_word l.net) (drop l.channel l.ports) ≡ map (blank_word l.net) l.ports
