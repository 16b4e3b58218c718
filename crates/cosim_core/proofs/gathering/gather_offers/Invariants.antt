use Rattle.std.proofs.Common.{◌≡◌, ◌++◌}
use Rattle.cycle_rules.specs.Cycle.{offers}
use Rattle.cycle_rules.specs.Lists.{zip_with}
use Rattle.session_rules.specs.Ports.{offer_words, joined}
use Rattle.cosim_core.proofs.Walks.{zip_rest}
use Rattle.cosim_core.proofs.gathering.gather_offers.Given as goal

abbrev pub invariant-loop-channel : goal.invariant-loop-channel
invariant-loop-channel l = l.inputs ++ joined (zip_rest offer_words l.channel l.blanks (offers l.hub.to_server)) ≡ l.initial.inputs ++ joined (zip_with offer_words l.blanks (offers l.hub.to_server))
