use Rattle.session_rules.specs.RunningLemmas.{new_keeps}
use Rattle.cosim_core.proofs.session.first_state.Goals as goal

pub returns-clause-keeps : goal.returns-clause-keeps
returns-clause-keeps c = new_keeps c.args.lowered.now c.in_ok-hub.hub c.requires c.nets-kept.ensures.kept c.in_ok-hub.ensures
