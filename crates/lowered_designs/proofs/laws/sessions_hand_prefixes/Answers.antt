use Rattle.lowered_designs.specs.Sessions.{sessions_do_hand, sessions_do_hand_all}
use Rattle.lowered_designs.proofs.laws.sessions_hand_prefixes.Goals as goal

pub returns-clause-begins : goal.returns-clause-begins
returns-clause-begins g c = sessions_do_hand

pub returns-clause-whole : goal.returns-clause-whole
returns-clause-whole g c = sessions_do_hand_all
