use Rattle.session_runs.specs.RunLemmas.{sessions_do_settle}
use Rattle.session_runs.proofs.laws.sessions_settle.Goals as goal

pub returns : goal.returns
returns g c = sessions_do_settle
