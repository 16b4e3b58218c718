use Rattle.session_load.specs.SessionLemmas.{sessions_fall}
use Rattle.session_load.proofs.session_load_falls.Goals as goal

pub returns : goal.returns
returns g c = sessions_fall
