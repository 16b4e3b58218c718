use Rattle.serve_moves.specs.FilledSessions.{session_filled}
use Rattle.serve_moves.proofs.takes.filled_sessions_law.Goals as goal

pub returns : goal.returns
returns g c = record { sessions = λ served reader channel turns below. session_filled served channel below reader turns }
