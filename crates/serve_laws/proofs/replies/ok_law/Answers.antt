use Rattle.serve_laws.specs.WrittenLaws.{ok_taken}
use Rattle.serve_laws.proofs.replies.ok_law.Goals as goal

pub returns : goal.returns
returns g c = record { taken = λ served read says_ok facts conn stream t legal frames called ok. ok_taken served read says_ok facts conn stream t legal frames called ok }
