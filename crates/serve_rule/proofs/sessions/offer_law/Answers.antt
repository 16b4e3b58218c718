use Rattle.serve_rule.specs.OfferLaws.{turn_log}
use Rattle.serve_rule.proofs.sessions.offer_law.Goals as goal

pub returns : goal.returns
returns g c = record { turn = λ served reader moves turn turns. turn_log served reader moves turn turns }
