use Rattle.serve_laws.specs.OctetLaws.{balanced, sent_begins}
use Rattle.serve_laws.specs.PrefixLaws.{log_sends}
use Rattle.serve_laws.proofs.octets.every_octet_law.Goals as goal

-- src/octets.rt:14:1
pub returns : goal.returns
returns g c = record {
  balanced = λ served conn t legal. balanced served conn t legal;
  sent = λ served conn t legal. sent_begins served conn t legal;
  logged = λ served conn t. log_sends served.replies conn t;
}
