use Rattle.serve_laws.specs.ReplyLaws.{fits, put_of_given}
use Rattle.serve_laws.specs.WireLaws.{content_is}
use Rattle.serve_laws.proofs.replies.reply_law.Goals as goal

pub returns : goal.returns
returns g c = record {
  fits = λ served conn stream t legal. fits served conn stream t legal;
  prefix = λ served conn stream t legal. put_of_given served conn stream t legal;
  history = λ served conn stream t. content_is served.replies conn stream t;
}
