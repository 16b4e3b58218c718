use Rattle.serve_laws.specs.ReplayLaws.{plays, replays}
use Rattle.serve_laws.proofs.replay.replay_law.Goals as goal

pub returns : goal.returns
returns g c = record {
  replays = λ served t legal. replays served t legal;
  partway = λ served t legal. plays served t legal;
}
