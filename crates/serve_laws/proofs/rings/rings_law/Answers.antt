use Rattle.serve_laws.specs.RingLaws.{has_rings, in_ring, out_ring}
use Rattle.serve_laws.proofs.rings.rings_law.Goals as goal

pub returns : goal.returns
returns g c = record {
  entering = λ served channel t below legal. in_ring served channel t below legal;
  leaving = λ served channel t below legal. out_ring served channel t below legal;
  front = λ served channel conn stream word t legal. legal.0.front;
  rings = λ served t. has_rings served t;
}
