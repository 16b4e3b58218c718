use Rattle.serve_laws.specs.OnceLaws.{taken_once}
use Rattle.serve_laws.proofs.order.taken_once_law.Goals as goal

-- src/order.rt:20:1
pub returns : goal.returns
returns g c = record { once = λ served conn stream t legal. taken_once served conn stream t legal }
