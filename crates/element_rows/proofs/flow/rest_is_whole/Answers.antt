use Rattle.element_rows.specs.RestLemmas.{rest_is_whole}
use Rattle.element_rows.proofs.flow.rest_is_whole.Goals as goal

pub returns : goal.returns
returns g c = rest_is_whole
