use Rattle.element_rows.specs.StreamLemmas.{flow_grows}
use Rattle.element_rows.proofs.flow.flow_grows.Goals as goal

pub returns : goal.returns
returns c = λ servers placed old new. flow_grows placed servers old new
