use Rattle.element_laws.specs.ElementLemmas.{each_obeys}
use Rattle.element_laws.proofs.elements_obey.Goals as goal

pub returns : goal.returns
returns g c = each_obeys
