use Rattle.element_nets.specs.Maps.{maps_do_obey}
use Rattle.element_nets.proofs.laws.maps_obey.Goals as goal

pub returns : goal.returns
returns c = maps_do_obey
