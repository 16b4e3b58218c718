use Rattle.stage_nets.specs.Signalling.{as_fifos_do_obey}
use Rattle.stage_nets.proofs.signalling.as_fifos_obey.Goals as goal

pub returns : goal.returns
returns c = as_fifos_do_obey
