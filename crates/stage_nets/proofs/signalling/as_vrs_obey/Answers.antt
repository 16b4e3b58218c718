use Rattle.stage_nets.specs.Signalling.{as_vrs_do_obey}
use Rattle.stage_nets.proofs.signalling.as_vrs_obey.Goals as goal

pub returns : goal.returns
returns c = as_vrs_do_obey
