use Rattle.element_nets.specs.Scans.{scans_do_obey}
use Rattle.element_nets.proofs.laws.scans_obey.Goals as goal

pub returns : goal.returns
returns c = scans_do_obey
