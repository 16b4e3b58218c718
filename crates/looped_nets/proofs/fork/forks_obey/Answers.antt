use Rattle.looped_nets.specs.ForkLemmas.{forks_do_obey}
use Rattle.looped_nets.proofs.fork.forks_obey.Goals as goal

pub returns : goal.returns
returns c = forks_do_obey
