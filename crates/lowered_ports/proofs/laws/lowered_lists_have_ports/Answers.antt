use Rattle.lowered_ports.specs.LoweredPorts.{whole_has_ports}
use Rattle.lowered_ports.proofs.laws.lowered_lists_have_ports.Goals as goal

pub returns : goal.returns
returns c = λ parts flat servers clients l lowerable whole is few fewer. whole_has_ports parts flat servers clients lowerable whole l is few fewer
