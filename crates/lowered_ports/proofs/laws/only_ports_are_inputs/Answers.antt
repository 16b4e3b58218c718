use Rattle.lowered_ports.specs.PassInputs.{lowered_inputs}
use Rattle.lowered_ports.proofs.laws.only_ports_are_inputs.Goals as goal

pub returns : goal.returns
returns c = λ parts flat servers clients. lowered_inputs parts flat servers clients
