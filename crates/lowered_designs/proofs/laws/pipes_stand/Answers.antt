use Rattle.lowered_designs.specs.Pipe.{pipes_do_stand, pipes_are_lowered, pipes_are_ready}
use Rattle.lowered_designs.proofs.laws.pipes_stand.Goals as goal

pub returns-clause-stands : goal.returns-clause-stands
returns-clause-stands c = pipes_do_stand

pub returns-clause-lowered : goal.returns-clause-lowered
returns-clause-lowered c = pipes_are_lowered

pub returns-clause-ready : goal.returns-clause-ready
returns-clause-ready c = pipes_are_ready
