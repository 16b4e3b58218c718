use Rattle.session_rules.specs.ReplayLemmas.{new_stands, take_stands, attach_stands, cycle_stands, cycle_leaves}
use Rattle.session_rules.proofs.laws.journals_are_replayed.Goals as goal

pub returns-clause-starts : goal.returns-clause-starts
returns-clause-starts g c = λ circuit start. new_stands circuit start

pub returns-clause-takes : goal.returns-clause-takes
returns-clause-takes g c = λ circuit start machine journal channel conn stream word below stands. take_stands circuit start machine journal channel conn stream word below stands

pub returns-clause-attaches : goal.returns-clause-attaches
returns-clause-attaches g c = λ circuit start machine journal channel conn stream stands. attach_stands circuit start machine journal channel conn stream stands

pub returns-clause-cycles : goal.returns-clause-cycles
returns-clause-cycles g c = λ circuit start machine journal after hands has counted stands e f h. cycle_stands circuit start machine journal after hands has counted stands e f h

pub returns-clause-leaves : goal.returns-clause-leaves
returns-clause-leaves g c = λ circuit start machine journal after hands has counted stands e f. cycle_leaves circuit start machine journal after hands has counted stands e f
