use Rattle.netlist_cases.proofs.answer.Given as goal

-- the ledger is the one that its blank names
abbrev pub ghosts-cycles_text : goal.ghosts-cycles_text
ghosts-cycles_text a = record { name = a.blank.name; parts = a.blank.parts }
