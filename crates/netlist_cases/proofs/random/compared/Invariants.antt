use Rattle.netlist_cases.proofs.random.compared.Given as goal

-- the ledger is the one that its blank names
abbrev pub ghosts-settles_alike : goal.ghosts-settles_alike
ghosts-settles_alike a = record { name = a.blank.name; parts = a.blank.parts }
