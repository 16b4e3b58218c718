use Rattle.netlist_cases.proofs.repeated.Given as goal

-- the ledger is the one that its blank names
abbrev pub ghosts-repeated : goal.ghosts-repeated
ghosts-repeated a = record { name = a.blank.name; parts = a.blank.parts }
