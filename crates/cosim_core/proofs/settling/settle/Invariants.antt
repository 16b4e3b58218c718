use Rattle.cosim_core.proofs.settling.settle.Given as goal

abbrev pub ghosts-settle_counted : goal.ghosts-settle_counted
ghosts-settle_counted a = record { name = a.blank.name; parts = a.blank.parts }
