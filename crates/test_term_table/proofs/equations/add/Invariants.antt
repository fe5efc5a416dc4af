use Rattle.test_term_table.proofs.equations.add.Given as goal

abbrev pub ghosts-add : goal.ghosts-add
ghosts-add a = record { name = a.blank.name; parts = 1 }
