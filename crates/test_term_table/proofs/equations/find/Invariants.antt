use Rattle.test_term_table.proofs.equations.find.Given as goal

abbrev pub ghosts-find : goal.ghosts-find
ghosts-find a = record { name = a.blank.name; parts = 1 }
