use Rattle.test_term_table.proofs.bags.act.Given as goal

abbrev pub ghosts-tell : goal.ghosts-tell
ghosts-tell a = record { name = a.blank.name; parts = 1 }
