use Rattle.test_hard_searches.proofs.terms.is_first.Given as goal

abbrev pub ghosts-first_of : goal.ghosts-first_of
ghosts-first_of a = record { name = a.blank.name; parts = 1 }
