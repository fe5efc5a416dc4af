use Rattle.test_hard_searches.proofs.requests.oldest.Given as goal

abbrev pub ghosts-first : goal.ghosts-first
ghosts-first a = record { name = a.blank.name; parts = 1 }
