use Rattle.test_hard_searches.proofs.terms.oldest_from.Given as goal

abbrev pub ghosts-oldest_of : goal.ghosts-oldest_of
ghosts-oldest_of a = record { name = a.blank.name; parts = 1 }
