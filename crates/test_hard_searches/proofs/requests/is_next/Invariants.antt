use Rattle.test_hard_searches.proofs.requests.is_next.Given as goal

abbrev pub ghosts-next : goal.ghosts-next
ghosts-next a = record { name = a.blank.name; parts = 1 }
