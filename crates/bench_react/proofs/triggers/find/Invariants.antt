use Rattle.bench_react.proofs.triggers.find.Given as goal

abbrev pub ghosts-again : goal.ghosts-again
ghosts-again a = record { name = a.blank.name; parts = 1 }
