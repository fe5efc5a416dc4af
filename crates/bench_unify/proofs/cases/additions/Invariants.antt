use Rattle.bench_unify.proofs.cases.additions.Given as goal

abbrev pub ghosts-additions_in : goal.ghosts-additions_in
ghosts-additions_in a = record { name = a.blank.name; parts = 1 }
