use Rattle.tc_bag.proofs.places.seen.Given as goal

abbrev pub ghosts-counted : goal.ghosts-counted
ghosts-counted a = record { name = a.blank.name; parts = 1 }
