use Rattle.tc_replay.proofs.body.does_fire.Given as goal

abbrev pub ghosts-fires : goal.ghosts-fires
ghosts-fires a = record { name = a.blank.name; parts = 1 }
