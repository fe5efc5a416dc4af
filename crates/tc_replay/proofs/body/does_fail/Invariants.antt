use Rattle.tc_replay.proofs.body.does_fail.Given as goal

abbrev pub ghosts-fails : goal.ghosts-fails
ghosts-fails a = record { name = a.blank.name; parts = 1 }
