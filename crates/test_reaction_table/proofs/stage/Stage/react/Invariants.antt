use Rattle.test_reaction_table.proofs.stage.Stage.react.Given as goal

abbrev pub ghosts-body_done : goal.ghosts-body_done
ghosts-body_done a = record { name = a.blank.name; parts = 1 }
