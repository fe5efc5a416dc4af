use Rattle.test_reaction_table.proofs.stage.Stage.trigger.Given as goal

abbrev pub ghosts-triggered : goal.ghosts-triggered
ghosts-triggered a = record { name = a.blank.name; parts = 1 }
