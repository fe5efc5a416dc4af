use Rattle.tc_centre.proofs.serving.on_tuples.Given as goal

abbrev pub ghosts-serve_call : goal.ghosts-serve_call
ghosts-serve_call a = record { name = a.blank.name; parts = 1 }
