use Rattle.std.proofs.Common.{◌≡◌, drop}
use Rattle.std.specs.List.{slice_get}
use Rattle.tc_desk.specs.Asks.{steps_from, steps_of}
use Rattle.tc_runner.proofs.clients.centre_of.Given as goal

-- the item is the one at the place that is left, from the script at hand on
abbrev pub invariant-loop-script : goal.invariant-loop-script
invariant-loop-script l =
    slice_get (steps_of l.scripts) l.place ≡ slice_get (steps_from l.script-index (drop l.script-index l.scripts)) l.left
