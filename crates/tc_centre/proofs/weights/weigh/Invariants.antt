use Rattle.std.proofs.Common.{◌≡◌, take}
use Rattle.tc_model.specs.Entries.{weight}
use Rattle.tc_centre.proofs.weights.weigh.Given as goal

abbrev pub invariant-loop-entry : goal.invariant-loop-entry
invariant-loop-entry l = l.sum ≡ weight (take l.entry-index l.entries)
