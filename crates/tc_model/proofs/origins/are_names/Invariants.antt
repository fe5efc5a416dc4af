use Rattle.std.proofs.Common.{All, take}
use Rattle.tc_model.specs.State.{IsName}
use Rattle.tc_model.proofs.origins.are_names.Given as goal

abbrev pub invariant-loop-name : goal.invariant-loop-name
invariant-loop-name l = All IsName (take l.name-index l.names)
