use Rattle.std.proofs.Common.{◌≢◌, All, take}
use Rattle.tc_model.proofs.origins.is_new.Given as goal

abbrev pub invariant-loop-other : goal.invariant-loop-other
invariant-loop-other l = All (λ other. other ≢ l.name) (take l.other-index l.names)
