use Rattle.std.proofs.Common.{All, take}
use Rattle.tc_model.specs.State.{WantsTuple}
use Rattle.test_hard_searches.proofs.requests.want_tuples.Given as goal

abbrev pub invariant-loop-request : goal.invariant-loop-request
invariant-loop-request l = All (λ r. WantsTuple r.wants) (take l.request-index l.requests)
