use Rattle.std.proofs.Common.{take}
use Rattle.tc_model.specs.Waiting.{HasRequest}
use Rattle.tc_audit.proofs.serving.place_of.Given as goal

-- none of the requests so far is of the call
abbrev pub invariant-loop-place : goal.invariant-loop-place
invariant-loop-place l = HasRequest l.id (take l.place l.requests) → ⊥
