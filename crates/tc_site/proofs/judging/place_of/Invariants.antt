use Rattle.std.proofs.Common.{take, Contains}
use Rattle.tc_site.proofs.judging.place_of.Given as goal

abbrev pub invariant-loop-place : goal.invariant-loop-place
invariant-loop-place l = Contains (take l.place l.names) l.name → ⊥
