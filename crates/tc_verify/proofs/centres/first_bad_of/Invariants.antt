use Rattle.tc_verify.specs.Verdicts.{AreQuietBefore}
use Rattle.tc_verify.proofs.centres.first_bad_of.Given as goal

abbrev pub invariant-loop-place : goal.invariant-loop-place
invariant-loop-place l = AreQuietBefore l.config l.histories l.place
