use Rattle.tc_site.proofs.Settled.{Unserved}
use Rattle.tc_site.proofs.settling.pending_in.Given as goal

-- no row from the place on was served
abbrev pub invariant-loop-place : goal.invariant-loop-place
invariant-loop-place l = Unserved l.log l.place
