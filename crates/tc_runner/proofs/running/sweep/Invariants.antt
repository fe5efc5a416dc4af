use Rattle.std.proofs.Common.{◌≡◌, ◌-◌, true, length}
use Rattle.tc_desk.specs.Logs.{rows_of}
use Rattle.tc_runner.proofs.Sweeping.{Sweeping}
use Rattle.tc_runner.proofs.running.sweep.Given as goal

abbrev pub invariant-loop-agent : goal.invariant-loop-agent
invariant-loop-agent g l =
    Sweeping (l.all ≡ true) l.plan (rows_of l.initial.logs) l.place l.cores (rows_of l.logs) l.clients l.moved

abbrev pub decreases-loop-agent : goal.decreases-loop-agent
decreases-loop-agent g l = length l.agents - l.place
