use Rattle.std.proofs.Common.{◌-◌, length}
use Rattle.tc_sched.specs.Clients.{Client}
use Rattle.tc_sched.specs.Steps.{Stays}
use Rattle.tc_sched.proofs.Sweeps.{Swept}
use Rattle.tc_sched.proofs.crowd.step_called.Given as goal

abbrev pub invariant-loop-called : goal.invariant-loop-called
invariant-loop-called g l =
    Swept g.D.Desk.state g.D.Desk.bond g.D.Desk.sound (λ (c : Client g.row.D.Denot). 1) (Stays g.D.Desk.state) l.names l.fn.actors l.actors l.place l.moved

abbrev pub decreases-loop-called : goal.decreases-loop-called
decreases-loop-called g l = length l.actors - l.place
