use Rattle.tc_sched.specs.Clients.{Client}
use Rattle.tc_sched.specs.Steps.{Rests, turns_of}
use Rattle.tc_sched.proofs.Sweeps.{Swept}
use Rattle.tc_sched.proofs.crowd.step_others.Given as goal

abbrev pub invariant-loop-i : goal.invariant-loop-i
invariant-loop-i g l = Swept g.D.Desk.state g.D.Desk.bond g.D.Desk.sound (turns_of g.D.Desk.state) (λ (x e : Client g.row.D.Denot). Rests g.D.Desk.state e) l.names l.fn.actors l.actors l.i l.moved
