use Rattle.tc_sched.proofs.Crowds.{Settling}
use Rattle.tc_sched.proofs.crowd.settle.Given as goal

abbrev pub invariant-loop-made : goal.invariant-loop-made
invariant-loop-made g l = Settling g.D.Desk.state g.D.Desk.bond g.D.Desk.sound l.names l.fn.actors l.actors l.made
