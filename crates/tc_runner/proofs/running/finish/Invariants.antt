use Rattle.tc_runner.specs.Clients.{AreClients, left_in}
use Rattle.tc_desk.specs.Logs.{rows_of}
use Rattle.tc_runner.specs.Cores.{Goes}
use Rattle.tc_runner.proofs.running.finish.Given as goal

-- the run may go on, and the clients fit it
abbrev pub invariant-loop-roll : goal.invariant-loop-roll
invariant-loop-roll g l = record {
  goes : Goes l.plan l.cores (rows_of l.logs);
  are : AreClients l.plan.agents (rows_of l.logs) l.clients.items;
}

abbrev pub decreases-loop-roll : goal.decreases-loop-roll
decreases-loop-roll g l = left_in l.plan.agents (rows_of l.logs)
