use Rattle.tc_desk.specs.Logs.{rows_of}
use Rattle.tc_runner.proofs.Left.{AreClientsBelow}
use Rattle.tc_runner.proofs.clients.clients.Given as goal

-- the agents so far have their clients
abbrev pub invariant-loop-agent : goal.invariant-loop-agent
invariant-loop-agent l = AreClientsBelow l.agent l.plan.agents (rows_of l.logs) l.clients.items
