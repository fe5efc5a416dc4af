use Rattle.tc_desk.specs.Logs.{rows_of}
use Rattle.tc_site.specs.Sites.{AllAgree}
use Rattle.tc_site.proofs.Settled.{SettledLog}
use Rattle.tc_site.proofs.Sweeps.{Swept}
use Rattle.tc_site.proofs.settling.settle_all.Given as goal

-- the logs so far are settled, and all agree
abbrev pub invariant-loop-agent : goal.invariant-loop-agent
invariant-loop-agent l = record {
  swept : Swept (SettledLog l.names l.cores) (rows_of l.initial.logs) (rows_of l.logs) l.agent;
  agree : AllAgree l.names l.cores (rows_of l.logs);
}
