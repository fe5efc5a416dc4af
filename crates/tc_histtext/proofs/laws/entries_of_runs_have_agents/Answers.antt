use Rattle.tc_histtext.proofs.Agents.{ours-run}
use Rattle.tc_histtext.proofs.laws.entries_of_runs_have_agents.Goals as goal

pub returns : goal.returns
returns c = ours-run
