use Rattle.std.proofs.Common.{codes}
use Rattle.std.proofs.lemmas.Result.{on_ok_weaker}
use Rattle.std.specs.List.{flat_map, range_with_len}
use Rattle.tc_load.specs.Workload.{agent_text, centre_text, grants_text}
use Rattle.tc_load.specs.declared.limits.TheConstants.{CENTRES}
use Rattle.tc_load.proofs.Steps.{joined-four}
use Rattle.tc_load.proofs.configuration.write_workload.Goals as goal

pub returns-clause-appended : goal.returns-clause-appended
returns-clause-appended c =
    on_ok_weaker c.write_agents.result
    (joined-four c.args.into.now.items (flat_map centre_text (range_with_len 0 CENTRES)) (codes "role(r).\n")
    (flat_map grants_text (range_with_len 0 CENTRES)) (flat_map (agent_text c.args.words.now) (range_with_len 0 c.args.agents))
    c.write_centres.new.into.items c.extend_from_slice.new.self.items c.write_grants.new.into.items
    c.write_agents.new.into.items c.in_ok-write_centres.ensures.appended c.in_ok-extend_from_slice.ensures.items
    c.in_ok-write_grants.ensures.appended)
    c.write_agents.ensures.appended
