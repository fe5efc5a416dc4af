-- Sites of configurations, as they are closed.
use Rattle.std.proofs.Common.{◌≡◌, ◌<◌, ◌^◌, List, Vec, Global, length, map, ap, arith}
use Rattle.std.proofs.lemmas.List.{length-map}
use Rattle.tc_config.specs.Configurations.{Configuration, IsConfig}
use Rattle.tc_config.specs.declared.configs.AgentConf.{AgentConf}
use Rattle.tc_desk.specs.Logs.{rows_of}
use Rattle.tc_desk.specs.declared.rows.LogRow.{LogRow}
use Rattle.tc_policy.specs.declared.grants.Grant.{Grant}
use Rattle.tc_site.specs.Founding.{IsFounded}
use Rattle.tc_site.specs.Sites.{AreOfSite, EndedDeskState, SiteState}

-- there are few logs: one for each agent of the configuration
pub few-logs : (c : Configuration) (roles : List Grant) (s : SiteState (List Grant)) (ended : List (EndedDeskState (List Grant))) (logs : List (Vec LogRow Global))
    → IsConfig c → IsFounded c roles s
    → AreOfSite (λ (e : EndedDeskState (List Grant)). e.site) (λ (e : EndedDeskState (List Grant)). e.agent) s ended
    → rows_of logs ≡ map (λ (e : EndedDeskState (List Grant)). e.log) ended → length logs < 2 ^ 32
few-logs c roles s ended logs config founded are same =
    let few = config.few_agents in
    let whole = are.whole in
    omega (
      arith,
      few,
      whole,
      ap length same,
      ap length founded.roles_are,
      length-map c.agents (λ (a : AgentConf). a.role),
      length-map logs (λ (l : Vec LogRow Global). l.items),
      length-map ended (λ (e : EndedDeskState (List Grant)). e.log),
    )
