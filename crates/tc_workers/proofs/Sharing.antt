-- The centres of a configuration as they are shared, and as they are closed.
use Rattle.std.proofs.Common.{◌≡◌, ◌∙◌, ℕ, ◌<◌, List, Some, All, length, map, sum_by, sym, ap, subst, arith}
use Rattle.std.specs.List.{slice_get}
use Rattle.std.proofs.lemmas.List.{length-map}
use Rattle.tc_centre.specs.Centre.{Centre}
use Rattle.tc_config.specs.Configurations.{Configuration, IsAgent, IsConfig, centre_names, items_of}
use Rattle.tc_config.specs.declared.configs.AgentConf.{AgentConf}
use Rattle.tc_config.specs.declared.configs.CentreConf.{CentreConf}
use Rattle.tc_desk.specs.declared.rows.LogRow.{LogRow}
use Rattle.tc_lists.proofs.Elements.{All-slice_get, All-from_slice_get}
use Rattle.tc_policy.specs.declared.grants.Grant.{Grant}
use Rattle.tc_lists.proofs.Sets.{slice_get-map_from}
use Rattle.tc_runner.specs.Cores.{AreCores, Goes}
use Rattle.tc_sched.specs.Clients.{IsOfScripts}
use Rattle.tc_sched.specs.Steps.{ArePlaced}
use Rattle.tc_site.specs.Desks.{IsDecidedLog}
use Rattle.tc_site.specs.Sites.{AllAgree, AreClosed, EndedDeskState, IsSiteOf, SiteState, roles_of}
use Rattle.tc_site.proofs.Configured.{agrees-at, decided-at, origins-left, permits_by}
use Rattle.tc_workers.specs.Crews.{AreLeft, CanDrive}
use Rattle.tc_workers.proofs.Closed.{Goes-closed, IsWorked}

module _ (c : Configuration) (config : IsConfig c) where
  -- the agents can be driven at a site of its centres
  pub can-drive : {W : Type 0} (s : SiteState W) (agents : List AgentConf) → s.names ≡ centre_names c → s.roles ≡ roles_of agents → agents ≡ c.agents
      → CanDrive s agents
  can-drive s agents named roles same =
      let few = config.few_items in
      let agents_few = config.few_agents in
      let many : length s.names ≡ length c.centres = ap length named ∙ length-map c.centres (λ (x : CentreConf). x.name) in
      record {
        roles_are = roles;
        few = omega (arith, agents_few, ap length same);
        placed =
            subst (All (λ (a : AgentConf). ArePlaced (length s.names) a.scripts)) (sym same)
            (All-from_slice_get (λ (a : AgentConf). ArePlaced (length s.names) a.scripts) c.agents
            (λ k a at. subst (λ n. ArePlaced n a.scripts) (sym many) (All-slice_get (IsAgent c) c.agents k a config.agents at).scripts));
        few_items = let items = ap (sum_by items_of) same in omega (arith, few, items);
      }

-- after the site is closed
module _ (c : Configuration) (config : IsConfig c) (some : 0 < length c.agents) (s : SiteState (List Grant)) (names : List (List ℕ)) (fresh cores : List Centre)
    (agents : List AgentConf) (roles : List Grant) (named : names ≡ centre_names c) (same : agents ≡ c.agents) (granted : roles ≡ c.roles)
    (site : IsSiteOf names fresh agents roles s) (opened : AreCores c fresh) (closed : AreClosed s cores) where
  worked-at : (logs : List (List LogRow)) (ended : List (EndedDeskState (List Grant))) → AreLeft permits_by s agents ended
      → logs ≡ map (λ (e : EndedDeskState (List Grant)). e.log) ended → AllAgree s.names cores logs
      → (k : ℕ) (a : AgentConf) (log : List LogRow) → slice_get c.agents k ≡ Some a → slice_get logs k ≡ Some log → IsWorked c cores k a log
  worked-at logs ended left logged agree k a log at here =
      let e = slice_get-map_from (λ (v : EndedDeskState (List Grant)). v.log) ended k log (ap (λ ls. slice_get ls k) (sym logged) ∙ here) in
      let is = left.each k a e.0 (ap (λ xs. slice_get xs k) same ∙ at) e.1 in
      record {
        agrees = agrees-at c s names fresh cores agents roles named same granted site (opened some) closed logs agree k log here;
        decided = decided-at c s names fresh cores agents roles named same granted site (opened some) closed k a log at
            (subst (IsDecidedLog permits_by s k) e.2 is.sound);
        rows = subst (λ ns. IsOfScripts ns a.scripts log) (site.names_are ∙ named) (subst (IsOfScripts s.names a.scripts) e.2 is.rows);
      }

  -- cores and logs are those of a run that may go on
  pub closed-goes : (logs : List (List LogRow)) (ended : List (EndedDeskState (List Grant))) → AreLeft permits_by s agents ended
      → logs ≡ map (λ (e : EndedDeskState (List Grant)). e.log) ended → AllAgree s.names cores logs → Goes c cores logs
  closed-goes logs ended left logged agree =
      let whole : length logs ≡ length c.agents =
      let ends = left.are.whole in
      let roles = ap length site.roles_are in
      omega (arith, ap length logged, length-map ended (λ (v : EndedDeskState (List Grant)). v.log), ends, roles, length-map agents (λ (b : AgentConf). b.role), ap length same) in
      Goes-closed c config some cores logs (λ more. origins-left c s names fresh cores agents roles named same granted site (opened some) closed) closed.rest whole
      (worked-at logs ended left logged agree)
