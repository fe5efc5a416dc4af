-- Cores and logs that workers have left are those of a run that may go on.
use Rattle.std.proofs.Common.{◌≡◌, ◌∙◌, ℕ, ◌<◌, true, List, Some, All, length, map, refl, sym, ap, subst, get_or}
use Rattle.std.specs.List.{slice_get}
use Rattle.std.proofs.lemmas.Bool.{eq-eqb}
use Rattle.std.proofs.lemmas.List.{length-map}
use Rattle.std.proofs.lemmas.Option.{slice_get-get_or}
use Rattle.tc_centre.specs.Centre.{Centre}
use Rattle.tc_config.specs.Configurations.{Configuration, IsConfig, agent_names, centre_names}
use Rattle.tc_config.specs.Good.{Follows, IsHistory, IsNoLook, Permits, origin_of}
use Rattle.tc_config.specs.declared.configs.AgentConf.{AgentConf}
use Rattle.tc_config.specs.declared.configs.CentreConf.{CentreConf}
use Rattle.tc_desk.specs.Agreeing.{Agrees}
use Rattle.tc_desk.specs.Decided.{IsDecided}
use Rattle.tc_desk.specs.declared.rows.LogRow.{LogRow}
use Rattle.tc_lists.proofs.Elements.{All-slice_get}
use Rattle.tc_lists.proofs.Filters.{All-filter_each}
use Rattle.tc_model.specs.Calls.{calls_of, is_call_of}
use Rattle.tc_model.specs.Choices.{TheFirst}
use Rattle.tc_model.specs.Run.{IsFirstRun, IsLegal}
use Rattle.tc_model.specs.State.{Origin, State}
use Rattle.tc_model.specs.declared.entries.Entry.{Entry}
use Rattle.tc_model.specs.declared.entries.Entry.TheVariants.{Called, Gave, Looked}
use Rattle.tc_runner.proofs.Cores.{histories-map}
use Rattle.tc_runner.proofs.Fresh.{histories-whole}
use Rattle.tc_lists.proofs.Sets.{slice_get-as_long, slice_get_inside}
use Rattle.tc_runner.specs.Cores.{AreCores, Goes, histories}
use Rattle.tc_shared.specs.Passes.{IsAtRest}
use Rattle.tc_site.proofs.Configured.{rest-at}
use Rattle.tc_sched.specs.Clients.{IsOfScripts}
use Rattle.tc_workers.proofs.Follow.{Follows-agreed, no-looks}

-- an entry that is legal is no look, where no agent has made one
no-look : (origin : Origin) (before history : List Entry) (s : State) (k : ℕ) (e : Entry) → slice_get history k ≡ Some e → IsLegal TheFirst origin before s e
    → ((agent : ℕ) → agent < length origin.agents → All IsNoLook (calls_of agent history)) → IsNoLook e
no-look origin before history s k (Called id op result items) at legal none = tt
no-look origin before history s k (Gave id result items) at legal none = tt
no-look origin before history s k (Looked id asked told) at legal none =
    All-slice_get (λ (x : Entry). is_call_of id.agent x ≡ true → IsNoLook x) history k (Looked id asked told)
    (All-filter_each (is_call_of id.agent) IsNoLook history (none id.agent legal.1.agent)) at (eq-eqb id.agent id.agent refl)

-- a run has no looks, where no agent has made one
looks-none : (origin : Origin) (history : List Entry) → IsFirstRun origin history
    → ((agent : ℕ) → agent < length origin.agents → All IsNoLook (calls_of agent history)) → All IsNoLook history
looks-none origin history run none k d inside =
    let at = slice_get-get_or history k d inside in
    no-look origin _ history _ k (get_or history k d) at (run k (get_or history k d) at) none

-- what is known of an agent's log, once its desk has ended and the cores are closed
pub record IsWorked (c : Configuration) (cores : List Centre) (agent : ℕ) (a : AgentConf) (log : List LogRow) : Type 0 where
  pub agrees : Agrees (map (origin_of c) c.centres) (centre_names c) (map (λ (x : Centre). x.history) cores) agent log
  pub decided : IsDecided (Permits c a.role) (centre_names c) log
  pub rows : IsOfScripts (centre_names c) a.scripts log

module _ (c : Configuration) (config : IsConfig c) (some : 0 < length c.agents) (cores : List Centre) (logs : List (List LogRow))
    (are : AreCores c cores) (rest : All (λ (x : Centre). IsAtRest x.origin x.history) cores) (whole : length logs ≡ length c.agents)
    (each : (agent : ℕ) (a : AgentConf) (log : List LogRow) → slice_get c.agents agent ≡ Some a → slice_get logs agent ≡ Some log → IsWorked c cores agent a log) where
  same-histories : histories c cores ≡ map (λ (x : Centre). x.history) cores
  same-histories = histories-map c some cores are

  agrees-at : (agent : ℕ) (a : AgentConf) (log : List LogRow) → IsWorked c cores agent a log
      → Agrees (map (origin_of c) c.centres) (centre_names c) (histories c cores) agent log
  agrees-at agent a log left =
      subst (λ hs. Agrees (map (origin_of c) c.centres) (centre_names c) hs agent log) (sym same-histories) left.agrees

  follows-at : (agent : ℕ) (a : AgentConf) (log : List LogRow) → slice_get c.agents agent ≡ Some a → slice_get logs agent ≡ Some log
      → Follows c (histories c cores) agent a log
  follows-at agent a log stands at =
      let left = each agent a log stands at in
      Follows-agreed c config (histories c cores) (histories-whole c.centres cores) agent a log (agrees-at agent a log left) left.decided left.rows

  -- no agent has made a look
  no-look-of : (agent : ℕ) (place : ℕ) (history : List Entry) → agent < length (agent_names c) → slice_get (histories c cores) place ≡ Some history
      → All IsNoLook (calls_of agent history)
  no-look-of agent place history within there =
      let a = slice_get_inside c.agents agent (subst (λ n. agent < n) (length-map c.agents (λ (x : AgentConf). x.name)) within) in
      let log = slice_get-as_long c.agents logs agent a.0 whole a.1 in
      let left = each agent a.0 log.0 a.1 log.1 in
      no-looks c config (histories c cores) (histories-whole c.centres cores) agent a.0 log.0 (agrees-at agent a.0 log.0 left) left.decided left.rows place history there

  history-is : (place : ℕ) (s : CentreConf) (history : List Entry) → slice_get c.centres place ≡ Some s → slice_get (histories c cores) place ≡ Some history
      → IsHistory TheFirst (origin_of c s) history
  history-is place s history known there =
      let rests : IsAtRest (origin_of c s) history =
      rest-at c config cores (are some) rest place s history known (ap (λ hs. slice_get hs place) (sym same-histories) ∙ there) in
      record {
        run = rests.run;
        quiescent = rests.quiescent;
        looks = looks-none (origin_of c s) history rests.run (λ agent within. no-look-of agent place history within there);
      }

  pub Goes-closed : Goes c cores logs
  Goes-closed = record {
    are = are;
    going = record {
      runs = record { whole = histories-whole c.centres cores; each = history-is };
      follow = record { whole = whole; each = follows-at };
    };
  }
