-- What a service comes to.
use Rattle.std.proofs.Common.{◌≡◌, ◌∙◌, ℕ, ◌==◌, ◌^◌, ◌<◌, Bool, true, false, not, List, [], ◌∷◌, ◌++◌, Option, None, Some, All, length, map, refl, sym, ap, subst, arith, append-nil}
use Rattle.std.specs.List.{slice_get, list_any}
use Rattle.std.proofs.lemmas.Bool.{eq-eqb, eqb-true, true≢false}
use Rattle.std.proofs.lemmas.List.{length-map, nil_from_length}
use Rattle.std.proofs.lemmas.List.Elements.{All-nil}
use Rattle.std.proofs.lemmas.Option.{slice_get_within}
use Rattle.tc_centre.specs.Centre.{Centre}
use Rattle.tc_config.specs.Configurations.{Configuration, IsConfig, centre_names}
use Rattle.tc_config.specs.Good.{Permits, origin_of}
use Rattle.tc_config.specs.declared.configs.AgentConf.{AgentConf}
use Rattle.tc_config.specs.declared.configs.CentreConf.{CentreConf}
use Rattle.tc_desk.specs.Agreeing.{Agrees}
use Rattle.tc_desk.specs.declared.rows.LogRow.{LogRow}
use Rattle.tc_io.specs.Links.{Connection}
use Rattle.tc_lists.proofs.Sets.{slice_get-as_long, slice_get-map_from}
use Rattle.tc_model.specs.State.{Origin}
use Rattle.tc_policy.specs.declared.grants.Grant.{Grant}
use Rattle.tc_runner.proofs.Cores.{cores-whole, histories-map}
use Rattle.tc_runner.proofs.Fresh.{empty-history, histories-empty, histories-whole}
use Rattle.tc_runner.specs.Cores.{AreCores, histories}
use Rattle.tc_site.proofs.Configured.{agrees-at, decided-at, named-cores, origins-left, permits_by, rest-at}
use Rattle.tc_site.proofs.Settled.{settled-decided}
use Rattle.tc_shared.specs.Passes.{IsAtRest}
use Rattle.tc_site.specs.Desks.{IsDecidedLog}
use Rattle.tc_site.specs.Settling.{AreNamed, AreSettled, IsSettled}
use Rattle.tc_site.specs.Sites.{AllAgree, AreClosed, AreOfSite, EndedDeskState, IsSiteOf, KitState, SiteState, core_histories}
use Rattle.tc_visits.specs.Service.{DoorState, HaveSessions, IsServedLog, IsService, IsServiceBy, lacked_memory, log_left}
use Rattle.tc_visits.specs.Serving.{AreServed, kit_of, opened_all}
use Rattle.tc_visits.specs.Sessions.{IsSessionAt}
use Rattle.tc_visits.specs.Visits.{IsVisit, VisitState, session_of}
use Rattle.tc_visits.proofs.Desks.{connections-of, desk-decided, desks-of, lacked-of, left_desks, log-left, visits-count, were-sessions}

-- a list that isn't empty has some element
some-left : {X : Type 0} (xs : List X) → (xs ≡ [] → ⊥) → 0 < length xs
some-left [] some = absurd (some refl)
some-left (x ∷ xs) some = omega arith

-- whether a list is empty, by a test of its length
pub emptiness : {X : Type 0} (xs : List X) (n : ℕ) (b : Bool) → n ≡ length xs → b ≡ (n == 0) → (b ≡ true → xs ≡ []) × (b ≡ false → xs ≡ [] → ⊥)
emptiness xs n b long is = (
  λ yes. nil_from_length xs (sym long ∙ eqb-true n 0 (sym is ∙ yes)),
  λ no none. true≢false (sym (is ∙ eq-eqb n 0 (long ∙ ap length none)) ∙ no),
)

-- an empty history is at rest
rests-empty : (origin : Origin) → IsAtRest origin []
rests-empty origin =
    let is = empty-history origin in
    record { run = is.run; quiescent = is.quiescent; light = omega arith }

-- after the site of some agents is closed
module _ (c : Configuration) (config : IsConfig c) (some : 0 < length c.agents) (s : SiteState (List Grant)) (names : List (List ℕ)) (fresh cores : List Centre)
    (agents : List AgentConf) (roles : List Grant) (named : names ≡ centre_names c) (same : agents ≡ c.agents) (granted : roles ≡ c.roles)
    (site : IsSiteOf names fresh agents roles s) (opened : AreCores c fresh) (closed : AreClosed s cores)
    (kits : List (KitState (List Grant))) (every : AreOfSite (λ (k : KitState (List Grant)). k.site) (λ (k : KitState (List Grant)). k.agent) s kits)
    (visits : List VisitState) (idle : List (KitState (List Grant))) (are : map kit_of visits ++ idle ≡ kits)
    (olds : List (List LogRow)) (left : olds ≡ map (λ (e : EndedDeskState (List Grant)). e.log) (left_desks visits idle)) where
  pub cores-are : AreCores c cores
  cores-are more = origins-left c s names fresh cores agents roles named same granted site (opened some) closed

  pub cores-named : (told : List (List ℕ)) → told ≡ centre_names c → AreNamed told cores
  cores-named told is = named-cores c config cores (cores-are some) told is

  same-histories : histories c cores ≡ core_histories cores
  same-histories = histories-map c some cores cores-are

  roles-count : length s.roles ≡ length c.agents
  roles-count = ap length site.roles_are ∙ length-map agents (λ (a : AgentConf). a.role) ∙ ap length same

  pub logs-count : length olds ≡ length c.agents
  logs-count =
      ap length left ∙ length-map (left_desks visits idle) (λ (e : EndedDeskState (List Grant)). e.log) ∙ (desks-of s kits every visits idle are).whole ∙ roles-count

  pub logs-few : length olds < 2 ^ 32
  logs-few = let few = config.few_agents in omega (arith, few, logs-count)

  -- and the logs are settled
  module _ (all : All (IsVisit permits_by) visits) (news : List (List LogRow)) (agree : AllAgree s.names cores olds)
      (settled : AreSettled (centre_names c) (core_histories cores) olds news) (agree_now : AllAgree (centre_names c) cores news) where
    -- a log, and the one that the agent's session has left
    served-log : (agent : ℕ) (a : AgentConf) (log : List LogRow) → slice_get c.agents agent ≡ Some a → slice_get news agent ≡ Some log
        → IsServedLog c (core_histories cores) agent a (log_left (map session_of visits) agent) log
    served-log agent a log known at =
        let old = slice_get-as_long news olds agent log (sym settled.whole) at in
        let e = slice_get-map_from (λ (d : EndedDeskState (List Grant)). d.log) (left_desks visits idle) agent old.0 (subst (λ ls. slice_get ls agent ≡ Some old.0) left old.1) in
        let is : IsSettled (centre_names c) (core_histories cores) agent old.0 log = settled.each agent old.0 log old.1 at in
        let agreed = agrees-at c s names fresh cores agents roles named same granted site (opened some) closed olds agree agent old.0 old.1 in
        let whole : length (core_histories cores) ≡ length (centre_names c) =
        length-map cores (λ (x : Centre). x.history) ∙ cores-whole c some cores cores-are ∙ sym (length-map c.centres (λ (x : CentreConf). x.name)) in
        record {
          settled = subst (λ l. IsSettled (centre_names c) (core_histories cores) agent l log) (sym (log-left visits idle agent e.0 e.1 ∙ e.2)) is;
          agrees = subst (λ os. Agrees os (centre_names c) (core_histories cores) agent log) (cores-are some) (agree_now agent log at);
          decided = settled-decided (map (origin_of c) c.centres) (centre_names c) (core_histories cores) whole agent old.0 log agreed is (Permits c a.role)
              (decided-at c s names fresh cores agents roles named same granted site (opened some) closed agent a old.0 known
              (subst (IsDecidedLog permits_by s agent) e.2 (desk-decided s kits every visits idle are permits_by all agent e.0 e.1)));
        }

    pub is-service : IsService c (map session_of visits) (histories c cores) news
    is-service = record {
      whole = histories-whole c.centres cores;
      runs = λ place centre history known there.
          rest-at c config cores (cores-are some) closed.rest place centre history known (ap (λ hs. slice_get hs place) (sym same-histories) ∙ there);
      few = let count = visits-count s kits every visits idle are in omega (arith, count, roles-count, length-map visits session_of);
      were = subst (λ ns. All (IsSessionAt ns) (map session_of visits)) (site.names_are ∙ named) (were-sessions s kits every visits idle are permits_by all);
      each = settled.whole ∙ logs-count;
      logs_are = λ agent a log known at.
          subst (λ hs. IsServedLog c hs agent a (log_left (map session_of visits) agent) log) (sym same-histories) (served-log agent a log known at);
    }

    module _ (door after : DoorState) (served : AreServed kits door.opened after.opened door.faults after.faults visits idle) (everyone enough : Bool)
        (all_is : (everyone ≡ true → idle ≡ []) × (everyone ≡ false → idle ≡ [] → ⊥)) (enough_is : enough ≡ not (list_any (λ (v : VisitState). lacked_memory v.end) visits)) where
      have : (b : Bool) → (b ≡ true → idle ≡ []) × (b ≡ false → idle ≡ [] → ⊥) → HaveSessions b (length (map session_of visits)) (length c.agents) door after
      have true is =
          let none = ap length (is.0 refl) in
          let count = visits-count s kits every visits idle are in
          (omega (arith, count, none, roles-count, length-map visits session_of), served.all (is.0 refl))
      have false is =
          let count = visits-count s kits every visits idle are in
          let some_idle : 0 < length idle = some-left idle (is.1 refl) in
          (omega (arith, count, some_idle, roles-count, length-map visits session_of), served.lacking (is.1 refl))

      pub is-service-by : IsServiceBy door after everyone enough c (histories c cores) news
      is-service-by = record {
        sessions = map session_of visits;
        service = is-service;
        opened = served.opened_are ∙ ap (opened_all door.opened) (sym (connections-of visits));
        all_are = have everyone all_is;
        enough_is = enough_is ∙ ap not (sym (lacked-of visits));
      }

-- a service of no agent
opened-none : (o : Option (List Connection)) → o ≡ opened_all o []
opened-none None = refl
opened-none (Some before) = ap Some (sym (append-nil before))

pub no-service : (c : Configuration) (cores : List Centre) (logs : List (List LogRow)) (door : DoorState) → length c.agents ≡ 0 → length logs ≡ length c.agents → cores ≡ []
    → IsServiceBy door door true true c (histories c cores) logs
no-service c cores logs door none whole no_core = record {
  sessions = [];
  service = record {
    whole = histories-whole c.centres cores;
    runs = λ place centre history known there.
        let empty : history ≡ [] = histories-empty c.centres cores place history (subst (All (λ (x : Centre). x.history ≡ [])) (sym no_core) (All-nil (λ (x : Centre). x.history ≡ []))) there in
        subst (IsAtRest (origin_of c centre)) (sym empty) (rests-empty (origin_of c centre));
    few = omega arith;
    were = All-nil (IsSessionAt (centre_names c));
    each = whole;
    logs_are = λ agent a log known at. let within = slice_get_within c.agents agent a known in absurd (omega (arith, within, none));
  };
  opened = opened-none door.opened;
  all_are = (sym none, refl);
  enough_is = refl;
}
