-- Sites whose centres are those of a configuration, as they are opened and as they are closed.
use Rattle.std.proofs.Common.{◌≡◌, ◌≢◌, ◌∙◌, ℕ, List, [], Option, Some, All, AllPairs, length, map, sym, ap, subst, arith}
use Rattle.std.specs.List.{slice_get}
use Rattle.std.proofs.lemmas.List.{length-map}
use Rattle.std.proofs.lemmas.Option.{same_Some}
use Rattle.tc_centre.specs.Centre.{Centre}
use Rattle.tc_config.specs.Configurations.{Configuration, IsConfig, centre_names}
use Rattle.tc_config.specs.Good.{Permits, origin_of}
use Rattle.tc_config.specs.declared.configs.AgentConf.{AgentConf}
use Rattle.tc_config.specs.declared.configs.CentreConf.{CentreConf}
use Rattle.tc_desk.specs.Agreeing.{Agrees}
use Rattle.tc_desk.specs.Decided.{IsDecided, IsDecidedAs}
use Rattle.tc_desk.specs.declared.rows.LogResult.{LogResult}
use Rattle.tc_desk.specs.declared.rows.LogResult.TheVariants.{Replied, Pending, Refused, Polled}
use Rattle.tc_desk.specs.declared.rows.LogRow.{LogRow}
use Rattle.tc_desk.specs.declared.rows.Refusal.TheVariants as refusal
use Rattle.tc_lists.proofs.Elements.{All-slice_get, All-from_slice_get}
use Rattle.tc_lists.proofs.Sets.{slice_get-map_at, slice_get-map_from}
use Rattle.tc_model.specs.Asks.{primitive_of}
use Rattle.tc_model.specs.State.{Origin}
use Rattle.tc_model.specs.declared.asks.Primitive.{Primitive}
use Rattle.tc_model.specs.declared.entries.Entry.{Entry}
use Rattle.tc_policy.specs.Places.{first_number, grant}
use Rattle.tc_policy.specs.declared.grants.Grant.{Grant}
use Rattle.tc_policy.proofs.Numbers.{number-has, number-stands}
use Rattle.tc_shared.specs.Passes.{IsAtRest}
use Rattle.tc_site.specs.Desks.{IsDecidedLog, WardenPermits}
use Rattle.tc_site.specs.Settling.{AreNamed}
use Rattle.tc_site.specs.Sites.{AllAgree, AreClosed, AreFreshCores, IsSiteOf, SiteState, core_histories, core_origins}

-- the number of the grant that permits it, as the warden tells it
abbrev pub permits_by : List Grant → ℕ → ℕ → Primitive → Option ℕ
permits_by grants role place primitive = first_number (grant role place primitive) grants

-- what is decided by one policy is decided by another that permits the same
decided_as : (P Q : Type 0) (result : LogResult) → (P → Q) → (Q → P) → IsDecidedAs P result → IsDecidedAs Q result
decided_as P Q (Replied reply) to from is = to is
decided_as P Q Pending to from is = to is
decided_as P Q (Polled told) to from is = to is
decided_as P Q (Refused refusal.UnknownCentre) to from is = is
decided_as P Q (Refused refusal.Waiting) to from is = is
decided_as P Q (Refused refusal.Denied) to from is = λ q. is (from q)
decided_as P Q (Refused refusal.TooBig) to from is = to is
decided_as P Q (Refused refusal.NotGround) to from is = to is
decided_as P Q (Refused (refusal.BadSpec bad)) to from is = to is
decided_as P Q (Refused refusal.TurnsSpent) to from is = to is
decided_as P Q (Refused (refusal.Full weight pending)) to from is = to is
decided_as P Q (Refused refusal.NoMemory) to from is = to is

-- cores that begin with what the configuration says
module _ (c : Configuration) (config : IsConfig c) (cores : List Centre) (are : core_origins cores ≡ map (origin_of c) c.centres) where
  cores-count : length cores ≡ length c.centres
  cores-count = sym (length-map cores (λ (x : Centre). x.origin)) ∙ ap length are ∙ length-map c.centres (origin_of c)

  core-agents : (k : ℕ) (x : Centre) → slice_get cores k ≡ Some x → length x.origin.agents ≡ length c.agents
  core-agents k x at =
      let here : slice_get (map (origin_of c) c.centres) k ≡ Some x.origin =
      ap (λ os. slice_get os k) (sym are) ∙ slice_get-map_at (λ (y : Centre). y.origin) cores k x at in
      let s = slice_get-map_from (origin_of c) c.centres k x.origin here in
      ap (λ (o : Origin). length o.agents) (sym s.2) ∙ length-map c.agents (λ (a : AgentConf). a.name)

  -- each has the name of its centre
  pub named-cores : (names : List (List ℕ)) → names ≡ centre_names c → AreNamed names cores
  named-cores names named =
      let centres = config.few_centres in
      record {
        whole = omega (arith, cores-count, ap length named, length-map c.centres (λ (s : CentreConf). s.name));
        differ = subst (AllPairs ◌≢◌) (sym named) config.centres_differ;
        few = omega (arith, cores-count, centres);
      }

  -- they may be shared, where they have served nothing
  pub fresh-cores : (names : List (List ℕ)) (agents : List AgentConf) → names ≡ centre_names c → agents ≡ c.agents
      → All (λ (x : Centre). x.history ≡ []) cores → AreFreshCores names cores agents
  fresh-cores names agents named same unserved =
      let few = config.few_agents in
      let are_named = named-cores names named in
      record {
        whole = are_named.whole;
        differ = are_named.differ;
        few = are_named.few;
        few_agents = omega (arith, few, ap length same);
        unserved = unserved;
        agents_are = All-from_slice_get (λ (x : Centre). length x.origin.agents ≡ length agents) cores (λ k x at. core-agents k x at ∙ ap length (sym same));
      }

  -- each history is at rest, where those of the cores are
  pub rest-at : All (λ (x : Centre). IsAtRest x.origin x.history) cores → (place : ℕ) (s : CentreConf) (history : List Entry)
      → slice_get c.centres place ≡ Some s → slice_get (core_histories cores) place ≡ Some history → IsAtRest (origin_of c s) history
  rest-at rest place s history known there =
      let core = slice_get-map_from (λ (x : Centre). x.history) cores place history there in
      let begins : core.0.origin ≡ origin_of c s =
      same_Some core.0.origin (origin_of c s)
      (sym (slice_get-map_at (λ (x : Centre). x.origin) cores place core.0 core.1) ∙ ap (λ os. slice_get os place) are ∙ slice_get-map_at (origin_of c) c.centres place s known) in
      subst (IsAtRest (origin_of c s)) core.2
      (subst (λ o. IsAtRest o core.0.history) begins (All-slice_get (λ (x : Centre). IsAtRest x.origin x.history) cores place core.0 rest core.1))

-- a site of such cores, once it is closed
module _ (c : Configuration) (s : SiteState (List Grant)) (names : List (List ℕ)) (fresh cores : List Centre) (agents : List AgentConf) (roles : List Grant)
    (named : names ≡ centre_names c) (same : agents ≡ c.agents) (granted : roles ≡ c.roles) (site : IsSiteOf names fresh agents roles s)
    (are : core_origins fresh ≡ map (origin_of c) c.centres) (closed : AreClosed s cores) where
  pub names-left : s.names ≡ centre_names c
  names-left = site.names_are ∙ named

  pub origins-left : core_origins cores ≡ map (origin_of c) c.centres
  origins-left = closed.origins ∙ site.origins ∙ are

  roles-are : s.warden ≡ c.roles
  roles-are = site.warden_is ∙ granted

  role-at : (k : ℕ) (a : AgentConf) → slice_get c.agents k ≡ Some a → slice_get s.roles k ≡ Some a.role
  role-at k a at =
      ap (λ rs. slice_get rs k) site.roles_are ∙ ap (λ xs. slice_get (map (λ (b : AgentConf). b.role) xs) k) same
      ∙ slice_get-map_at (λ (b : AgentConf). b.role) c.agents k a at

  -- an agent's log is decided by the grants
  pub decided-at : (k : ℕ) (a : AgentConf) (log : List LogRow) → slice_get c.agents k ≡ Some a → IsDecidedLog permits_by s k log
      → IsDecided (Permits c a.role) (centre_names c) log
  decided-at k a log at sound =
      let is = sound a.role (role-at k a at) in
      record {
        read = is.read;
        decided = λ j row ask place here asked there.
            decided_as (WardenPermits permits_by s.warden a.role place (primitive_of ask)) (Permits c a.role place (primitive_of ask)) row.result
            (λ number. number-stands (grant a.role place (primitive_of ask)) c.roles number.0
            (ap (first_number (grant a.role place (primitive_of ask))) (sym roles-are) ∙ number.1))
            (λ stands.
            let number = number-has (grant a.role place (primitive_of ask)) c.roles stands in
            (number.0, ap (first_number (grant a.role place (primitive_of ask))) roles-are ∙ number.1))
            (is.decided j row ask place here asked (ap (λ ns. slice_get ns place) names-left ∙ there));
      }

  -- and agrees with the histories that are left
  pub agrees-at : (logs : List (List LogRow)) → AllAgree s.names cores logs → (k : ℕ) (log : List LogRow) → slice_get logs k ≡ Some log
      → Agrees (map (origin_of c) c.centres) (centre_names c) (core_histories cores) k log
  agrees-at logs agree k log at =
      subst (λ os. Agrees os (centre_names c) (core_histories cores) k log) origins-left
      (subst (λ ns. Agrees (core_origins cores) ns (core_histories cores) k log) names-left (agree k log at))
