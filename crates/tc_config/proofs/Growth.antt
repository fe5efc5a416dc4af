-- Configurations that grow.
use Rattle.std.proofs.Common.{◌≡◌, ◌≢◌, ◌<◌, ◌≤◌, ◌+◌, ℕ, None, Some, List, [], ◌∷◌, ◌++◌, All, AllPairs, length, sum_by, slice_get, refl, sym, subst, arith}
use Rattle.std.proofs.lemmas.List.{map_push, length_push}
use Rattle.std.proofs.lemmas.List.Elements.{All-nil, All-push, All-weaker}
use Rattle.std.proofs.lemmas.List.Sums.{sum_by-append}
use Rattle.tc_lists.proofs.Elements.{All-slice_get}
use Rattle.tc_term.specs.Tree.{Tree, IsTuple}
use Rattle.tc_model.specs.Reactions.{IsRule, Rule}
use Rattle.tc_model.specs.Scripts.{Lines}
use Rattle.tc_model.specs.State.{IsName}
use Rattle.tc_model.specs.declared.limits.TheConstants.{MOST_CLAUSES, MOST_TUPLES}
use Rattle.tc_model.specs.declared.scripts.ScriptItem.{ScriptItem}
use Rattle.tc_policy.specs.declared.grants.Grant.{Grant}
use Rattle.tc_config.specs.Configurations.{Configuration, HasCentres, IsAgent, IsCentre, IsConfig, IsGrant, agent_names, centre_names, items_in, items_of}
use Rattle.tc_config.specs.Meanings.{agent, changed, with_clause, with_script, with_tuple}
use Rattle.tc_names.specs.Names.{place_of}
use Rattle.tc_config.specs.declared.configs.AgentConf.{AgentConf}
use Rattle.tc_config.specs.declared.configs.CentreConf.{CentreConf}
use Rattle.tc_config.specs.declared.limits.TheConstants.{MOST_CENTRES, MOST_ROLES, MOST_AGENTS, MOST_ITEMS}
use Rattle.tc_config.proofs.Changed.{All-changed, length-changed, map-changed, sum_by-changed}
use Rattle.tc_names.proofs.Declared.{differ-push}

-- what is in range stays so
pub IsGrant-longer : (c e : Configuration) → length c.centres ≤ length e.centres → length c.role_names ≤ length e.role_names
    → (g : Grant) → IsGrant c g → IsGrant e g
IsGrant-longer c e centres roles g h = record { role = omega (arith, h.role); centre = omega (arith, h.centre) }

pub IsAgent-longer : (c e : Configuration) → length c.centres ≤ length e.centres → length c.role_names ≤ length e.role_names
    → (a : AgentConf) → IsAgent c a → IsAgent e a
IsAgent-longer c e centres roles a h = record {
  name = h.name;
  role = omega (arith, h.role);
  scripts =
      All-weaker (HasCentres c) (HasCentres e)
      (λ (s : Lines) items. All-weaker (λ (i : ScriptItem). i.centre < length c.centres)
      (λ (i : ScriptItem). i.centre < length e.centres) (λ i inside. omega (arith, inside)) s.items items) a.scripts h.scripts;
}

-- one more centre
pub config-centre : (c : Configuration) (s : CentreConf) → IsConfig c → IsCentre s → place_of (centre_names c) s.name ≡ None
    → length c.centres < MOST_CENTRES → IsConfig (record c { centres = c.centres ++ s ∷ [] })
config-centre c s h centre new few =
    let e : Configuration = record c { centres = c.centres ++ s ∷ [] } in
    let longer : length c.centres ≤ length e.centres = omega (arith, length_push c.centres s) in
    record {
      centres = All-push IsCentre c.centres s h.centres centre;
      roles = h.roles;
      grants = All-weaker (IsGrant c) (IsGrant e) (IsGrant-longer c e longer (omega arith)) c.roles h.grants;
      agents = All-weaker (IsAgent c) (IsAgent e) (IsAgent-longer c e longer (omega arith)) c.agents h.agents;
      centres_differ =
          subst (AllPairs ◌≢◌) (sym (map_push (λ (x : CentreConf). x.name) c.centres s))
          (differ-push (centre_names c) s.name h.centres_differ new);
      roles_differ = h.roles_differ;
      agents_differ = h.agents_differ;
      few_centres = omega (arith, length_push c.centres s, few);
      few_roles = h.few_roles;
      few_agents = h.few_agents;
      few_items = h.few_items;
    }

-- one more role
pub config-role : (c : Configuration) (name : List ℕ) → IsConfig c → IsName name → place_of c.role_names name ≡ None
    → length c.role_names < MOST_ROLES → IsConfig (record c { role_names = c.role_names ++ name ∷ [] })
config-role c name h is new few =
    let e : Configuration = record c { role_names = c.role_names ++ name ∷ [] } in
    let longer : length c.role_names ≤ length e.role_names = omega (arith, length_push c.role_names name) in
    record {
      centres = h.centres;
      roles = All-push IsName c.role_names name h.roles is;
      grants = All-weaker (IsGrant c) (IsGrant e) (IsGrant-longer c e (omega arith) longer) c.roles h.grants;
      agents = All-weaker (IsAgent c) (IsAgent e) (IsAgent-longer c e (omega arith) longer) c.agents h.agents;
      centres_differ = h.centres_differ;
      roles_differ = differ-push c.role_names name h.roles_differ new;
      agents_differ = h.agents_differ;
      few_centres = h.few_centres;
      few_roles = omega (arith, length_push c.role_names name, few);
      few_agents = h.few_agents;
      few_items = h.few_items;
    }

-- one more grant
pub config-grant : (c : Configuration) (g : Grant) → IsConfig c → IsGrant c g → IsConfig (record c { roles = c.roles ++ g ∷ [] })
config-grant c g h is =
    let e : Configuration = record c { roles = c.roles ++ g ∷ [] } in
    record {
      centres = h.centres;
      roles = h.roles;
      grants =
          All-weaker (IsGrant c) (IsGrant e) (IsGrant-longer c e (omega arith) (omega arith)) (c.roles ++ g ∷ [])
          (All-push (IsGrant c) c.roles g h.grants is);
      agents = All-weaker (IsAgent c) (IsAgent e) (IsAgent-longer c e (omega arith) (omega arith)) c.agents h.agents;
      centres_differ = h.centres_differ;
      roles_differ = h.roles_differ;
      agents_differ = h.agents_differ;
      few_centres = h.few_centres;
      few_roles = h.few_roles;
      few_agents = h.few_agents;
      few_items = h.few_items;
    }

-- one more agent, without a script
pub config-agent : (c : Configuration) (name : List ℕ) (role : ℕ) → IsConfig c → IsName name → role < length c.role_names
    → place_of (agent_names c) name ≡ None → length c.agents < MOST_AGENTS
    → IsConfig (record c { agents = c.agents ++ agent name role ∷ [] })
config-agent c name role h is inside new few =
    let e : Configuration = record c { agents = c.agents ++ agent name role ∷ [] } in
    let one : IsAgent c (agent name role) = record { name = is; role = inside; scripts = All-nil (HasCentres c) } in
    record {
      centres = h.centres;
      roles = h.roles;
      grants = All-weaker (IsGrant c) (IsGrant e) (IsGrant-longer c e (omega arith) (omega arith)) c.roles h.grants;
      agents =
          All-weaker (IsAgent c) (IsAgent e) (IsAgent-longer c e (omega arith) (omega arith)) (c.agents ++ agent name role ∷ [])
          (All-push (IsAgent c) c.agents (agent name role) h.agents one);
      centres_differ = h.centres_differ;
      roles_differ = h.roles_differ;
      agents_differ =
          subst (AllPairs ◌≢◌) (sym (map_push (λ (x : AgentConf). x.name) c.agents (agent name role)))
          (differ-push (agent_names c) name h.agents_differ new);
      few_centres = h.few_centres;
      few_roles = h.few_roles;
      few_agents = omega (arith, length_push c.agents (agent name role), few);
      few_items = omega (arith, items-agent c name role, h.few_items);
    }
  where
    items-agent : (c : Configuration) (name : List ℕ) (role : ℕ) → sum_by items_of (c.agents ++ agent name role ∷ []) ≡ items_in c
    items-agent c name role = omega (arith, sum_by-append items_of c.agents (agent name role ∷ []))

-- a centre changes, and keeps its name
pub config-centres : (c : Configuration) (f : CentreConf → CentreConf) (k : ℕ) → IsConfig c
    → ((s : CentreConf) → (f s).name ≡ s.name)
    → ((s : CentreConf) → slice_get c.centres k ≡ Some s → IsCentre s → IsCentre (f s))
    → IsConfig (record c { centres = changed k f c.centres })
config-centres c f k h named keeps =
    let e : Configuration = record c { centres = changed k f c.centres } in
    let long : length e.centres ≡ length c.centres = length-changed f c.centres k in
    record {
      centres = All-changed f IsCentre c.centres k h.centres keeps;
      roles = h.roles;
      grants = All-weaker (IsGrant c) (IsGrant e) (IsGrant-longer c e (omega arith) (omega arith)) c.roles h.grants;
      agents = All-weaker (IsAgent c) (IsAgent e) (IsAgent-longer c e (omega arith) (omega arith)) c.agents h.agents;
      centres_differ =
          subst (AllPairs ◌≢◌) (sym (map-changed f (λ (x : CentreConf). x.name) c.centres k named)) h.centres_differ;
      roles_differ = h.roles_differ;
      agents_differ = h.agents_differ;
      few_centres = omega (arith, long, h.few_centres);
      few_roles = h.few_roles;
      few_agents = h.few_agents;
      few_items = h.few_items;
    }

-- it has one more tuple
pub config-tuple : (c : Configuration) (t : Tree) (k : ℕ) → IsConfig c → IsTuple t
    → All (λ (s : CentreConf). length s.tuples < MOST_TUPLES) c.centres
    → IsConfig (record c { centres = changed k (with_tuple t) c.centres })
config-tuple c t k h is room =
    config-centres c (with_tuple t) k h (λ s. refl) (λ s at centre.
    let less : length s.tuples < MOST_TUPLES =
    All-slice_get (λ (x : CentreConf). length x.tuples < MOST_TUPLES) c.centres k s room at in
    record {
      name = centre.name;
      some_budget = centre.some_budget;
      budget = centre.budget;
      clauses = centre.clauses;
      tuples = All-push IsTuple s.tuples t centre.tuples is;
      few_tuples = omega (arith, length_push s.tuples t, less);
    })

-- it has one more clause
pub config-clause : (c : Configuration) (r : Rule) (k : ℕ) → IsConfig c → IsRule r
    → ((s : CentreConf) → slice_get c.centres k ≡ Some s → length s.clauses < MOST_CLAUSES)
    → IsConfig (record c { centres = changed k (with_clause r) c.centres })
config-clause c r k h is room =
    config-centres c (with_clause r) k h (λ s. refl) (λ s at centre. record {
      name = centre.name;
      some_budget = centre.some_budget;
      budget = centre.budget;
      clauses = record {
        rules = All-push IsRule s.clauses r centre.clauses.rules is;
        few = omega (arith, length_push s.clauses r, room s at);
      };
      tuples = centre.tuples;
      few_tuples = centre.few_tuples;
    })

-- an agent has one more script
items-script : (vars : ℕ) (items : List ScriptItem) (a : AgentConf)
    → items_of (with_script vars items a) ≡ items_of a + length items
items-script vars items a =
    omega (arith, sum_by-append (λ (s : Lines). length s.items) a.scripts ((record { vars = vars; items = items }) ∷ []))

pub items-scripts : (c : Configuration) (vars : ℕ) (items : List ScriptItem) (k : ℕ) → k < length c.agents
    → items_in (record c { agents = changed k (with_script vars items) c.agents }) ≡ items_in c + length items
items-scripts c vars items k inside =
    sum_by-changed (with_script vars items) items_of (length items) c.agents k inside (items-script vars items)

pub config-script : (c : Configuration) (vars : ℕ) (items : List ScriptItem) (k : ℕ) → IsConfig c → k < length c.agents
    → All (λ (i : ScriptItem). i.centre < length c.centres) items → items_in c + length items ≤ MOST_ITEMS
    → IsConfig (record c { agents = changed k (with_script vars items) c.agents })
config-script c vars items k h inside centres few =
    let e : Configuration = record c { agents = changed k (with_script vars items) c.agents } in
    let long : length e.agents ≡ length c.agents = length-changed (with_script vars items) c.agents k in
    record {
      centres = h.centres;
      roles = h.roles;
      grants = All-weaker (IsGrant c) (IsGrant e) (IsGrant-longer c e (omega arith) (omega arith)) c.roles h.grants;
      agents =
          All-weaker (IsAgent c) (IsAgent e) (IsAgent-longer c e (omega arith) (omega arith)) e.agents
          (All-changed (with_script vars items) (IsAgent c) c.agents k h.agents (λ a at is. record {
            name = is.name;
            role = is.role;
            scripts = All-push (HasCentres c) a.scripts (record { vars = vars; items = items }) is.scripts centres;
          }));
      centres_differ = h.centres_differ;
      roles_differ = h.roles_differ;
      agents_differ =
          subst (AllPairs ◌≢◌) (sym (map-changed (with_script vars items) (λ (x : AgentConf). x.name) c.agents k (λ a. refl)))
          h.agents_differ;
      few_centres = h.few_centres;
      few_roles = h.few_roles;
      few_agents = omega (arith, long, h.few_agents);
      few_items = omega (arith, items-scripts c vars items k inside, few);
    }
