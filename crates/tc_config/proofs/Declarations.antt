-- Drafts in which a centre, a role or an agent is declared.
use Rattle.std.proofs.Common.{◌≡◌, ◌<◌, ◌≤◌, ℕ, Option, Some, None, IfSome, List, [], ◌∷◌, ◌++◌, length, map, sum_by, unwrap_or, Global, Vec, sym, subst, ap, ◌∙◌, arith}
use Rattle.std.proofs.lemmas.List.Elements.{All-nil}
use Rattle.std.proofs.lemmas.List.Sums.{sum_by-append}
use Rattle.std.proofs.lemmas.List.{map_push}
use Rattle.tc_term.specs.Tree.{Tree, IsTuple}
use Rattle.tc_model.specs.Reactions.{IsRule, Rule}
use Rattle.tc_model.specs.Scripts.{Lines}
use Rattle.tc_model.specs.State.{IsName}
use Rattle.tc_model.specs.declared.limits.TheConstants.{MOST_BUDGET}
use Rattle.tc_config.specs.Configurations.{IsCentre, IsConfig, agent_names, centre_names, configuration, items_of}
use Rattle.tc_config.specs.Drafts.{IsDraft, config_of}
use Rattle.tc_config.specs.Meanings.{agent, centre}
use Rattle.tc_names.specs.Names.{place_of}
use Rattle.tc_config.specs.declared.configs.AgentConf.{AgentConf}
use Rattle.tc_config.specs.declared.configs.CentreConf.{CentreConf}
use Rattle.tc_config.specs.declared.draft.Draft.{Draft}
use Rattle.tc_config.specs.declared.limits.TheConstants.{MOST_CENTRES, MOST_ROLES, MOST_AGENTS, USUAL_BUDGET}
use Rattle.tc_names.proofs.Declared.{place-within}
use Rattle.tc_config.proofs.Growth.{config-agent, config-centre, config-role}

-- a centre as it is declared is one
IsCentre-centre : (name : List ℕ) (b : Option ℕ) → IsName name → IfSome b (λ n. (1 ≤ n) × (n ≤ MOST_BUDGET))
    → IsCentre (centre name b)
IsCentre-centre name None is range = record {
  name = is;
  some_budget = omega arith;
  budget = omega arith;
  clauses = record { rules = All-nil IsRule; few = omega arith };
  tuples = All-nil IsTuple;
  few_tuples = omega arith;
}
IsCentre-centre name (Some n) is range = record {
  name = is;
  some_budget = range.0;
  budget = range.1;
  clauses = record { rules = All-nil IsRule; few = omega arith };
  tuples = All-nil IsTuple;
  few_tuples = omega arith;
}

-- and one that was found
pub known_by : (known names : List (List ℕ)) (name : List ℕ) (k : ℕ) → known ≡ names → place_of known name ≡ Some k
    → place_of names name ≡ Some k
known_by known names name k same at = subst (λ ns. place_of ns name ≡ Some k) same at

pub draft-centre : (d : Draft) (centres : Vec CentreConf Global) (known : List (List ℕ)) (name : List ℕ) (b : Option ℕ) → IsDraft d
    → IsName name → IfSome b (λ n. (1 ≤ n) × (n ≤ MOST_BUDGET)) → place_of d.known_centres name ≡ None
    → length d.centres.items < MOST_CENTRES → known ≡ d.known_centres ++ name ∷ []
    → centres.items ≡ d.centres.items ++ centre name b ∷ [] → IsDraft (record d { centres = centres; known_centres = known })
draft-centre d centres known name b h is range new few more grown =
    let unknown : place_of (centre_names (config_of d)) name ≡ None =
    subst (λ names. place_of names name ≡ None) h.centres new in
    record {
      config =
          subst (λ xs. IsConfig (configuration xs d.role_names.items d.roles d.agents.items)) (sym grown)
          (config-centre (config_of d) (centre name b) h.config (IsCentre-centre name b is range) unknown few);
      centres =
          more ∙ ap (λ names. names ++ name ∷ []) h.centres
          ∙ sym (map_push (λ (x : CentreConf). x.name) d.centres.items (centre name b))
          ∙ ap (map (λ (x : CentreConf). x.name)) (sym grown);
      roles = h.roles;
      agents = h.agents;
      items = h.items;
    }

pub draft-role : (d : Draft) (roles : Vec (List ℕ) Global) (known : List (List ℕ)) (name : List ℕ) → IsDraft d → IsName name
    → place_of d.known_roles name ≡ None → length d.role_names.items < MOST_ROLES → known ≡ d.known_roles ++ name ∷ []
    → roles.items ≡ d.role_names.items ++ name ∷ [] → IsDraft (record d { role_names = roles; known_roles = known })
draft-role d roles known name h is new few more grown =
    let unknown : place_of d.role_names.items name ≡ None = subst (λ names. place_of names name ≡ None) h.roles new in
    record {
      config =
          subst (λ names. IsConfig (configuration d.centres.items names d.roles d.agents.items)) (sym grown)
          (config-role (config_of d) name h.config is unknown few);
      centres = h.centres;
      roles = more ∙ ap (λ names. names ++ name ∷ []) h.roles ∙ sym grown;
      agents = h.agents;
      items = h.items;
    }

pub draft-agent : (d : Draft) (agents : Vec AgentConf Global) (known : List (List ℕ)) (name role : List ℕ) (k : ℕ) → IsDraft d
    → IsName name → place_of d.known_roles role ≡ Some k → place_of d.known_agents name ≡ None
    → length d.agents.items < MOST_AGENTS → known ≡ d.known_agents ++ name ∷ []
    → agents.items ≡ d.agents.items ++ agent name k ∷ [] → IsDraft (record d { agents = agents; known_agents = known })
draft-agent d agents known name role k h is at new few more grown =
    let unknown : place_of (agent_names (config_of d)) name ≡ None =
    subst (λ names. place_of names name ≡ None) h.agents new in
    let inside : k < length d.role_names.items =
    place-within d.role_names.items role k (subst (λ names. place_of names role ≡ Some k) h.roles at) in
    record {
      config =
          subst (λ xs. IsConfig (configuration d.centres.items d.role_names.items d.roles xs)) (sym grown)
          (config-agent (config_of d) name k h.config is inside unknown few);
      centres = h.centres;
      roles = h.roles;
      agents =
          more ∙ ap (λ names. names ++ name ∷ []) h.agents
          ∙ sym (map_push (λ (x : AgentConf). x.name) d.agents.items (agent name k))
          ∙ ap (map (λ (x : AgentConf). x.name)) (sym grown);
      items = omega (arith, h.items, ap (sum_by items_of) grown, sum_by-append items_of d.agents.items (agent name k ∷ []));
    }

-- what was pushed is a centre as it is declared, and an agent
pub pushed-centre : (xs ys : List CentreConf) (name : List ℕ) (b : Option ℕ) (budget : ℕ) (clauses : List Rule) (tuples : List Tree)
    → budget ≡ unwrap_or b USUAL_BUDGET → clauses ≡ [] → tuples ≡ []
    → ys ≡ xs ++ (record { name = name; budget = budget; clauses = clauses; tuples = tuples }) ∷ []
    → ys ≡ xs ++ centre name b ∷ []
pushed-centre xs ys name b budget clauses tuples budget_is no_clause no_tuple pushed =
    pushed
    ∙ ap (λ n. xs ++ (record { name = name; budget = n; clauses = clauses; tuples = tuples }) ∷ []) budget_is
    ∙ ap (λ (cs : List Rule). xs ++ (record { name = name; budget = unwrap_or b USUAL_BUDGET; clauses = cs; tuples = tuples }) ∷ []) no_clause
    ∙ ap (λ (ts : List Tree). xs ++ (record { name = name; budget = unwrap_or b USUAL_BUDGET; clauses = []; tuples = ts }) ∷ []) no_tuple

pub pushed-agent : (xs ys : List AgentConf) (name : List ℕ) (k : ℕ) (scripts : List Lines) → scripts ≡ []
    → ys ≡ xs ++ (record { name = name; role = k; scripts = scripts }) ∷ [] → ys ≡ xs ++ agent name k ∷ []
pushed-agent xs ys name k scripts no_script pushed =
    pushed ∙ ap (λ (ss : List Lines). xs ++ (record { name = name; role = k; scripts = ss }) ∷ []) no_script
