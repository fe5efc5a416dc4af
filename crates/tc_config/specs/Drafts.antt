-- A configuration while it is read.
use Rattle.std.specs.Prelude.{◌≡◌, ◌<◌, ◌≤◌, ℕ, All, length}
use Rattle.tc_model.specs.declared.limits.TheConstants.{MOST_TUPLES}
use Rattle.tc_policy.specs.declared.grants.TheConstants.{MOST_GRANTS}
use Rattle.tc_config.specs.Configurations.{Configuration, IsConfig, agent_names}
use Rattle.tc_config.specs.Configurations.{centre_names, configuration, items_in}
use Rattle.tc_config.specs.Causes.{IsFaultless}
use Rattle.tc_config.specs.Meanings.{ClauseMakes}
use Rattle.tc_config.specs.declared.configs.CentreConf.{CentreConf}
use Rattle.tc_config.specs.declared.forms.Form.{Form}
use Rattle.tc_config.specs.declared.draft.Draft.{Draft}

-- what it has set up
abbrev pub config_of : Draft → Configuration
config_of d = configuration d.centres.items d.role_names.items d.roles d.agents.items

-- it is a configuration, and its names and items are those that are noted
pub record IsDraft (d : Draft) : Type 0 where
  pub config : IsConfig (config_of d)
  pub centres : d.known_centres ≡ centre_names (config_of d)
  pub roles : d.known_roles ≡ d.role_names.items
  pub agents : d.known_agents ≡ agent_names (config_of d)
  pub items : d.items ≡ items_in (config_of d)

-- a clause of this form, with so many variables, is right, and makes one draft the other
pub record AddsClause (vars : ℕ) (x : Form) (d e : Draft) : Type 0 where
  pub right : IsFaultless (config_of d) x
  pub makes : ClauseMakes (config_of d) vars x (config_of e)
  pub draft : IsDraft e

-- so many clauses have given no more grants than they are, and no centre more tuples
pub record IsOfClauses (count : ℕ) (c : Configuration) : Type 0 where
  pub grants : length c.roles ≤ count
  pub tuples : All (λ (s : CentreConf). length s.tuples ≤ count) c.centres

-- there is room for one more
pub record HasRoom (c : Configuration) : Type 0 where
  pub grants : length c.roles < MOST_GRANTS
  pub tuples : All (λ (s : CentreConf). length s.tuples < MOST_TUPLES) c.centres
