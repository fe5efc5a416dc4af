-- Sites of configurations.
use Rattle.std.specs.Prelude.{◌≡◌, [], map}
use Rattle.tc_centre.specs.Centre.{Centre}
use Rattle.tc_config.specs.Configurations.{Configuration, centre_names}
use Rattle.tc_config.specs.Good.{origin_of}
use Rattle.tc_config.specs.declared.configs.CentreConf.{CentreConf}
use Rattle.tc_site.specs.Sites.{SiteState, origins_of, roles_of}

-- the core of a centre as it is set up, which has served nothing
abbrev pub founded_core : Configuration → CentreConf → Centre
founded_core c centre = record { origin = origin_of c centre; history = [] }

-- the site has the configuration's centres, each as it is set up, its agents' roles, and this
-- warden
pub record IsFounded {W : Type 0} (c : Configuration) (warden : W) (s : SiteState W) : Type 0 where
  pub names_are : s.names ≡ centre_names c
  pub origins : origins_of s.centres ≡ map (origin_of c) c.centres
  pub roles_are : s.roles ≡ roles_of c.agents
  pub warden_is : s.warden ≡ warden
