-- The cores of a configuration's centres, and the logs of its agents.
use Rattle.std.specs.Prelude.{◌≡◌, ◌<◌, List, [], ◌∷◌, map, length}
use Rattle.tc_model.specs.Choices.{TheFirst}
use Rattle.tc_model.specs.declared.entries.Entry.{Entry}
use Rattle.tc_centre.specs.Centre.{Centre}
use Rattle.tc_desk.specs.declared.rows.LogRow.{LogRow}
use Rattle.tc_config.specs.Configurations.{Configuration}
use Rattle.tc_config.specs.Good.{IsGoing, origin_of}
use Rattle.tc_config.specs.declared.configs.CentreConf.{CentreConf}

-- the history of each centre, in order; a centre that isn't opened has an empty one
abbrev pub histories_of : List CentreConf → List Centre → List (List Entry)
histories_of [] cores = []
histories_of (s ∷ ss) [] = [] ∷ histories_of ss []
histories_of (s ∷ ss) (x ∷ xs) = x.history ∷ histories_of ss xs

abbrev pub histories : Configuration → List Centre → List (List Entry)
histories c cores = histories_of c.centres cores

-- each centre is opened, if there is an agent, with what the configuration says
abbrev pub AreCores : Configuration → List Centre → Type 0
AreCores c cores =
    0 < length c.agents → map (λ (x : Centre). x.origin) cores ≡ map (origin_of c) c.centres

-- cores and logs of a run of the configuration that may go on; every choice was the first
pub record Goes (c : Configuration) (cores : List Centre) (logs : List (List LogRow)) : Type 0 where
  pub are : AreCores c cores
  pub going : IsGoing TheFirst c (histories c cores) logs
