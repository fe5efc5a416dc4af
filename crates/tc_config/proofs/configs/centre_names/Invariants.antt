use Rattle.std.proofs.Common.{◌≡◌, map, take}
use Rattle.tc_config.specs.declared.configs.CentreConf.{CentreConf}
use Rattle.tc_config.proofs.configs.centre_names.Given as goal

abbrev pub invariant-loop-centre : goal.invariant-loop-centre
invariant-loop-centre l = l.names.items ≡ map (λ (s : CentreConf). s.name) (take l.centre-index l.centres)
