use Rattle.std.proofs.Common.{◌≡◌, All, map}
use Rattle.tc_config.specs.Configurations.{IsCentre}
use Rattle.tc_runner.specs.Plans.{fresh_core, names_of}
use Rattle.tc_runner.proofs.opening.each_core.Given as goal

-- the centres so far have their cores, and those that are left are configured
abbrev pub invariant-loop-centre : goal.invariant-loop-centre
invariant-loop-centre l = record {
  cores : l.cores.items ≡ map (fresh_core (names_of l.agents)) l.yielded;
  left : All IsCentre l.centre-iterator.rest.items;
}
