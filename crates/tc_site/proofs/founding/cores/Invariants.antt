use Rattle.std.proofs.Common.{◌≡◌, map, take}
use Rattle.tc_site.specs.Founding.{founded_core}
use Rattle.tc_site.proofs.founding.cores.Given as goal

-- the centres so far have their cores
abbrev pub invariant-loop-centre : goal.invariant-loop-centre
invariant-loop-centre l = l.cores.items ≡ map (founded_core l.config) (take l.centre-index l.centres)
