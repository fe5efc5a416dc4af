use Rattle.std.proofs.Common.{◌≡◌, ◌-◌, ◌<◌, ◌++◌, length}
use Rattle.tc_unify.specs.declared.names.TheConstants.{SHORT}
use Rattle.tc_unify.specs.Names.{name_at, name_within, names_within}
use Rattle.tc_unify.proofs.names.name_of.Given as goal

abbrev pub invariant-loop-rest : goal.invariant-loop-rest
invariant-loop-rest l = record {
  name : name_at l.code ≡ l.bytes.items ++ name_within (SHORT - length l.bytes.items) l.rest;
  below : l.rest < names_within (SHORT - length l.bytes.items);
}

abbrev pub decreases-loop-rest : goal.decreases-loop-rest
decreases-loop-rest l = l.rest
