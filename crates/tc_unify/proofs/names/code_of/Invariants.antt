use Rattle.std.proofs.Common.{◌≡◌, ◌≤◌, drop, length}
use Rattle.tc_unify.specs.Names.{name_code}
use Rattle.tc_unify.proofs.names.code_of.Given as goal

abbrev pub invariant-loop-place : goal.invariant-loop-place
invariant-loop-place l = record {
  code : l.code ≡ name_code (drop l.place l.name);
  place : l.place ≤ length l.name;
}

abbrev pub decreases-loop-place : goal.decreases-loop-place
decreases-loop-place l = l.place
