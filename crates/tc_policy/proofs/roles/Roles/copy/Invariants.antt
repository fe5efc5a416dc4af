use Rattle.std.proofs.Common.{◌≡◌, take}
use Rattle.tc_policy.proofs.roles.Roles.copy.Given as goal

abbrev pub invariant-loop-grant : goal.invariant-loop-grant
invariant-loop-grant l = l.roles ≡ take l.grant-index l.grant-items
