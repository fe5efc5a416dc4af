-- The equation of a template and a tuple.
use Rattle.std.proofs.Common.{◌≡◌, ◌≤◌, ℕ, ap, arith}
use Rattle.tc_term.proofs.Instances.{var_bound-ground}
use Rattle.tc_term.specs.Tree.{Tree, IsTuple}
use Rattle.tc_term.specs.Variables.{var_bound}

-- a tuple has no variable
pub var_bound-tuple : (t u : Tree) (n : ℕ) → t ≡ u → IsTuple u → var_bound t ≤ n
var_bound-tuple t u n same tuple = omega (arith, ap var_bound same, var_bound-ground u tuple.ground)
