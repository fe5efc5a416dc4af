-- Trees that nothing makes equal.
use Rattle.std.specs.Prelude.{◌≢◌, ℕ}
use Rattle.tc_term.specs.Tree.{Tree}
use Rattle.tc_term.specs.Variables.{instance}

-- no trees for the variables of the one and of the other make them equal
abbrev pub NeverEqual : Tree → Tree → Type 0
NeverEqual s t = (f g : ℕ → Tree) → instance f s ≢ instance g t
