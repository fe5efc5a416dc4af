-- Two terms that are to be equal, their variables kept apart.
use Rattle.std.specs.Prelude.{ℕ, ◌+◌, [], ◌∷◌}
use Rattle.tc_term.specs.Tree.{Tree}
use Rattle.tc_term.specs.Equations.{Equations}
use Rattle.tc_term.specs.Variables.{raised, var_bound}

-- the one equation of a term over so many variables and of another, whose variables stand behind
-- them
abbrev pub met : ℕ → Tree → Tree → Equations
met vars s t = record { vars = vars + var_bound t; pairs = (s, raised vars t) ∷ [] }
