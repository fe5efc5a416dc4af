-- What two nodes of terms have in common.
use Rattle.std.specs.Prelude.{ℕ, [], ◌∷◌}
use Rattle.tc_unify.specs.declared.nodes.Heads.{Heads}
use Rattle.tc_unify.specs.declared.nodes.Heads.TheVariants.{Clash, Same, Last, Pairs}
use Rattle.tc_unify.specs.declared.nodes.Arena.{Arena}
use Rattle.tc_unify.specs.Arena.{shape_of, AreNodesOf}
use Rattle.tc_unify.specs.Solutions.{Joins, Clashes}

-- no trees make the nodes equal, or they are equal where the pairs are
abbrev pub IsHeads : Arena → ℕ → ℕ → Heads → Type 0
IsHeads arena a b Clash = Clashes (shape_of arena) a b
IsHeads arena a b Same = Joins (shape_of arena) a b []
IsHeads arena a b (Last arguments) =
    Joins (shape_of arena) a b (arguments ∷ []) × AreNodesOf arena (arguments ∷ [])
IsHeads arena a b (Pairs arguments heads) =
    Joins (shape_of arena) a b (arguments ∷ heads ∷ [])
    × AreNodesOf arena (arguments ∷ heads ∷ [])
