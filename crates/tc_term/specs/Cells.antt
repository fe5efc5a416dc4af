-- Which terms are cells of lists.
use Rattle.std.specs.Prelude.{◌≡◌, codes}
use Rattle.tc_term.specs.Tree.{Tree, Compound, Last, More}

-- the term is a list cell of this head and this tail
abbrev pub IsCell : Tree → Tree → Tree → Type 0
IsCell t head tail = t ≡ Compound (codes ".") (More head (Last tail))

-- the term is no list cell
abbrev pub IsNoCell : Tree → Type 0
IsNoCell t = (head tail : Tree) → IsCell t head tail → ⊥
