-- A code of trees, by which models tell them apart: a tree is the list of its cells in preorder.
use Rattle.std.specs.Prelude.{◌≡◌, ℕ, ℤ, ◌⊎◌, Bool, true, false, List, [], ◌∷◌, refl}
use Rattle.std.specs.Coded.{Coded, code_by, coded_list, coded⊎, coded_ℕ, coded_ℤ, coded_bool}
use Rattle.std.proofs.Common.{inl, inr, ap, ◌∙◌}
use Rattle.tc_term.specs.Tree.{Tree, Variable, Atomic, Number, Compound, Trees, Last, More}

-- a variable, an atom, a number, a compound's name, or whether an argument is the last
abbrev pub Cell : Type 0
Cell = ℕ ⊎ (List ℕ ⊎ (ℤ ⊎ (List ℕ ⊎ Bool)))

-- the cells of a tree, and then others
abbrev mutual
  pub cells : Tree → List Cell → List Cell
  cells (Variable n) rest = inl n ∷ rest
  cells (Atomic name) rest = inr (inl name) ∷ rest
  cells (Number n) rest = inr (inr (inl n)) ∷ rest
  cells (Compound name args) rest = inr (inr (inr (inl name))) ∷ cells_of_all args rest

  pub cells_of_all : Trees → List Cell → List Cell
  cells_of_all (Last t) rest = inr (inr (inr (inr true))) ∷ cells t rest
  cells_of_all (More t ts) rest = inr (inr (inr (inr false))) ∷ cells t (cells_of_all ts rest)

-- a tree, or arguments, ready to be put together
pub data Built : Type 0 where
  One : Tree → Built
  Several : Trees → Built

-- a compound of the arguments that stand first
abbrev pub with_name : List ℕ → List Built → List Built
with_name name (Several ts ∷ rest) = One (Compound name ts) ∷ rest
with_name name _ = []

-- the tree that stands first, as a last argument
abbrev pub as_last : List Built → List Built
as_last (One t ∷ rest) = Several (Last t) ∷ rest
as_last _ = []

-- the tree that stands first, before the arguments that stand second
abbrev pub as_more : List Built → List Built
as_more (One t ∷ Several ts ∷ rest) = Several (More t ts) ∷ rest
as_more _ = []

-- what stands ready after one more cell
abbrev pub with_cell : Cell → List Built → List Built
with_cell (inl n) ready = One (Variable n) ∷ ready
with_cell (inr (inl name)) ready = One (Atomic name) ∷ ready
with_cell (inr (inr (inl n))) ready = One (Number n) ∷ ready
with_cell (inr (inr (inr (inl name)))) ready = with_name name ready
with_cell (inr (inr (inr (inr true)))) ready = as_last ready
with_cell (inr (inr (inr (inr false)))) ready = as_more ready

-- what the cells make, from the last one on
abbrev pub built : List Cell → List Built
built [] = []
built (c ∷ cs) = with_cell c (built cs)

-- the cells of a tree make the tree again
mutual
  pub built-cells : (t : Tree) (rest : List Cell) → built (cells t rest) ≡ One t ∷ built rest
  built-cells (Variable n) rest = refl
  built-cells (Atomic name) rest = refl
  built-cells (Number n) rest = refl
  built-cells (Compound name args) rest = ap (with_name name) (built-cells_of_all args rest)

  pub built-cells_of_all : (ts : Trees) (rest : List Cell) →
      built (cells_of_all ts rest) ≡ Several ts ∷ built rest
  built-cells_of_all (Last t) rest = ap as_last (built-cells t rest)
  built-cells_of_all (More t ts) rest =
      ap as_more (built-cells t (cells_of_all ts rest))
      ∙ ap (λ ready. as_more (One t ∷ ready)) (built-cells_of_all ts rest)

-- the tree that stands first; of none, any tree
abbrev pub first_tree : List Built → Tree
first_tree (One t ∷ rest) = t
first_tree _ = Atomic []

-- the arguments that stand first; of none, any
abbrev pub first_trees : List Built → Trees
first_trees (Several ts ∷ rest) = ts
first_trees _ = Last (Atomic [])

-- the codes of cells, trees and arguments
abbrev pub coded_cells : Coded (List Cell)
coded_cells =
    coded_list
    (coded⊎ coded_ℕ
    (coded⊎ (coded_list coded_ℕ) (coded⊎ coded_ℤ (coded⊎ (coded_list coded_ℕ) coded_bool))))

abbrev pub coded_tree : Coded Tree
coded_tree =
    code_by (List Cell) coded_cells (λ t. cells t []) (λ cs. first_tree (built cs))
    (λ t. ap first_tree (built-cells t []))

abbrev pub coded_trees : Coded Trees
coded_trees =
    code_by (List Cell) coded_cells (λ ts. cells_of_all ts []) (λ cs. first_trees (built cs))
    (λ ts. ap first_trees (built-cells_of_all ts []))
