-- Why a term is no template.
use Rattle.std.specs.Prelude.{◌≡◌, ◌<◌, length}
use Rattle.tc_term.specs.Limits.{most_depth, most_variables}
use Rattle.tc_term.specs.Room.{whole, IsWithin}
use Rattle.tc_term.specs.Tree.{Fits}
use Rattle.tc_term.specs.TreeView.{tree_of}
use Rattle.tc_term.specs.Variables.{variables, renumbered, IsTemplate}
use Rattle.tc_term.specs.declared.template.NotPattern.{NotPattern}
use Rattle.tc_term.specs.declared.template.NotPattern.TheVariants.{TooBig, TooMany, NoMemory}
use Rattle.tc_term.specs.declared.terms.Term.{Term}

-- the term, given back, is too big, or it fits and has too many variables, or it is a template whose
-- variables aren't numbered by first appearance yet
abbrev pub HasExcess : Term → NotPattern → Type 0
HasExcess t (TooBig u) = (u ≡ t) × (IsWithin (tree_of t) most_depth whole → ⊥)
HasExcess t (TooMany u) =
    (u ≡ t) × Fits (tree_of t) × (most_variables < length (variables (tree_of t)))
HasExcess t (NoMemory u) =
    (u ≡ t) × IsTemplate (tree_of t) × (renumbered (tree_of t) ≡ tree_of t → ⊥)
