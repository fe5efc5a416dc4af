-- The forms of a clause, and how each is written.
use Rattle.std.specs.Prelude.{◌≡◌, ◌≤◌, pos, List, [], ◌∷◌, Option, Some, None, codes}
use Rattle.tc_term.specs.Tree.{Tree, Atomic, Number, Compound, Last, More}
use Rattle.tc_term.specs.TreeView.{tree_of}
use Rattle.tc_model.specs.Asks.{primitive_name}
use Rattle.tc_model.specs.Lines.{line_term}
use Rattle.tc_model.specs.Reactions.{of_one, of_two}
use Rattle.tc_model.specs.declared.limits.TheConstants.{MOST_BUDGET}
use Rattle.tc_config.specs.declared.forms.Form.{Form}
use Rattle.tc_config.specs.declared.forms.Form.TheVariants.{Centre, Tuple, Spec, Role, Grant, Agent}
use Rattle.tc_config.specs.declared.forms.Form.TheVariants.{Script}
use Rattle.tc_model.specs.declared.lines.Line.{Line}

-- a list of items that ends in `[]`
abbrev pub lines_term : List Line → Tree
lines_term [] = Atomic (codes "[]")
lines_term (l ∷ ls) = of_two (codes ".") (line_term l) (lines_term ls)

-- the table of forms
abbrev pub form_term : Form → Tree
form_term (Centre c None) = of_one (codes "centre") (Atomic c)
form_term (Centre c (Some b)) = of_two (codes "centre") (Atomic c) (Number (pos b))
form_term (Tuple c t) = of_two (codes "tuple") (Atomic c) (tree_of t)
form_term (Spec c t) = of_two (codes "spec") (Atomic c) (tree_of t)
form_term (Role r) = of_one (codes "role") (Atomic r)
form_term (Grant r c p) =
    Compound (codes "grant") (More (Atomic r) (More (Atomic c) (Last (Atomic (primitive_name p)))))
form_term (Agent a r) = of_two (codes "agent") (Atomic a) (Atomic r)
form_term (Script a lines) = of_two (codes "script") (Atomic a) (lines_term lines)

-- a budget that is given is from 1 to 10,000
abbrev pub IsRight : Form → Type 0
IsRight (Centre c (Some b)) = (1 ≤ b) × (b ≤ MOST_BUDGET)
IsRight x = Unit {0}

-- the term is a clause of this form
pub record IsFormOf (x : Form) (t : Tree) : Type 0 where
  pub is : t ≡ form_term x
  pub right : IsRight x

-- the term's form, or none where it is of none
abbrev pub IsFormed : Tree → Option Form → Type 0
IsFormed t (Some x) = IsFormOf x t
IsFormed t None = (x : Form) → IsFormOf x t → ⊥
