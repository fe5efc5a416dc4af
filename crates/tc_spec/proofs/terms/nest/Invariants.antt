use Rattle.std.proofs.Common.{◌≡◌, map, ◌++◌, ◌∷◌, []}
use Rattle.tc_term.specs.TreeView.{tree_of}
use Rattle.tc_spec.specs.Written.{nested}
use Rattle.tc_spec.proofs.terms.nest.Given as goal

-- with the terms that are left before it, the body is the whole
abbrev pub invariant-loop-term : goal.invariant-loop-term
invariant-loop-term l = nested (map tree_of l.terms.items ++ tree_of l.body ∷ []) ≡ nested (map tree_of l.fn.terms.items)

abbrev pub decreases-loop-term : goal.decreases-loop-term
decreases-loop-term l = l.terms.len
