use Rattle.std.proofs.Common.{◌≡◌, ◌++◌, drop, map}
use Rattle.tc_term.proofs.Variables.{placed}
use Rattle.tc_term.specs.TreeView.{tree_of}
use Rattle.tc_term.proofs.terms.+places.Given as goal

abbrev pub invariant-Args::with_places-loop-term : goal.invariant-Args::with_places-loop-term
invariant-Args::with_places-loop-term l =
    map (placed l.numbers) l.items ≡ map tree_of l.terms.items ++ map (placed l.numbers) (drop l.term-index l.items)
