use Rattle.std.proofs.Common.{◌≡◌, ◌+◌, ◌*◌, List, Option, length, map, take}
use Rattle.tc_term.specs.Tree.{Tree, depth, depth_of_all}
use Rattle.tc_term.specs.TreeView.{tree_of}
use Rattle.tc_desk.specs.Asks.{AreValues, with_values}
use Rattle.tc_asks.proofs.filling.+filled.Given as goal

abbrev pub decreases-filled : goal.decreases-filled
decreases-filled l = 2 * depth (tree_of l.t.now)

abbrev pub decreases-filled_args : goal.decreases-filled_args
decreases-filled_args l = 2 * depth_of_all l.args.now + 1

-- the arguments so far are replaced
abbrev pub invariant-filled_args-loop-arg : goal.invariant-filled_args-loop-arg
invariant-filled_args-loop-arg l = record {
  many : length l.terms.items ≡ l.arg-index;
  replaced : (values : List (Option Tree)) → AreValues l.store.vars l.store.pairs values
      → map tree_of l.terms.items ≡ map (λ t. with_values values (tree_of t)) (take l.arg-index l.arg-items);
}
