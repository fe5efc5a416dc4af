use Rattle.std.proofs.Common.{◌-◌, ◌+◌, ◌≤◌, []}
use Rattle.tc_term.specs.Equations.{Matches}
use Rattle.tc_term.specs.TreeView.{tree_of}
use Rattle.tc_term.specs.Variables.{var_bound}
use Rattle.tc_bag.specs.Keys.{key_of}
use Rattle.tc_bag.specs.Looks.{like_between}
use Rattle.tc_search.proofs.Passing.{IsPassed}
use Rattle.tc_search.proofs.search.oldest_match_of.Given as goal

-- no row so far matches, and those of the key were looked at
abbrev pub invariant-loop-age : goal.invariant-loop-age
invariant-loop-age g l = record {
  passed : IsPassed (Matches (var_bound l.template) [] l.template) l.start l.bag.now;
  looked : l.steps ≤ l.initial.steps + like_between (key_of (tree_of l.term)) 0 l.start l.bag.now;
  rises : l.initial.steps ≤ l.steps;
}

abbrev pub decreases-loop-age : goal.decreases-loop-age
decreases-loop-age g l = l.bag.next - l.start
