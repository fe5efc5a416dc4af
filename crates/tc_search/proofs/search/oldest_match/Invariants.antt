use Rattle.std.proofs.Common.{◌≡◌, ◌-◌, ◌+◌, ◌*◌, ◌≤◌}
use Rattle.tc_term.specs.Equations.{Matches}
use Rattle.tc_term.specs.TreeView.{tree_of}
use Rattle.tc_bag.specs.Looks.{like_between}
use Rattle.tc_search.specs.Found.{MatchesHaveFirst}
use Rattle.tc_search.proofs.Passing.{IsPassed}
use Rattle.tc_search.proofs.search.oldest_match.Given as goal

-- the store is as before, no row so far matches, and those that match have the value; those of the
-- key were looked at and tried
abbrev pub invariant-loop-age : goal.invariant-loop-age
invariant-loop-age g l = record {
  same : l.store ≡ l.initial.store;
  passed : IsPassed (Matches l.initial.store.vars l.initial.store.pairs (tree_of l.template)) l.from l.bag.now;
  value : MatchesHaveFirst l.initial.store.vars l.initial.store.pairs (tree_of l.template) l.value;
  tried : l.steps ≤ l.initial.steps + 2 * like_between l.key 0 l.from l.bag.now;
  rises : l.initial.steps ≤ l.steps;
}

abbrev pub decreases-loop-age : goal.decreases-loop-age
decreases-loop-age g l = l.bag.next - l.from
