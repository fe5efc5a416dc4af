use Rattle.std.proofs.Common.{◌≡◌, ◌≤◌, ◌+◌, [], length, take}
use Rattle.tc_term.specs.Equations.{Solvable}
use Rattle.tc_bag.specs.Stock.{AddsYounger, tuples_of}
use Rattle.tc_goals.specs.Moments.{moment, scene}
use Rattle.tc_replay.specs.Following.{LeadsThere}
use Rattle.tc_replay.proofs.leading.lead.Given as goal

-- the goals before this one lead here alone, with the first effects
abbrev pub invariant-loop-goal : goal.invariant-loop-goal
invariant-loop-goal g l = record {
  there : LeadsThere (scene l.vars l.e l.context) (take l.goal-index l.goals)
      (moment l.initial.store (tuples_of l.initial.bag.now) []) (moment l.store (tuples_of l.bag.now) (take l.done l.recorded)) l.recorded;
  within : l.done ≤ length l.recorded;
  width : l.store.vars ≡ l.initial.store.vars;
  solvable : Solvable l.store.vars l.store.pairs;
  saved : l.bag.saved ≡ l.initial.bag.saved;
  next : l.bag.next ≤ l.initial.bag.next + l.goal-index;
  adds : AddsYounger l.initial.bag l.bag;
}
