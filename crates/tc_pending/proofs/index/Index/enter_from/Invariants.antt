use Rattle.std.proofs.Common.{ℕ, ◌<◌, ◌≤◌, get_or}
use Rattle.tc_pending.specs.Filed.{Has}
use Rattle.tc_pending.proofs.index.Index.enter_from.Given as goal

abbrev pub invariant-loop-place : goal.invariant-loop-place
invariant-loop-place l = record {
  kept : (c s : ℕ) → Has l.initial.self c s → Has l.self c s;
  entered : (k : ℕ) → l.start ≤ k → k < l.place → Has l.self (get_or l.codes k 0) (get_or l.serials k 0);
}
