use Rattle.std.proofs.Common.{◌≡◌, ℕ, ◌+◌, vec_len, vec_capacity, All, sum_by}
use Rattle.tc_turn.specs.Order.{one_if_same}
use Rattle.tc_turn.specs.Passes.{PassState, EndedState, ended_count}
use Rattle.crate_tests.specs.Turns.{IsFree}
use Rattle.crate_tests.proofs.turnstile.end_all.Given as goal

abbrev pub invariant-loop-pass : goal.invariant-loop-pass
invariant-loop-pass g l = record {
  free : All (IsFree l.turnstile) l.passes.items;
  own : All (λ (e : EndedState ℕ). e.table ≡ l.turnstile.table) l.ended.items;
  numbers : (n : ℕ) → ended_count n l.ended.items + sum_by (λ (p : PassState ℕ ℕ). one_if_same p.number n) l.passes.items ≡ sum_by (λ (p : PassState ℕ ℕ). one_if_same p.number n) l.fn.passes.items;
  room : vec_len l.ended + vec_len l.passes ≡ vec_capacity l.ended;
}

abbrev pub decreases-loop-pass : goal.decreases-loop-pass
decreases-loop-pass g l = vec_len l.passes
