use Rattle.std.proofs.Common.{◌≡◌, ℕ, List, [], All, length}
use Rattle.tc_calls.specs.Places.{lists_of}
use Rattle.tc_calls.proofs.places.no_places.Given as goal

-- there are as many lists as were counted, each without a call
abbrev pub invariant-loop : goal.invariant-loop
invariant-loop l = record {
  many : length l.places.items ≡ l.counter;
  empty : All (λ (calls : List (ℕ × ℕ)). calls ≡ []) (lists_of l.places.items);
}
