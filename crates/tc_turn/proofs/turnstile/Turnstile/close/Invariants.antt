use Rattle.std.proofs.Common.{◌≡◌, ◌++◌, List, map, vec_len, All}
use Rattle.tc_turn.specs.Passes.{EndedState, record_of_ended}
use Rattle.tc_turn.proofs.turnstile.Turnstile.close.Given as goal

-- the passes that are no more in the list are taken in
abbrev pub invariant-loop-one : goal.invariant-loop-one
invariant-loop-one g l = record {
  table : l.seat.table_id ≡ l.lock.table.shared.table_id;
  own : All (λ (e : EndedState g.row.C-Entry.Denot). e.table ≡ l.lock.table.shared.table_id) l.ended.items;
  popped : (done : List (EndedState g.row.C-Entry.Denot)) × (l.fn.ended.items ≡ l.ended.items ++ done) × (l.seat.me.0.ended ≡ map record_of_ended done);
}

abbrev pub decreases-loop-one : goal.decreases-loop-one
decreases-loop-one g l = vec_len l.ended
