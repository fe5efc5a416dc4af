use Rattle.std.proofs.Common.{◌≡◌, vec_len, vec_capacity}
use Rattle.tc_turn.specs.Passes.{IsMaker, new_passes}
use Rattle.tc_turn.proofs.turnstile.Turnstile.new.Given as goal

-- the passes below the number are made, and the maker has the turns of the others
abbrev pub invariant-loop-number : goal.invariant-loop-number
invariant-loop-number g l = record {
  table : l.maker.table_id ≡ l.lock.table.shared.table_id;
  maker : IsMaker l.maker.me.0 (g.C.Chronicle.origin l.fn.value) l.passes l.number l.turns;
  made : l.all.items ≡ new_passes l.lock.table.shared.table_id (g.C.Chronicle.origin l.fn.value) l.turns 0 l.number;
  long : vec_len l.all ≡ l.number;
  room : vec_capacity l.all ≡ l.passes;
  passes : l.lock.table.shared.key.passes ≡ l.passes;
  origin : g.C.Chronicle.origin l.lock.table.shared.key.first.value ≡ g.C.Chronicle.origin l.fn.value;
}
