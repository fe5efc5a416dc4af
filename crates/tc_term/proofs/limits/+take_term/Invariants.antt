use Rattle.std.proofs.Common.{◌≡◌, ◌+◌, ◌-◌, max, drop}
use Rattle.tc_term.proofs.Sizes.{nodes_in, depth_in, name_bytes_in, IntegersIn}
use Rattle.tc_term.proofs.limits.+take_term.Given as goal

abbrev pub invariant-loop-arg : goal.invariant-loop-arg
invariant-loop-arg l = record {
  nodes : l.room.nodes + nodes_in l.arg-items ≡ l.initial.room.nodes + nodes_in (drop l.arg-index l.arg-items);
  depth : max (l.depth - 1) (depth_in l.arg-items) ≡ max (l.depth - 1) (depth_in (drop l.arg-index l.arg-items));
  name_bytes : l.room.name_bytes + name_bytes_in l.arg-items ≡ l.initial.room.name_bytes + name_bytes_in (drop l.arg-index l.arg-items);
  integers : IntegersIn (drop l.arg-index l.arg-items) → IntegersIn l.arg-items;
}
