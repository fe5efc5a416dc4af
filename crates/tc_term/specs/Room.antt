-- The room that a term takes, as it is counted.
use Rattle.std.specs.Prelude.{◌≡◌, ℕ, ◌+◌, ◌≤◌}
use Rattle.tc_term.specs.Limits.{most_nodes, most_name_bytes}
use Rattle.tc_term.specs.Tree.{Tree, nodes, depth, name_bytes}
use Rattle.tc_term.specs.declared.limits.Room.{Room}

-- the room that a term has
abbrev pub whole : Room
whole = record { nodes = most_nodes; name_bytes = most_name_bytes }

-- the term is at most this deep, and there is room for its nodes and the bytes of its names
pub record IsWithin (t : Tree) (limit : ℕ) (room : Room) : Type 0 where
  pub nodes : nodes t ≤ room.nodes
  pub depth : depth t ≤ limit
  pub name_bytes : name_bytes t ≤ room.name_bytes

-- the term is within the room, and this is left of it
pub record TakesRoom (t : Tree) (limit : ℕ) (room left : Room) : Type 0 where
  pub nodes : left.nodes + nodes t ≡ room.nodes
  pub depth : depth t ≤ limit
  pub name_bytes : left.name_bytes + name_bytes t ≡ room.name_bytes
