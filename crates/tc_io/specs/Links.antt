-- Connections, as they are opened.
use Rattle.std.specs.Prelude.{ℕ, Bool, ◌&&◌, List, [], ◌∷◌, ◌++◌}
use Rattle.std.specs.Option.{option_map}
use Rattle.std.specs.declared.option.Option.{Option}

-- a connection as it was opened: its bytes, where they are told, and whether it is sure both ways
pub record Connection : Type 0 where
  pub left : Option (List ℕ)
  pub sure : Bool

-- the connection that the object c is: what is left of it, and whether it is sure as a source and
-- as a sink
abbrev pub connection_of : {C : Type 0} → (C → Option (List ℕ)) → (C → Bool) → (C → Bool) → C
    → Connection
connection_of left read_sure write_sure c =
    record { left = left c; sure = read_sure c && write_sure c }

-- what was opened, and then this connection
abbrev pub opened_more : Option (List Connection) → Connection → Option (List Connection)
opened_more opened one = option_map (λ before. before ++ one ∷ []) opened
