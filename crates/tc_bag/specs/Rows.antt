-- Tuples in rows.
use Rattle.std.specs.Prelude.{ℕ, ◌≡◌, ◌≢◌, List, Option, None, slice_index_or}
use Rattle.tc_term.specs.Tree.{Tree}

-- the tuple at a row
abbrev pub tuple_in : ℕ → List (Option Tree) → Option Tree
tuple_in row rows = slice_index_or rows row None

-- the row now has this, and every other has what it had
pub record Updates (row : ℕ) (tuple : Option Tree) (old new : List (Option Tree)) : Type 0 where
  pub changed : tuple_in row new ≡ tuple
  pub others : (other : ℕ) → other ≢ row → tuple_in other new ≡ tuple_in other old

-- the row of a gap, at which no tuple is
abbrev pub no_row : ℕ
no_row = 4294967295
