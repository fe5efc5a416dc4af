-- The bytes that names from the reader may hold.
use Rattle.std.specs.Prelude.{Bool, true, ◌&&◌}
use Rattle.std.specs.List.{list_all}
use Rattle.tc_term.specs.Bytes.{is_name_byte}
use Rattle.tc_term.specs.Tree.{Tree, Variable, Atomic, Number, Compound, Trees, Last, More}

-- whether each name in the term holds such bytes alone
abbrev mutual
  pub has_read_names : Tree → Bool
  has_read_names (Variable n) = true
  has_read_names (Atomic name) = list_all is_name_byte name
  has_read_names (Number n) = true
  has_read_names (Compound name args) = list_all is_name_byte name && have_read_names args

  pub have_read_names : Trees → Bool
  have_read_names (Last t) = has_read_names t
  have_read_names (More t ts) = has_read_names t && have_read_names ts
