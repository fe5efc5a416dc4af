-- What a centre has counted.
use Rattle.std.specs.Prelude.{ℤ, List, Option, Some, None, codes, slice_get, if◌then◌else◌}
use Rattle.std.specs.List.{filter_map}
use Rattle.std.specs.Str.{bytes_eq}
use Rattle.tc_term.specs.Tree.{Tree, Number, Compound, Last}

-- the number n of a tuple count(n)
abbrev pub count_of : Tree → Option ℤ
count_of (Compound name (Last (Number n))) = if bytes_eq name (codes "count") then Some n else None
count_of _ = None

-- the number of the first tuple count(n)
abbrev pub counted_in : List Tree → Option ℤ
counted_in tuples = slice_get (filter_map count_of tuples) 0
