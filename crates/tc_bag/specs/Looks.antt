-- How many rows a search may look at.
use Rattle.std.specs.Prelude.{ℕ, ◌==◌, ◌&&◌, not, nat_lt, Bool, true, false, List, length, filter}
use Rattle.std.specs.Str.{bytes_eq}
use Rattle.tc_term.specs.Tree.{Tree, Atomic, Number, Compound}
use Rattle.tc_bag.specs.declared.key.Key.{Key}
use Rattle.tc_bag.specs.declared.key.Key.TheVariants.{Any, Int, Atom, Comp}
use Rattle.tc_bag.specs.Keys.{arity}
use Rattle.tc_bag.specs.Stock.{Row}

-- whether the tuple agrees with the key
abbrev pub is_of_key : Key → Tree → Bool
is_of_key Any t = true
is_of_key Int (Number n) = true
is_of_key (Atom name) (Atomic other) = bytes_eq name other
is_of_key (Comp name count) (Compound other args) = bytes_eq name other && (count == arity args)
is_of_key key t = false

-- whether the row's age is at least this number, and its tuple agrees with the key
abbrev pub is_like_from : Key → ℕ → Row → Bool
is_like_from key from r = not (nat_lt r.age from) && is_of_key key r.tuple

-- the same, and the age is below another
abbrev pub is_like_between : Key → ℕ → ℕ → Row → Bool
is_like_between key from to r = nat_lt r.age to && is_like_from key from r

-- how many rows of at least this age have a tuple that agrees with the key
abbrev pub like_from : Key → ℕ → List Row → ℕ
like_from key from rows = length (filter (is_like_from key from) rows)

-- how many of them are below another age
abbrev pub like_between : Key → ℕ → ℕ → List Row → ℕ
like_between key from to rows = length (filter (is_like_between key from to) rows)
