-- What two terms have in common at their tops, by which most that can't be made equal are told.
use Rattle.std.specs.Prelude.{ℕ, ◌&&◌, Bool, true, false, List, length, filter}
use Rattle.std.specs.Str.{bytes_eq}
use Rattle.tc_term.specs.Tree.{Tree, Variable, Atomic, Number, Compound, Trees, Last, More}

-- whether there are as many arguments
abbrev pub as_many : Trees → Trees → Bool
as_many (Last t) (Last u) = true
as_many (Last t) (More u us) = false
as_many (More t ts) (Last u) = false
as_many (More t ts) (More u us) = as_many ts us

-- whether two terms agree at their tops: one is a variable, both are numbers, or both have the same
-- name and as many arguments
abbrev pub agree : Tree → Tree → Bool
agree (Variable m) u = true
agree t (Variable n) = true
agree (Number m) (Number n) = true
agree (Atomic m) (Atomic n) = bytes_eq m n
agree (Compound m ts) (Compound n us) = bytes_eq m n && as_many ts us
agree t u = false

-- how many of the terms agree with one at the top
abbrev pub agreeing : Tree → List Tree → ℕ
agreeing t us = length (filter (agree t) us)
