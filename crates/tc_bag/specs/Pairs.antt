-- Pairs of numbers, in order.
use Rattle.std.specs.Prelude.{ℕ, IsTrue}
use Rattle.std.specs.BTreeSet.{contains}
use Rattle.std.specs.declared.cmp.Ordering.{Ordering}
use Rattle.std.specs.Ordering.{nat_cmp, ordering_then}
use Rattle.tc_bag.specs.declared.pairs.Pairs.{Pairs}

-- the order of pairs: by the first number, then by the second
abbrev pub pair_cmp : ℕ × ℕ → ℕ × ℕ → Ordering
pair_cmp x y = ordering_then (nat_cmp x.0 y.0) (nat_cmp x.1 y.1)

-- the pair of two numbers is there
abbrev pub HasPair : Pairs → ℕ → ℕ → Type 0
HasPair pairs first second = IsTrue (contains pair_cmp pairs.pairs (first, second))
