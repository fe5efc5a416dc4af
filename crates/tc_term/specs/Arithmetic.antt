-- Arithmetic on ground terms, within the whole numbers of 64 bits.
use Rattle.std.specs.Prelude.{ℕ, ℤ, pos, ◌^◌, ◌-◌, ◌+ℤ◌, ◌-ℤ◌, ◌*ℤ◌, neg_ℤ, int_div, int_le, int_lt}
use Rattle.std.specs.Prelude.{Bool, not, ◌&&◌, if◌then◌else◌, Option, Some, None, List, codes}
use Rattle.std.specs.Int.{int_rem_euclid}
use Rattle.std.specs.Option.{option_and_then}
use Rattle.std.specs.Ordering.{int_eq}
use Rattle.std.specs.Str.{bytes_eq}
use Rattle.tc_term.specs.Tree.{Tree, Number, Compound, Last, More}
use Rattle.tc_term.specs.declared.comparison.Cmp.{Cmp}
use Rattle.tc_term.specs.declared.comparison.Cmp.TheVariants as cmp

-- the number, where it is a whole number of 64 bits
abbrev pub in_range : ℤ → Option ℤ
in_range z =
    if int_le (neg_ℤ (pos (2 ^ 63))) z && int_le z (pos (2 ^ 63 - 1)) then Some z else None

-- the remainder that has the sign of the divisor
abbrev pub modulo : ℤ → ℤ → ℤ
modulo x y =
    if int_lt (pos 0) y then int_rem_euclid x y
    else neg_ℤ (int_rem_euclid (neg_ℤ x) (neg_ℤ y))

-- what an operator makes of two numbers: `//` truncates toward zero, and nothing comes of a zero
-- divisor
abbrev pub value_on_two : List ℕ → ℤ → ℤ → Option ℤ
value_on_two name x y =
    if bytes_eq name (codes "+") then in_range (x +ℤ y)
    else if bytes_eq name (codes "-") then in_range (x -ℤ y)
    else if bytes_eq name (codes "*") then in_range (x *ℤ y)
    else if int_eq y (pos 0) then None
    else if bytes_eq name (codes "//") then in_range (int_div x y)
    else if bytes_eq name (codes "mod") then in_range (modulo x y)
    else None

-- what an operator makes of one number
abbrev pub value_on_one : List ℕ → ℤ → Option ℤ
value_on_one name x = if bytes_eq name (codes "-") then in_range (neg_ℤ x) else None

-- the number to which a term evaluates; none where it has another part, or a part that is out of
-- range
abbrev pub evaluated : Tree → Option ℤ
evaluated (Number n) = in_range n
evaluated (Compound name (Last t)) = option_and_then (value_on_one name) (evaluated t)
evaluated (Compound name (More t (Last u))) =
    option_and_then (λ x. option_and_then (value_on_two name x) (evaluated u)) (evaluated t)
evaluated _ = None

-- whether the comparison holds
abbrev pub holds : Cmp → ℤ → ℤ → Bool
holds cmp.Eq x y = int_eq x y
holds cmp.Ne x y = not (int_eq x y)
holds cmp.Lt x y = int_lt x y
holds cmp.Gt x y = int_lt y x
holds cmp.Le x y = int_le x y
holds cmp.Ge x y = int_le y x
