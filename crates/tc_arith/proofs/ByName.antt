-- What each operator makes of two numbers, from the tests of its name.
use Rattle.std.proofs.Common.{◌≡◌, ℕ, ℤ, pos, true, false, List, refl}
use Rattle.std.specs.Prelude.{int_div, codes}
use Rattle.std.specs.Ordering.{int_eq}
use Rattle.std.specs.Str.{bytes_eq}
use Rattle.tc_term.specs.Arithmetic.{value_on_two, in_range, modulo}

pub value_on_two-quotient : (name : List ℕ) (x y : ℤ) → bytes_eq name (codes "+") ≡ false → bytes_eq name (codes "-") ≡ false
    → bytes_eq name (codes "*") ≡ false → int_eq y (pos 0) ≡ false → bytes_eq name (codes "//") ≡ true
    → value_on_two name x y ≡ in_range (int_div x y)
value_on_two-quotient name x y plus minus times some over = simp (plus, minus, times, some, over) refl

pub value_on_two-remainder : (name : List ℕ) (x y : ℤ) → bytes_eq name (codes "+") ≡ false → bytes_eq name (codes "-") ≡ false
    → bytes_eq name (codes "*") ≡ false → int_eq y (pos 0) ≡ false → bytes_eq name (codes "//") ≡ false
    → bytes_eq name (codes "mod") ≡ true → value_on_two name x y ≡ in_range (modulo x y)
value_on_two-remainder name x y plus minus times some over remainder = simp (plus, minus, times, some, over, remainder) refl
