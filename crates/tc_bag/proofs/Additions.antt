-- Rows that are there and weren't.
use Rattle.std.proofs.Common.{◌≡◌, ◌≤◌, ◌++◌, ◌==◌, ℕ, Bool, true, false, cond, zero, suc, List, [], ◌∷◌, Contains, ap, subst, ⊎_elim, arith}
use Rattle.std.proofs.lemmas.List.Elements.{Contains-push_cases}
use Rattle.tc_term.specs.Tree.{Tree}
use Rattle.tc_bag.specs.Stock.{AddsNone, AddsYounger, Row, Stock, row, without_age}

without-case : (same : Bool) (s : Row) (rows rest : List Row) (r : Row) → (Contains rest r → Contains rows r)
    → Contains (cond same rows (s ∷ rest)) r → Contains (s ∷ rows) r
without-case true s rows rest r deeper there = (suc there.0, omega (arith, there.1), there.2)
without-case false s rows rest r deeper (zero, inside, is) = (zero, omega arith, is)
without-case false s rows rest r deeper (suc k, inside, is) =
    let found = deeper (k, omega (arith, inside), is) in
    (suc found.0, omega (arith, found.1), found.2)

-- a row that is left was there
pub without-none : (age : ℕ) (rows : List Row) (r : Row) → Contains (without_age age rows) r → Contains rows r
without-none age [] r there = there
without-none age (s ∷ rows) r there =
    without-case (s.age == age) s rows (without_age age rows) r (without-none age rows r) there

-- a tuple that was put has the next age
pub pushed-none : (rows new : List Row) (next : ℕ) (t : Tree) → new ≡ rows ++ row next t ∷ [] → AddsNone next rows new
pushed-none rows new next t is r there older =
    ⊎_elim (λ before. before) (λ (last : row next t ≡ r). absurd (omega (arith, ap (λ (s : Row). s.age) last, older)))
    (Contains-push_cases rows (row next t) r (subst (λ rs. Contains rs r) is there))

-- one change after another
pub adds-none-again : (from next : ℕ) (old mid new : List Row) → from ≤ next → AddsNone from old mid
    → AddsNone next mid new → AddsNone from old new
adds-none-again from next old mid new rises first second r there younger =
    first r (second r there (omega (arith, rises, younger))) younger

pub adds-younger-again : (old mid new : Stock) → AddsYounger old mid → AddsYounger mid new → AddsYounger old new
adds-younger-again old mid new first second = record {
  rises = omega (arith, first.rises, second.rises);
  added = adds-none-again old.next mid.next old.now mid.now new.now first.rises first.added second.added;
}
