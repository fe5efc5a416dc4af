-- List cells among terms.
use Rattle.std.proofs.Common.{◌≡◌, ◌<◌, ℕ, zero, suc, ◌-◌, true, false, nat_eq, List, [], ◌∷◌, ◌++◌, length, Some, None, refl, sym, ap, arith}
use Rattle.std.proofs.lemmas.Bool.Decides.{nat_tests}
use Rattle.tc_term.specs.Text.{Alone, Behind, is_dot}
use Rattle.tc_term.specs.TreeView.{tree_of, trees_of}
use Rattle.tc_term.specs.declared.terms.Term.{Term}
use Rattle.tc_term.specs.Tree.{Trees, Last}
use Rattle.tc_read.specs.Front.{Read, before, is_cell, node, reads, tail}
use Rattle.tc_read.specs.Seen.{prepended}
use Rattle.tc_read.specs.declared.budget.Budget.{Budget}

one_less : (d : ℕ) → d ≡ suc d - 1
one_less d = omega arith

three : (n : ℕ) → nat_eq (suc (suc (suc n))) 2 ≡ false
three n = grind (arith, nat_tests)

-- under the name of a cell two terms are one
pub is_cell-two : (name : List ℕ) (ts : List Term) → is_dot name ≡ true → 0 < length ts → nat_eq (length ts) 2 ≡ is_cell name (trees_of ts)
is_cell-two name [] dot some = absurd (omega arith)
is_cell-two name (t ∷ []) dot some = refl
is_cell-two name (t ∷ u ∷ []) dot some = sym dot
is_cell-two name (t ∷ u ∷ v ∷ []) dot some = refl
is_cell-two name (t ∷ u ∷ v ∷ w ∷ ts) dot some = three (suc (length ts))

-- arguments that were read, before what is read behind them
pub prepended-none : (ts : List Term) → prepended ts None ≡ None
prepended-none [] = refl
prepended-none (t ∷ ts) = ap (before (tree_of t)) (prepended-none ts)

pub prepended-push : (ts : List Term) (t : Term) (read : Read Trees) → prepended (ts ++ t ∷ []) read ≡ prepended ts (before (tree_of t) read)
prepended-push [] t read = refl
prepended-push (u ∷ ts) t read = ap (before (tree_of u)) (prepended-push ts t read)

pub prepended-last : (ts : List Term) (t : Term) (budget : Budget) (rest : List ℕ) →
    prepended ts (Some (Last (tree_of t), budget, rest)) ≡ Some (trees_of (ts ++ t ∷ []), budget, rest)
prepended-last [] t budget rest = refl
prepended-last (u ∷ []) t budget rest = refl
prepended-last (u ∷ v ∷ ts) t budget rest = ap (before (tree_of u)) (prepended-last (v ∷ ts) t budget rest)

-- a term of some depth is read from one level deeper
pub reads-alone : (d : ℕ) (budget : Budget) (bytes : List ℕ) → 0 < d → reads d Alone budget bytes ≡ node (reads (d - 1)) budget bytes
reads-alone zero budget bytes some = absurd (omega (arith, some))
reads-alone (suc d) budget bytes some = ap (λ k. node (reads k) budget bytes) (one_less d)

pub reads-behind : (d : ℕ) (budget : Budget) (bytes : List ℕ) → 0 < d → reads d Behind budget bytes ≡ tail (reads (d - 1)) budget bytes
reads-behind zero budget bytes some = absurd (omega (arith, some))
reads-behind (suc d) budget bytes some = ap (λ k. tail (reads k) budget bytes) (one_less d)
