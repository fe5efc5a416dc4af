-- Terms with each variable replaced that has a value.
use Rattle.std.proofs.Common.{◌≡◌, ◌<◌, ◌≤◌, inl, inr, ℕ, zero, suc, List, [], ◌∷◌, Option, Some, None, length, map, get_or, refl, ap, sym, ◌∙◌, subst, arith}
use Rattle.std.specs.List.{slice_get}
use Rattle.std.proofs.lemmas.Bool.{cases_lt}
use Rattle.std.proofs.lemmas.List.{get_or_past}
use Rattle.std.proofs.lemmas.Option.{slice_get-get_or}
use Rattle.tc_lists.proofs.Parts.{cons_head, cons_tail}
use Rattle.tc_term.specs.Tree.{Tree, Variable, Last}
use Rattle.tc_term.specs.TreeView.{tree_of, trees_of}
use Rattle.tc_term.specs.Variables.{instance, instances, raised, var_bound, var_bound_of_all}
use Rattle.tc_term.specs.Equations.{Equation, HasValue, Solvable}
use Rattle.tc_term.specs.declared.terms.Term.{Term}
use Rattle.tc_term.proofs.Instances.{instance-Variable, instance-same, raised-zero}
use Rattle.tc_term.proofs.Solutions.{HasValue-unique}
use Rattle.tc_desk.specs.Asks.{AreValues, value_or_variable, with_values}

-- the value that is found stands in the list
same_value : (vars : ℕ) (es : List Equation) (values : List (Option Tree)) (n : ℕ) (t : Tree) → AreValues vars es values →
    HasValue vars es (Variable n) t → (o : Option Tree) → slice_get values n ≡ Some o → o ≡ Some t
same_value vars es values n t exact value (Some w) at = ap Some (HasValue-unique vars es (Variable n) w t (exact.some n w at) value)
same_value vars es values n t exact value None at = absurd (exact.none n at t value)

no_value : (vars : ℕ) (es : List Equation) (values : List (Option Tree)) (n : ℕ) → AreValues vars es values →
    ((t : Tree) → HasValue vars es (Variable n) t → ⊥) → (o : Option Tree) → slice_get values n ≡ Some o → o ≡ None
no_value vars es values n exact never (Some w) at = absurd (never w (exact.some n w at))
no_value vars es values n exact never None at = refl

-- a variable that has a value, and one that has none
pub replaced : (vars : ℕ) (es : List Equation) (values : List (Option Tree)) (n : ℕ) (t u : Tree) → t ≡ Variable n → var_bound t ≤ vars →
    AreValues vars es values → HasValue vars es (raised 0 t) u → u ≡ with_values values t
replaced vars es values n t u is below exact value =
    let within : n < vars = omega (arith, below, ap var_bound is) in
    sym (ap (with_values values) is
    ∙ ap (value_or_variable n) (same_value vars es values n u exact (subst (λ s. HasValue vars es s u) (raised-zero t ∙ is) value)
    (get_or values n None) (slice_get-get_or values n None (omega (arith, within, exact.whole)))))

pub kept : (vars : ℕ) (es : List Equation) (values : List (Option Tree)) (n : ℕ) (t : Tree) → t ≡ Variable n → var_bound t ≤ vars →
    AreValues vars es values → ((u : Tree) → HasValue vars es (raised 0 t) u → ⊥) → Variable n ≡ with_values values t
kept vars es values n t is below exact never =
    let within : n < vars = omega (arith, below, ap var_bound is) in
    sym (ap (with_values values) is
    ∙ ap (value_or_variable n) (no_value vars es values n exact (λ u value.
    never u (subst (λ s. HasValue vars es s u) (sym (raised-zero t ∙ is)) value))
    (get_or values n None) (slice_get-get_or values n None (omega (arith, within, exact.whole)))))

-- where nothing solves the equations, a term stays as it is
pub unreplaced : (vars : ℕ) (es : List Equation) (values : List (Option Tree)) (t : Tree) → AreValues vars es values → (Solvable vars es → ⊥) →
    t ≡ with_values values t
unreplaced vars es values t exact never =
    let none : (n : ℕ) → get_or values n None ≡ None =
    λ n.
    elim (cases_lt n (length values)) [
      | inl within ↦
          no_value vars es values n exact (λ u value. never value.solvable) (get_or values n None) (slice_get-get_or values n None within)
      | inr past ↦ get_or_past values n None past
    ] in
    sym (instance-same (λ n. value_or_variable n (get_or values n None)) Variable t (λ n below. ap (value_or_variable n) (none n)) ∙ instance-Variable t)

-- arguments that are replaced one by one
pub trees_of-replaced : (f : ℕ → Tree) (xs ys : List Term) → map tree_of ys ≡ map (λ t. instance f (tree_of t)) xs → trees_of ys ≡ instances f (trees_of xs)
trees_of-replaced f [] [] same = refl
trees_of-replaced f [] (y ∷ ys) same = absurd (cc)
trees_of-replaced f (x ∷ xs) [] same = absurd (cc)
trees_of-replaced f (x ∷ []) (y ∷ []) same = ap Last (cons_head same)
trees_of-replaced f (x ∷ []) (y ∷ z ∷ ys) same = absurd (cc)
trees_of-replaced f (x ∷ w ∷ xs) (y ∷ []) same = absurd (cc)
trees_of-replaced f (x ∷ w ∷ xs) (y ∷ z ∷ ys) same =
    let first : tree_of y ≡ instance f (tree_of x) = cons_head same in
    let rest : trees_of (z ∷ ys) ≡ instances f (trees_of (w ∷ xs)) = trees_of-replaced f (w ∷ xs) (z ∷ ys) (cons_tail same) in
    cc

-- an argument's variables are among those of the arguments
pub var_bound-argument : (ts : List Term) (k : ℕ) (d : Term) → k < length ts → var_bound (tree_of (get_or ts k d)) ≤ var_bound_of_all (trees_of ts)
var_bound-argument [] k d inside = absurd (omega (arith, inside))
var_bound-argument (t ∷ []) zero d inside = omega arith
var_bound-argument (t ∷ []) (suc k) d inside = absurd (omega (arith, inside))
var_bound-argument (t ∷ u ∷ ts) zero d inside = omega arith
var_bound-argument (t ∷ u ∷ ts) (suc k) d inside = omega (arith, var_bound-argument (u ∷ ts) k d (omega (arith, inside)))
