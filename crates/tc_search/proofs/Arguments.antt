-- The arguments of a compound: smaller, with no further variables, and ground where it is.
use Rattle.std.proofs.Common.{◌≡◌, ◌<◌, ◌≤◌, ℕ, zero, suc, IsTrue, List, [], ◌∷◌, length, get_or, All, ap, sym, subst, arith}
use Rattle.std.proofs.lemmas.Bool.{and_parts}
use Rattle.tc_term.specs.declared.terms.Term.{Term}
use Rattle.tc_term.specs.Tree.{Compound, Trees, depth, depth_of_all, is_ground, are_ground}
use Rattle.tc_term.specs.TreeView.{tree_of, trees_of}
use Rattle.tc_term.specs.Variables.{raised, var_bound}
use Rattle.tc_term.proofs.Instances.{raised-zero}
use Rattle.tc_unify.proofs.Copied.{args_fit}

pub argument_fits : (term : Term) (name : List ℕ) (args : Trees) (items : List Term) (count : ℕ) → tree_of term ≡ Compound name args → trees_of items ≡ args
    → All (λ t. depth (tree_of t) ≤ depth_of_all args) items
    → var_bound (tree_of term) ≤ count
    → (i : ℕ) (x : Term) → i < length items → x ≡ get_or items i x
    → (depth (tree_of x) < depth (tree_of term)) × (var_bound (tree_of x) ≤ count)
argument_fits term name args items count is trees depths below i x inside e =
    let whole : var_bound (raised 0 (tree_of term)) ≤ count = omega (arith, below, ap var_bound (raised-zero (tree_of term))) in
    let fit = args_fit 0 term name args items count is trees depths whole i x inside e in
    (fit.0, omega (arith, fit.1, ap var_bound (raised-zero (tree_of x))))

ground_at : (items : List Term) → IsTrue (are_ground (trees_of items)) → (i : ℕ) (d : Term) → i < length items → IsTrue (is_ground (tree_of (get_or items i d)))
ground_at [] ground i d inside = absurd (omega arith)
ground_at (t ∷ []) ground zero d inside = ground
ground_at (t ∷ []) ground (suc i) d inside = absurd (omega arith)
ground_at (t ∷ u ∷ ts) ground zero d inside = (and_parts (is_ground (tree_of t)) (are_ground (trees_of (u ∷ ts))) ground).0
ground_at (t ∷ u ∷ ts) ground (suc i) d inside =
    let rest = (and_parts (is_ground (tree_of t)) (are_ground (trees_of (u ∷ ts))) ground).1 in
    ground_at (u ∷ ts) rest i d (omega arith)

pub argument_ground : (term : Term) (name : List ℕ) (args : Trees) (items : List Term) → tree_of term ≡ Compound name args → trees_of items ≡ args
    → IsTrue (is_ground (tree_of term))
    → (i : ℕ) (x : Term) → i < length items → x ≡ get_or items i x → IsTrue (is_ground (tree_of x))
argument_ground term name args items is trees ground i x inside e =
    let all : IsTrue (are_ground (trees_of items)) = subst (λ ts. IsTrue (are_ground ts)) (sym trees) (subst (λ t. IsTrue (is_ground t)) is ground) in
    subst (λ y. IsTrue (is_ground (tree_of y))) (sym e) (ground_at items all i x inside)
