-- A term put together argument by argument is the compound.
use Rattle.std.proofs.Common.{◌≡◌, ℕ, zero, suc, ◌+◌, ◌<◌, ◌≤◌, List, [], ◌∷◌, length, get_or, drop, drop-cons, refl, ap, ◌∙◌, sym, arith, All}
use Rattle.std.proofs.lemmas.List.Elements.{All-head, All-tail}
use Rattle.tc_term.specs.declared.terms.Term.{Term}
use Rattle.tc_term.specs.Tree.{Tree, Variable, Atomic, Compound, Trees, Last, More, depth, depth_of_all}
use Rattle.tc_term.specs.TreeView.{tree_of, trees_of}
use Rattle.tc_term.specs.Variables.{raised, instance, instances, var_bound, var_bound_of_all}
use Rattle.tc_term.specs.Equations.{at, under}
use Rattle.tc_term.proofs.Instances.{instance-instance, instance-Variable, instances-Variable}
use Rattle.std.proofs.Math.Path.{fun_ext}
use Rattle.tc_unify.specs.Nodes.{and_last, applied, applied_over}
use Rattle.tc_unify.specs.Values.{of_term}
use Rattle.tc_unify.specs.Copies.{applied_to}

-- these arguments, and then more
abbrev joined : (ℕ → Tree) → Trees → List Term → Trees
joined f us [] = us
joined f us (t ∷ ts) = joined f (and_last us (instance f (tree_of t))) ts

applied_over-joined : (f : ℕ → Tree) (name : List ℕ) (us : Trees) (ts : List Term) → applied_over (λ t. instance f (tree_of t)) (Compound name us) ts ≡ Compound name (joined f us ts)
applied_over-joined f name us [] = refl
applied_over-joined f name us (t ∷ ts) = applied_over-joined f name (and_last us (instance f (tree_of t))) ts

joined-more : (f : ℕ → Tree) (v : Tree) (us : Trees) (ts : List Term) → joined f (More v us) ts ≡ More v (joined f us ts)
joined-more f v us [] = refl
joined-more f v us (t ∷ ts) = joined-more f v (and_last us (instance f (tree_of t))) ts

joined-last : (f : ℕ → Tree) (t : Term) (ts : List Term) → joined f (Last (instance f (tree_of t))) ts ≡ instances f (trees_of (t ∷ ts))
joined-last f t [] = refl
joined-last f t (u ∷ ts) = joined-more f (instance f (tree_of t)) (Last (instance f (tree_of u))) ts ∙ ap (More (instance f (tree_of t))) (joined-last f u ts)

-- the compound of these arguments, with trees in place of the variables
pub applied_over-instances : (f : ℕ → Tree) (name : List ℕ) (ts : List Term) → 0 < length ts → applied_over (λ t. instance f (tree_of t)) (Atomic name) ts ≡ Compound name (instances f (trees_of ts))
applied_over-instances f name [] h = absurd (omega arith)
applied_over-instances f name (t ∷ ts) h =
    applied_over-joined f name (Last (instance f (tree_of t))) ts ∙ ap (Compound name) (joined-last f t ts)

-- the compound of these arguments
pub applied_over-compound : (name : List ℕ) (ts : List Term) → 0 < length ts → applied_over tree_of (Atomic name) ts ≡ Compound name (trees_of ts)
applied_over-compound name ts h =
    ap (λ f. applied_over f (Atomic name) ts) (sym (fun_ext (λ t. instance-Variable (tree_of t))))
    ∙ applied_over-instances Variable name ts h ∙ ap (Compound name) (instances-Variable (trees_of ts))

-- what a valuation makes of a compound, from what it makes of the arguments
pub applied_over-of_term : (shift : ℕ) (v : List Tree) (t : Tree) (name : List ℕ) (args : Trees) (ts : List Term) → t ≡ Compound name args → trees_of ts ≡ args → 0 < length ts
    → under v (raised shift t) ≡ applied_over (λ x. of_term shift x v) (Atomic name) ts
applied_over-of_term shift v t name args ts compound seen some =
    let f : ℕ → Tree = λ n. at v (n + shift) in
    ap (λ u. under v (raised shift u)) compound
    ∙ instance-instance (at v) (λ n. Variable (n + shift)) (Compound name args)
    ∙ ap (λ us. Compound name (instances f us)) (sym seen)
    ∙ sym (applied_over-instances f name ts some)
    ∙ ap (λ g. applied_over g (Atomic name) ts) (sym (fun_ext (λ x. instance-instance (at v) (λ n. Variable (n + shift)) (tree_of x))))

pub applied_to-compound : (shift : ℕ) (name : List ℕ) (ts : List Term) → 0 < length ts → applied_to shift (Atomic name) ts ≡ Compound name (instances (λ n. Variable (n + shift)) (trees_of ts))
applied_to-compound shift name ts h = applied_over-instances (λ n. Variable (n + shift)) name ts h

-- the variables of an argument are among those of all
pub variables-argument : (shift : ℕ) (ts : List Term) (i : ℕ) (d : Term) → i < length ts → var_bound (raised shift (tree_of (get_or ts i d))) ≤ var_bound_of_all (instances (λ n. Variable (n + shift)) (trees_of ts))
variables-argument shift [] i d h = absurd (omega arith)
variables-argument shift (t ∷ []) zero d h = omega arith
variables-argument shift (t ∷ []) (suc i) d h = absurd (omega arith)
variables-argument shift (t ∷ u ∷ ts) zero d h = omega arith
variables-argument shift (t ∷ u ∷ ts) (suc i) d h = omega (arith, variables-argument shift (u ∷ ts) i d (omega arith))

-- where the variables of each argument are below a number, so are those of all
pub variables-arguments : (shift : ℕ) (ts : List Term) (count : ℕ) → All (λ t. var_bound (raised shift (tree_of t)) ≤ count) ts → var_bound_of_all (instances (λ n. Variable (n + shift)) (trees_of ts)) ≤ count
variables-arguments shift [] count each = omega arith
variables-arguments shift (t ∷ []) count each = All-head (λ x. var_bound (raised shift (tree_of x)) ≤ count) t [] each
variables-arguments shift (t ∷ u ∷ ts) count each =
    let P : Term → Type 0 = λ x. var_bound (raised shift (tree_of x)) ≤ count in
    let first : var_bound (raised shift (tree_of t)) ≤ count = All-head P t (u ∷ ts) each in
    let rest = variables-arguments shift (u ∷ ts) count (All-tail P t (u ∷ ts) each) in
    omega arith

-- what a copy of each argument asks for
pub args_fit : (shift : ℕ) (term : Term) (name : List ℕ) (args : Trees) (items : List Term) (count : ℕ) → tree_of term ≡ Compound name args → trees_of items ≡ args
    → All (λ t. depth (tree_of t) ≤ depth_of_all args) items
    → var_bound (raised shift (tree_of term)) ≤ count
    → (i : ℕ) (x : Term) → i < length items → x ≡ get_or items i x
    → (depth (tree_of x) < depth (tree_of term)) × (var_bound (raised shift (tree_of x)) ≤ count)
args_fit shift term name args items count is trees depths below i x h e =
    let at : tree_of x ≡ tree_of (get_or items i x) = ap tree_of e in
    let deep = depths i x h in
    let whole : depth (tree_of term) ≡ 1 + depth_of_all args = ap depth is in
    let all : var_bound (raised shift (tree_of term)) ≡ var_bound_of_all (instances (λ n. Variable (n + shift)) (trees_of items)) =
    ap (λ t. var_bound (raised shift t)) is ∙ ap (λ ts. var_bound_of_all (instances (λ n. Variable (n + shift)) ts)) (sym trees) in
    let less = variables-argument shift items i x h in
    let same : depth (tree_of x) ≡ depth (tree_of (get_or items i x)) = ap depth at in
    let same_variables : var_bound (raised shift (tree_of x)) ≡ var_bound (raised shift (tree_of (get_or items i x))) = ap (λ t. var_bound (raised shift t)) at in
    (omega arith, omega arith)

-- one argument more
pub next_applied : (shift : ℕ) (t : Tree) (items : List Term) (i : ℕ) (x : Term) → i < length items → x ≡ get_or items i x → applied_to shift (applied t (raised shift (tree_of x))) (drop (i + 1) items) ≡ applied_to shift t (drop i items)
next_applied shift t items i x h e =
    let one : i + 1 ≡ suc i = omega arith in
    ap (λ j. applied_to shift (applied t (raised shift (tree_of x))) (drop j items)) one
    ∙ ap (λ y. applied_to shift (applied t (raised shift (tree_of y))) (drop (suc i) items)) e
    ∙ ap (applied_to shift t) (sym (drop-cons items i x h))
