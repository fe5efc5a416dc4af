-- What a template matches has its key.
use Rattle.std.proofs.Common.{◌≡◌, ◌<◌, ◌≤◌, ◌+◌, ℕ, inl, inr, cond, Option, Some, None, Bool, IsTrue, List, [], ◌∷◌, length, get_or, refl, ap, sym, subst, ◌∙◌, length-append, arith}
use Rattle.std.proofs.Math.Seq.{get_or-append_seam}
use Rattle.tc_term.proofs.Instances.{instance-ground}
use Rattle.tc_term.specs.Equations.{Equation, at, under, Matches}
use Rattle.tc_term.specs.Tree.{Tree, Variable, Atomic, Number, Compound, Trees, Last, More, is_ground, nodes, nodes_of_all, IsTuple}
use Rattle.tc_term.specs.Same.{same_tree, same_tree-Decides}
use Rattle.tc_term.specs.TreeView.{tree_of, trees_of}
use Rattle.tc_term.specs.declared.terms.Term.{Term}
use Rattle.tc_term.specs.Variables.{instance, instances}
use Rattle.std.proofs.lemmas.Bool.{cases_Bool}
use Rattle.tc_bag.specs.declared.key.Key.{Key}
use Rattle.tc_bag.specs.declared.key.Key.TheVariants.{Comp}
use Rattle.tc_bag.specs.Keys.{arity, key_of, first_of, first_argument, known_first, IsOfKey, HasFirst}

pub arity-instances : (f : ℕ → Tree) (ts : Trees) → arity (instances f ts) ≡ arity ts
arity-instances f (Last t) = refl
arity-instances f (More t ts) = ap (λ n. 1 + n) (arity-instances f ts)

-- a term agrees with what it becomes once its variables are replaced
pub Agrees-instance : (f : ℕ → Tree) (t : Tree) → IsOfKey (key_of t) (instance f t)
Agrees-instance f (Variable n) = inl refl
Agrees-instance f (Atomic name) = inr refl
Agrees-instance f (Number n) = inr refl
Agrees-instance f (Compound name args) = inr (ap (Comp name) (sym (arity-instances f args)))

pub Agrees-match : (n : ℕ) (es : List Equation) (t u : Tree) → Matches n es t u → IsTuple u → IsOfKey (key_of t) u
Agrees-match n es t u match tuple =
    let v = match.valuation in
    let last : under v t ≡ under v u =
    subst (λ e. under v e.0 ≡ under v e.1) (get_or-append_seam es (t, u) [] (t, u))
    (match.solves.equal (length es) (t, u) (omega (arith, length-append es ((t, u) ∷ [])))) in
    subst (IsOfKey (key_of t)) (last ∙ instance-ground (at v) u tuple.ground) (Agrees-instance (at v) t)

-- a compound agrees with a key of its name and number of arguments alone
pub Agrees-compound : (key : Key) (tuple : Tree) (name other : List ℕ) (count : ℕ) (args : Trees)
    → key ≡ Comp name count → tuple ≡ Compound other args → IsOfKey key tuple → (name ≡ other) × (count ≡ arity args)
Agrees-compound key tuple name other count args keyed compound (inl any) = absurd (cc)
Agrees-compound key tuple name other count args keyed compound (inr own) =
    let same : Comp name count ≡ Comp other (arity args) = sym keyed ∙ own ∙ ap key_of compound in
    (cc, cc)

pub compound-Agrees : (key : Key) (tuple : Tree) (name other : List ℕ) (count : ℕ) (args : Trees)
    → key ≡ Comp name count → tuple ≡ Compound other args → name ≡ other → count ≡ arity args → IsOfKey key tuple
compound-Agrees key tuple name other count args keyed compound same as_many =
    inr (keyed ∙ ap (λ n. Comp n count) same ∙ ap (Comp other) as_many ∙ sym (ap key_of compound))

-- the number of arguments
pub arity-trees_of : (ts : List Term) → 0 < length ts → arity (trees_of ts) ≡ length ts
arity-trees_of [] some = absurd (omega arith)
arity-trees_of (t ∷ []) some = refl
arity-trees_of (t ∷ u ∷ ts) some = omega (arith, arity-trees_of (u ∷ ts) (omega arith))

pub one_le-nodes : (t : Tree) → 1 ≤ nodes t
one_le-nodes (Variable n) = omega arith
one_le-nodes (Atomic name) = omega arith
one_le-nodes (Number n) = omega arith
one_le-nodes (Compound name args) = omega arith

pub arity_le-nodes : (ts : Trees) → arity ts ≤ nodes_of_all ts
arity_le-nodes (Last t) = one_le-nodes t
arity_le-nodes (More t ts) = omega (arith, one_le-nodes t, arity_le-nodes ts)

-- the first argument of a term once its variables are replaced
pub first_of-instances : (f : ℕ → Tree) (ts : Trees) → first_of (instances f ts) ≡ instance f (first_of ts)
first_of-instances f (Last t) = refl
first_of-instances f (More t ts) = refl

-- a term has its ground first argument still once its variables are replaced
pub HasFirst-instance : (f : ℕ → Tree) (t : Tree) → HasFirst (known_first t) (instance f t)
HasFirst-instance f (Variable n) = tt
HasFirst-instance f (Atomic name) = tt
HasFirst-instance f (Number n) = tt
HasFirst-instance f (Compound name args) =
    elim (cases_Bool (is_ground (first_of args))) [
      | inl ground ↦
          subst (λ b. HasFirst (cond b (Some (first_of args)) None) (Compound name (instances f args))) (sym ground)
          (ap Some (first_of-instances f args ∙ instance-ground f (first_of args) ground))
      | inr open_term ↦
          subst (λ b. HasFirst (cond b (Some (first_of args)) None) (Compound name (instances f args))) (sym open_term) tt
    ]

pub HasFirst-match : (n : ℕ) (es : List Equation) (t u : Tree) → Matches n es t u → IsTuple u → HasFirst (known_first t) u
HasFirst-match n es t u match tuple =
    let v = match.valuation in
    let last : under v t ≡ under v u =
    subst (λ e. under v e.0 ≡ under v e.1) (get_or-append_seam es (t, u) [] (t, u))
    (match.solves.equal (length es) (t, u) (omega (arith, length-append es ((t, u) ∷ [])))) in
    subst (HasFirst (known_first t)) (last ∙ instance-ground (at v) u tuple.ground) (HasFirst-instance (at v) t)

-- the first of some terms
pub first_of-trees_of : (t : Term) (ts : List Term) → first_of (trees_of (t ∷ ts)) ≡ tree_of t
first_of-trees_of t [] = refl
first_of-trees_of t (u ∷ us) = refl

pub first_of-read : (ts : List Term) (d : Term) → 0 < length ts → first_of (trees_of ts) ≡ tree_of (get_or ts 0 d)
first_of-read [] d some = absurd (omega (arith, some))
first_of-read (t ∷ ts) d some = first_of-trees_of t ts

-- equality of the argument that was read tells whether it is the one given
pub HasFirst-read : (t item first : Tree) (given : Option Tree) (b : Bool) → first_argument t ≡ Some item
    → b ≡ same_tree item first → given ≡ Some first → (IsTrue b → HasFirst given t) × (HasFirst given t → IsTrue b)
HasFirst-read t item first given b read is some =
    let same = same_tree-Decides item first in (
      λ equal. subst (λ o. HasFirst o t) (sym some) (read ∙ ap Some (same.0 (sym is ∙ equal))),
      λ has.
          let found : Some item ≡ Some first = sym read ∙ subst (λ o. HasFirst o t) some has in
          is ∙ same.1 (cc),
    )
