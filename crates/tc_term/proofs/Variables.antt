-- Variables of lists of terms, and terms with other trees in their places.
use Rattle.std.proofs.Common.{◌≡◌, ◌<◌, ◌≤◌, ◌==◌, if◌then◌else◌, ℕ, true, false, List, [], ◌∷◌, ◌++◌, length, map, refl, ap, sym, ◌∙◌, length-append, arith}
use Rattle.tc_term.specs.declared.terms.Term.{Term}
use Rattle.tc_term.specs.Tree.{Tree, Variable, Atomic, Number, Compound, Trees, Last, More}
use Rattle.tc_term.specs.TreeView.{tree_of, trees_of}
use Rattle.tc_term.specs.Variables.{instance, instances, renamed, place_in, with_number, variables_after, variables_after_all}

-- the tree of a term with each variable given its place among these numbers
abbrev pub placed : List ℕ → Term → Tree
placed numbers t = renamed (place_in numbers) (tree_of t)

-- arguments that are replaced one by one
pub trees_of-instances : (f : ℕ → Tree) (xs ys : List Term) →
    map tree_of ys ≡ map (λ t. instance f (tree_of t)) xs → trees_of ys ≡ instances f (trees_of xs)
trees_of-instances f [] [] alike = refl
trees_of-instances f [] (y ∷ ys) alike = absurd (cc)
trees_of-instances f (x ∷ xs) [] alike = absurd (cc)
trees_of-instances f (x ∷ []) (y ∷ []) alike = cc
trees_of-instances f (x ∷ []) (y ∷ z ∷ ys) alike = absurd (cc)
trees_of-instances f (x ∷ w ∷ xs) (y ∷ []) alike = absurd (cc)
trees_of-instances f (x ∷ w ∷ xs) (y ∷ z ∷ ys) alike =
    let rest : map tree_of (z ∷ ys) ≡ map (λ t. instance f (tree_of t)) (w ∷ xs) = cc in
    let rest_same : trees_of (z ∷ ys) ≡ instances f (trees_of (w ∷ xs)) = trees_of-instances f (w ∷ xs) (z ∷ ys) rest in
    cc

-- the variables that were seen before, and then those of the terms
abbrev pub variables_in : List ℕ → List Term → List ℕ
variables_in seen [] = seen
variables_in seen (t ∷ ts) = variables_in (variables_after seen (tree_of t)) ts

pub variables_after_all-trees_of : (seen : List ℕ) (ts : List Term) →
    0 < length ts → variables_after_all seen (trees_of ts) ≡ variables_in seen ts
variables_after_all-trees_of seen [] some = absurd (omega arith)
variables_after_all-trees_of seen (t ∷ []) some = refl
variables_after_all-trees_of seen (t ∷ u ∷ ts) some = variables_after_all-trees_of (variables_after seen (tree_of t)) (u ∷ ts) (omega arith)

-- nothing that was seen is forgotten
pub length-with_number : (seen : List ℕ) (n : ℕ) → length seen ≤ length (with_number seen n)
length-with_number seen n =
    elim (place_in seen n == length seen) as (λ b. length seen ≤ length (if b then seen ++ n ∷ [] else seen))
    [ true ↦ omega (arith, length-append seen (n ∷ [])) | false ↦ omega arith ]

mutual
  pub length-variables_after : (t : Tree) (seen : List ℕ) → length seen ≤ length (variables_after seen t)
  length-variables_after (Variable n) seen = length-with_number seen n
  length-variables_after (Atomic name) seen = omega arith
  length-variables_after (Number n) seen = omega arith
  length-variables_after (Compound name args) seen = length-variables_after_all args seen

  pub length-variables_after_all : (ts : Trees) (seen : List ℕ) → length seen ≤ length (variables_after_all seen ts)
  length-variables_after_all (Last t) seen = length-variables_after t seen
  length-variables_after_all (More t ts) seen =
      omega (arith, length-variables_after t seen, length-variables_after_all ts (variables_after seen t))

pub length-variables_in : (ts : List Term) (seen : List ℕ) → length seen ≤ length (variables_in seen ts)
length-variables_in [] seen = omega arith
length-variables_in (t ∷ ts) seen =
    omega (arith, length-variables_after (tree_of t) seen, length-variables_in ts (variables_after seen (tree_of t)))

-- the variables of a compound
pub variables_after-compound : (seen : List ℕ) (t : Tree) (name : List ℕ) (args : Trees) (ts : List Term) →
    t ≡ Compound name args → trees_of ts ≡ args → 0 < length ts → variables_after seen t ≡ variables_in seen ts
variables_after-compound seen t name args ts compound seen_as some =
    ap (variables_after seen) compound ∙ ap (variables_after_all seen) (sym seen_as) ∙ variables_after_all-trees_of seen ts some
