-- Lists of terms, and the arguments that they are.
use Rattle.std.proofs.Common.{◌≡◌, ◌<◌, ◌≤◌, ◌&&◌, ℕ, All, List, [], ◌∷◌, ◌++◌, length, map, drop, get_or, refl, ap, sym, ◌∙◌, arith}
use Rattle.std.specs.Cmp.Lexicographic.{pointwise}
use Rattle.std.proofs.Math.Bool.{and-true, and-false}
use Rattle.std.proofs.lemmas.List.{append-nil, drop_all}
use Rattle.std.proofs.lemmas.List.Elements.{All-cons, All-nil}
use Rattle.tc_term.specs.declared.terms.Term.{Term}
use Rattle.tc_term.specs.Tree.{Tree, Trees, depth, depth_of_all}
use Rattle.tc_term.specs.TreeView.{tree_of, trees_of}
use Rattle.tc_term.specs.Same.{same_trees, same_term}

-- terms of the same trees are the same arguments
pub trees_of-alike : (xs ys : List Term) → map tree_of xs ≡ map tree_of ys → trees_of xs ≡ trees_of ys
trees_of-alike [] [] e = refl
trees_of-alike [] (y ∷ ys) e = absurd (cc)
trees_of-alike (x ∷ xs) [] e = absurd (cc)
trees_of-alike (x ∷ []) (y ∷ []) e = cc
trees_of-alike (x ∷ []) (y ∷ z ∷ ys) e = absurd (cc)
trees_of-alike (x ∷ w ∷ xs) (y ∷ []) e = absurd (cc)
trees_of-alike (x ∷ w ∷ xs) (y ∷ z ∷ ys) e =
    let rest : map tree_of (w ∷ xs) ≡ map tree_of (z ∷ ys) = cc in
    let rest_same : trees_of (w ∷ xs) ≡ trees_of (z ∷ ys) = trees_of-alike (w ∷ xs) (z ∷ ys) rest in
    cc

-- where nothing of a list is left, what was copied so far is all of it, whatever was made of each
pub copied_all : (f : Term → Tree) (xs ys : List Term) (i : ℕ) → length xs ≤ i →
    map f xs ≡ map tree_of ys ++ map f (drop i xs) → map tree_of ys ≡ map f xs
copied_all f xs ys i ended so_far =
    sym (so_far ∙ ap (λ rest. map tree_of ys ++ map f rest) (drop_all i xs ended) ∙ append-nil (map tree_of ys))

-- no argument is deeper than all of them
pub All-depth : (xs : List Term) → All (λ t. depth (tree_of t) ≤ depth_of_all (trees_of xs)) xs
All-depth [] = All-nil (λ t. depth (tree_of t) ≤ depth_of_all (trees_of []))
All-depth (x ∷ []) =
    All-cons (λ t. depth (tree_of t) ≤ depth (tree_of x)) x [] (omega arith) (All-nil (λ t. depth (tree_of t) ≤ depth (tree_of x)))
All-depth (x ∷ y ∷ xs) =
    All-cons (λ t. depth (tree_of t) ≤ depth_of_all (trees_of (x ∷ y ∷ xs))) x (y ∷ xs) (omega arith)
    (λ k d inside.
    let below : depth (tree_of (get_or (y ∷ xs) k d)) ≤ depth_of_all (trees_of (y ∷ xs)) = All-depth (y ∷ xs) k d inside in
    omega (arith, below))

-- arguments are equal where the terms at each place are
pub same_trees-trees_of : (xs ys : List Term) → 0 < length xs → 0 < length ys →
    same_trees (trees_of xs) (trees_of ys) ≡ pointwise same_term xs ys
same_trees-trees_of [] ys some some' = absurd (omega arith)
same_trees-trees_of (x ∷ xs) [] some some' = absurd (omega arith)
same_trees-trees_of (x ∷ []) (y ∷ []) some some' = sym (and-true (same_term x y))
same_trees-trees_of (x ∷ []) (y ∷ z ∷ ys) some some' = sym (and-false (same_term x y))
same_trees-trees_of (x ∷ w ∷ xs) (y ∷ []) some some' = sym (and-false (same_term x y))
same_trees-trees_of (x ∷ w ∷ xs) (y ∷ z ∷ ys) some some' =
    ap (λ rest. same_term x y && rest) (same_trees-trees_of (w ∷ xs) (z ∷ ys) (omega arith) (omega arith))

-- the same of arguments that are seen as trees
pub same_trees-seen : (xs ys : List Term) (ts us : Trees) → trees_of xs ≡ ts → trees_of ys ≡ us → 0 < length xs → 0 < length ys →
    same_trees ts us ≡ pointwise same_term xs ys
same_trees-seen xs ys ts us seen seen' some some' =
    rw (← seen, ← seen') (same_trees-trees_of xs ys some some')
