-- Equality of terms as a test.
use Rattle.std.specs.Prelude.{◌≡◌, Bool, false, ◌&&◌, nat_eq}
use Rattle.std.specs.Bool.{Decides}
use Rattle.std.specs.Cmp.{IsEquivalence, decided, signed_Decides}
use Rattle.std.specs.Ordering.{int_eq}
use Rattle.std.specs.Str.{bytes_eq}
use Rattle.std.proofs.Common.{ap}
use Rattle.std.proofs.lemmas.Bool.{false≢true}
use Rattle.std.proofs.lemmas.Bool.Decides.{Decides-and, Decides-eqb}
use Rattle.std.proofs.lemmas.Cmp.{on_equiv}
use Rattle.std.proofs.lemmas.Slice.Eq.{bytes_eq-Decides}
use Rattle.tc_term.specs.Tree.{Tree, Variable, Atomic, Number, Compound, Trees, Last, More}
use Rattle.tc_term.specs.TreeView.{tree_of}
use Rattle.tc_term.specs.declared.terms.Term.{Term}

-- whether two trees are equal
abbrev mutual
  pub same_tree : Tree → Tree → Bool
  same_tree (Variable m) (Variable n) = nat_eq m n
  same_tree (Atomic a) (Atomic b) = bytes_eq a b
  same_tree (Number x) (Number y) = int_eq x y
  same_tree (Compound a ts) (Compound b us) = bytes_eq a b && same_trees ts us
  same_tree _ _ = false

  pub same_trees : Trees → Trees → Bool
  same_trees (Last t) (Last u) = same_tree t u
  same_trees (More t ts) (More u us) = same_tree t u && same_trees ts us
  same_trees _ _ = false

-- the test tells equality
mutual
  pub same_tree-Decides : (s t : Tree) → Decides (same_tree s t) (s ≡ t)
  same_tree-Decides (Variable m) (Variable n) =
      (λ e. ap Variable ((Decides-eqb m n).0 e), λ e. (Decides-eqb m n).1 (cc))
  same_tree-Decides (Atomic a) (Atomic b) =
      (λ e. ap Atomic ((bytes_eq-Decides a b).0 e), λ e. (bytes_eq-Decides a b).1 (cc))
  same_tree-Decides (Number x) (Number y) =
      (λ e. ap Number ((signed_Decides x y).0 e), λ e. (signed_Decides x y).1 (cc))
  same_tree-Decides (Compound a ts) (Compound b us) =
      let both =
      Decides-and (bytes_eq a b) (same_trees ts us) (bytes_eq-Decides a b)
      (same_trees-Decides ts us) in
      (λ e. let h = both.0 e in cc, λ e. both.1 (cc, cc))
  same_tree-Decides _ _ = (λ e. absurd (false≢true e), λ e. cc)

  pub same_trees-Decides : (ts us : Trees) → Decides (same_trees ts us) (ts ≡ us)
  same_trees-Decides (Last t) (Last u) =
      (λ e. ap Last ((same_tree-Decides t u).0 e), λ e. (same_tree-Decides t u).1 (cc))
  same_trees-Decides (More t ts) (More u us) =
      let both =
      Decides-and (same_tree t u) (same_trees ts us) (same_tree-Decides t u)
      (same_trees-Decides ts us) in
      (λ e. let h = both.0 e in cc, λ e. both.1 (cc, cc))
  same_trees-Decides _ _ = (λ e. absurd (false≢true e), λ e. cc)

-- whether two terms are equal
abbrev pub same_term : Term → Term → Bool
same_term s t = same_tree (tree_of s) (tree_of t)

-- the laws of equality
pub same_tree_equiv : IsEquivalence same_tree
same_tree_equiv = decided same_tree same_tree-Decides

pub same_trees_equiv : IsEquivalence same_trees
same_trees_equiv = decided same_trees same_trees-Decides

pub same_term_equiv : IsEquivalence same_term
same_term_equiv = on_equiv tree_of same_tree_equiv
