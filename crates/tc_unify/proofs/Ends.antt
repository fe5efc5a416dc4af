-- Where every variable that was linked stands for a finite tree, so does every node.
use Rattle.std.proofs.Common.{◌≡◌, ℕ, zero, suc, ◌≤◌, ◌⊎◌, inl, inr, [], ◌∷◌, refl, sym, ap, ◌∙◌, subst, arith}
use Rattle.tc_term.specs.Tree.{Tree, Atomic, Compound, Last, nodes}
use Rattle.tc_unify.specs.Nodes.{Shape, VariableNode, AtomNode, NumberNode, ApplyNode, tree_of_node, IsVariable, IsTerm, IsPlain, IsInOrder, label}
use Rattle.tc_unify.specs.Links.{Falls, root, Respects, LinkedAlike, IsFinite, plain, made}
use Rattle.tc_unify.specs.Solutions.{AreLinked}
use Rattle.tc_unify.proofs.Labels.{IsSpine-label, nodes-applied, nodes-positive, label-labels}
use Rattle.tc_unify.proofs.Roots.{root-ends, root-fixed, root-link, root-tree, root-alike}
use Rattle.tc_unify.proofs.Walks.{IsFinite-same}

module _ (shape : ℕ → Shape) (old link : ℕ → ℕ) (v : ℕ → Tree) (linked : AreLinked shape link) (falls : Falls old) (respects : Respects (label shape v) old)
    (alike : (F : ℕ → Tree) → Respects F link → LinkedAlike shape link F)
    (roots : (k : ℕ) → root link (root old k) ≡ root link k)
    (known : (k : ℕ) → old k ≡ k → IsVariable (shape k) → (link k ≡ k) ⊎ IsFinite shape link k) where
  -- trees that tell the ends of links apart
  abbrev end_tree : ℕ → Tree
  end_tree k = Atomic (root link k ∷ [])

  end_tree-respects : Respects end_tree link
  end_tree-respects k = ap (λ r. Atomic (r ∷ [])) (sym (root-link link linked.falls k))

  alike_at_end : (k : ℕ) (s t : Shape) → shape k ≡ s → IsTerm s → shape (root link k) ≡ t → tree_of_node end_tree end_tree s ≡ tree_of_node end_tree end_tree t
  alike_at_end k s t e h f =
      sym (ap (tree_of_node end_tree end_tree) e)
      ∙ root-alike shape link end_tree end_tree (alike end_tree end_tree-respects) linked.terms k (subst IsTerm (sym e) h)
      ∙ ap (tree_of_node end_tree end_tree) f

  -- a term that is linked to a compound names nodes with the same ends, whose old trees are smaller
  by_parts : (size k head argument : ℕ) (s : Shape) → shape k ≡ s → shape (root link k) ≡ ApplyNode head argument
      → tree_of_node end_tree end_tree s ≡ Compound (root link head ∷ []) (Last (Atomic (root link argument ∷ [])))
      → nodes (label shape v k) ≤ suc size
      → ((j : ℕ) → nodes (label shape v j) ≤ size → IsFinite shape link j)
      → IsFinite shape link k
  by_parts size k head argument (VariableNode n) e f same h smaller = absurd cc
  by_parts size k head argument (AtomNode name) e f same h smaller = absurd cc
  by_parts size k head argument (NumberNode n) e f same h smaller = absurd cc
  by_parts size k head argument (ApplyNode front last) e f same h smaller =
      let order = subst (IsInOrder shape k) e (linked.order k) in
      let tree = label-labels shape v linked.order k ∙ ap (tree_of_node v (label shape v)) e in
      let size_is = ap nodes tree ∙ nodes-applied (label shape v front) (label shape v last) (IsSpine-label shape v front order.0) in
      let heads : root link front ≡ root link head = cc in
      let arguments : root link last ≡ root link argument = cc in
      made k head argument f
      (IsFinite-same heads (smaller front (omega (arith, nodes-positive (label shape v last)))))
      (IsFinite-same arguments (smaller last (omega (arith, nodes-positive (label shape v front)))))

  by_end : (size k : ℕ) (s t : Shape) → shape k ≡ s → IsTerm s → shape (root link k) ≡ t
      → nodes (label shape v k) ≤ suc size
      → ((j : ℕ) → nodes (label shape v j) ≤ size → IsFinite shape link j)
      → IsFinite shape link k
  by_end size k s (VariableNode n) e i f h smaller = plain k (subst IsPlain (sym f) tt)
  by_end size k s (AtomNode name) e i f h smaller = plain k (subst IsPlain (sym f) tt)
  by_end size k s (NumberNode n) e i f h smaller = plain k (subst IsPlain (sym f) tt)
  by_end size k s (ApplyNode head argument) e i f h smaller =
      by_parts size k head argument s e f (alike_at_end k s (ApplyNode head argument) e i f) h smaller

  by_shape : (size k : ℕ) (s : Shape) → shape k ≡ s → old k ≡ k
      → nodes (label shape v k) ≤ suc size
      → ((j : ℕ) → nodes (label shape v j) ≤ size → IsFinite shape link j)
      → IsFinite shape link k
  by_shape size k (VariableNode n) e fixed h smaller =
      elim (known k fixed (subst IsVariable (sym e) tt)) [
        | inl same ↦ plain k (subst IsPlain (sym (ap shape (root-fixed link k same) ∙ e)) tt)
        | inr finite ↦ finite
      ]
  by_shape size k (AtomNode name) e fixed h smaller = by_end size k (AtomNode name) (shape (root link k)) e tt refl h smaller
  by_shape size k (NumberNode n) e fixed h smaller = by_end size k (NumberNode n) (shape (root link k)) e tt refl h smaller
  by_shape size k (ApplyNode head argument) e fixed h smaller = by_end size k (ApplyNode head argument) (shape (root link k)) e tt refl h smaller

  within : (size k : ℕ) → nodes (label shape v k) ≤ size → IsFinite shape link k
  within zero k h = absurd (omega (arith, nodes-positive (label shape v k)))
  within (suc size) k h =
      IsFinite-same (roots k)
      (by_shape size (root old k) (shape (root old k)) refl (root-ends old falls k)
      (subst (λ t. nodes t ≤ suc size) (root-tree old (label shape v) respects k) h) (within size))

  pub finite_from_variables : (k : ℕ) → IsFinite shape link k
  finite_from_variables k = within (nodes (label shape v k)) k (omega arith)
