-- Where every node stands for a finite tree, each choice for the unbound variables extends to a solution.
use Rattle.std.proofs.Common.{◌≡◌, ℕ, zero, suc, ◌<◌, ◌≤◌, ◌⊎◌, inl, inr, List, [], ◌∷◌, length, refl, sym, ap, ap₂, ◌∙◌, subst, arith, IsTrue}
use Rattle.std.proofs.lemmas.List.Elements.{All-from_get_or}
use Rattle.tc_term.specs.Tree.{Tree, Atomic, Variable, Number, Compound, Trees, Last, More, is_ground, are_ground, nodes}
use Rattle.tc_term.specs.Equations.{at}
use Rattle.tc_unify.specs.Nodes.{and_last, applied, Shape, VariableNode, AtomNode, NumberNode, ApplyNode, tree_of_node, IsTerm, IsPlain, IsInOrder, IsLabelling, label}
use Rattle.tc_unify.specs.Links.{root, Respects, LinkedAlike, IsFinite, plain, made}
use Rattle.tc_unify.specs.Solutions.{AreLinked, IsSolution}
use Rattle.tc_unify.proofs.Labels.{IsSpine-label, nodes-applied, nodes-positive, tree_of_node-term, label-unique, label-labels}
use Rattle.std.proofs.lemmas.Bool.{cases_lt, and_from, and_parts}
use Rattle.tc_unify.proofs.Roots.{root-fixed, root-link, root-alike}

-- the tree of a finite node, from the trees of the unbound variables
abbrev finite_tree : {shape : ℕ → Shape} {link : ℕ → ℕ} {k : ℕ} → (ℕ → Tree) → IsFinite shape link k → Tree
finite_tree {shape} {link} c (plain k h) = tree_of_node c (λ _. Atomic []) (shape (root link k))
finite_tree c (made k head argument e a b) = applied (finite_tree c a) (finite_tree c b)

plain_is_made : {s : Shape} {head argument : ℕ} → IsPlain s → s ≡ ApplyNode head argument → ⊥
plain_is_made h e = subst IsPlain e h

finite_tree-same : {shape : ℕ → Shape} {link : ℕ → ℕ} {j k : ℕ} (c : ℕ → Tree) (a : IsFinite shape link j) (b : IsFinite shape link k) → root link j ≡ root link k → finite_tree c a ≡ finite_tree c b
finite_tree-same {shape} c (plain j h) (plain k i) e = ap (λ r. tree_of_node c (λ _. Atomic []) (shape r)) e
finite_tree-same {shape} c (plain j h) (made k head argument f a b) e = absurd (plain_is_made h (ap shape e ∙ f))
finite_tree-same {shape} c (made j head argument f a b) (plain k h) e = absurd (plain_is_made h (ap shape (sym e) ∙ f))
finite_tree-same {shape} {link} c (made j head argument f a b) (made k other last g d i) e =
    let same : ApplyNode head argument ≡ ApplyNode other last = sym f ∙ ap shape e ∙ g in
    let heads : head ≡ other = cc in
    let arguments : argument ≡ last = cc in
    ap₂ applied (finite_tree-same c a d (ap (root link) heads)) (finite_tree-same c b i (ap (root link) arguments))

tree_of_node-plain : (v F G : ℕ → Tree) (s : Shape) → IsPlain s → tree_of_node v F s ≡ tree_of_node v G s
tree_of_node-plain v F G (VariableNode n) h = refl
tree_of_node-plain v F G (AtomNode name) h = refl
tree_of_node-plain v F G (NumberNode n) h = refl
tree_of_node-plain v F G (ApplyNode head argument) h = absurd h

are_ground-and_last : (ts : Trees) (x : Tree) → IsTrue (are_ground ts) → IsTrue (is_ground x) → IsTrue (are_ground (and_last ts x))
are_ground-and_last (Last t) x h i = and_from (is_ground t) (is_ground x) h i
are_ground-and_last (More t ts) x h i =
    let parts = and_parts (is_ground t) (are_ground ts) h in
    and_from (is_ground t) (are_ground (and_last ts x)) parts.0 (are_ground-and_last ts x parts.1 i)

is_ground-applied : (s x : Tree) → IsTrue (is_ground s) → IsTrue (is_ground x) → IsTrue (is_ground (applied s x))
is_ground-applied (Atomic name) x h i = i
is_ground-applied (Compound name args) x h i = are_ground-and_last args x h i
is_ground-applied (Variable n) x h i = i
is_ground-applied (Number n) x h i = i

is_ground-plain : (c F : ℕ → Tree) (s : Shape) → IsPlain s → ((n : ℕ) → IsTrue (is_ground (c n))) → IsTrue (is_ground (tree_of_node c F s))
is_ground-plain c F (VariableNode n) h g = g n
is_ground-plain c F (AtomNode name) h g = refl
is_ground-plain c F (NumberNode n) h g = refl
is_ground-plain c F (ApplyNode head argument) h g = absurd h

is_ground-finite : {shape : ℕ → Shape} {link : ℕ → ℕ} {k : ℕ} (c : ℕ → Tree) → ((n : ℕ) → IsTrue (is_ground (c n))) → (a : IsFinite shape link k) → IsTrue (is_ground (finite_tree c a))
is_ground-finite {shape} {link} c g (plain k h) = is_ground-plain c (λ _. Atomic []) (shape (root link k)) h g
is_ground-finite c g (made k head argument e a b) = is_ground-applied (finite_tree c a) (finite_tree c b) (is_ground-finite c g a) (is_ground-finite c g b)

-- the first trees of a function
abbrev listed : (ℕ → Tree) → ℕ → List Tree
listed f zero = []
listed f (suc n) = f 0 ∷ listed (λ k. f (suc k)) n

length-listed : (f : ℕ → Tree) (n : ℕ) → length (listed f n) ≡ n
length-listed f zero = refl
length-listed f (suc n) = omega (arith, length-listed (λ k. f (suc k)) n)

at-listed : (f : ℕ → Tree) (n k : ℕ) → k < n → at (listed f n) k ≡ f k
at-listed f zero k h = absurd (omega arith)
at-listed f (suc n) zero h = refl
at-listed f (suc n) (suc k) h = at-listed (λ j. f (suc j)) n k (omega arith)

at-listed_past : (f : ℕ → Tree) (n k : ℕ) → n ≤ k → at (listed f n) k ≡ Atomic []
at-listed_past f zero k h = refl
at-listed_past f (suc n) zero h = absurd (omega arith)
at-listed_past f (suc n) (suc k) h = at-listed_past (λ j. f (suc j)) n k (omega arith)

module _ (count : ℕ) (shape : ℕ → Shape) (link : ℕ → ℕ) (node : ℕ → ℕ)
    (linked : AreLinked shape link)
    (alike : (F : ℕ → Tree) → Respects F link → LinkedAlike shape link F)
    (finite : (k : ℕ) → IsFinite shape link k)
    (node_shape : (n : ℕ) → shape (node n) ≡ VariableNode n)
    (node_only : (k n : ℕ) → shape k ≡ VariableNode n → k ≡ node n)
    (past : (n : ℕ) → count ≤ n → link (node n) ≡ node n)
    (c : ℕ → Tree)
    (c_ground : (n : ℕ) → IsTrue (is_ground (c n)))
    (c_past : (n : ℕ) → count ≤ n → c n ≡ Atomic []) where
  extended : ℕ → Tree
  extended k = finite_tree c (finite k)

  extended-respects : Respects extended link
  unfolding extended
  extended-respects k = finite_tree-same c (finite k) (finite (link k)) (sym (root-link link linked.falls k))

  finite_tree-shape : {k : ℕ} (a : IsFinite shape link k) → finite_tree c a ≡ tree_of_node c extended (shape (root link k))
  unfolding extended
  finite_tree-shape (plain k h) = tree_of_node-plain c (λ _. Atomic []) extended (shape (root link k)) h
  finite_tree-shape (made k head argument e a b) =
      subst (λ s. applied (finite_tree c a) (finite_tree c b) ≡ tree_of_node c extended s) (sym e)
      (ap₂ applied (finite_tree-same c a (finite head) refl) (finite_tree-same c b (finite argument) refl))

  extended-shape : (k : ℕ) → extended k ≡ tree_of_node c extended (shape (root link k))
  unfolding extended
  extended-shape k = finite_tree-shape (finite k)

  extended-term : (k : ℕ) → IsTerm (shape k) → extended k ≡ tree_of_node c extended (shape k)
  extended-term k h = extended-shape k ∙ sym (root-alike shape link c extended (alike extended extended-respects) linked.terms k h)

  extended-past : (n : ℕ) → count ≤ n → extended (node n) ≡ Atomic []
  extended-past n h =
      extended-shape (node n) ∙ ap (λ k. tree_of_node c extended (shape k)) (root-fixed link (node n) (past n h))
      ∙ ap (tree_of_node c extended) (node_shape n) ∙ c_past n h

  -- the trees of the variables, in a solution in which the unbound ones have those of the choice
  pub choice_trees : List Tree
  choice_trees = listed (λ n. extended (node n)) count

  choice_trees-at : (n : ℕ) → at choice_trees n ≡ extended (node n)
  unfolding choice_trees
  choice_trees-at n =
      elim (cases_lt n count) [
        | inl below ↦ at-listed (λ j. extended (node j)) count n below
        | inr above ↦ at-listed_past (λ j. extended (node j)) count n above ∙ sym (extended-past n above)
      ]

  extended-labels : IsLabelling shape (at choice_trees) extended
  extended-labels k = by_shape (shape k) refl
    where
      by_shape : (s : Shape) → shape k ≡ s → extended k ≡ tree_of_node (at choice_trees) extended (shape k)
      by_shape (VariableNode n) e =
          ap extended (node_only k n e) ∙ sym (choice_trees-at n) ∙ ap (tree_of_node (at choice_trees) extended) (sym e)
      by_shape (AtomNode name) e = term (subst IsTerm (sym e) tt)
        where
          term : IsTerm (shape k) → extended k ≡ tree_of_node (at choice_trees) extended (shape k)
          term h = extended-term k h ∙ tree_of_node-term c (at choice_trees) extended (shape k) h
      by_shape (NumberNode m) e = extended-term k (subst IsTerm (sym e) tt) ∙ tree_of_node-term c (at choice_trees) extended (shape k) (subst IsTerm (sym e) tt)
      by_shape (ApplyNode head argument) e = extended-term k (subst IsTerm (sym e) tt) ∙ tree_of_node-term c (at choice_trees) extended (shape k) (subst IsTerm (sym e) tt)

  extended-label : (k : ℕ) → extended k ≡ label shape (at choice_trees) k
  extended-label = label-unique shape (at choice_trees) extended linked.order extended-labels

  pub choice_trees-solve : IsSolution count shape link choice_trees
  unfolding choice_trees extended
  choice_trees-solve = record {
    valuation = record {
      whole = length-listed (λ n. extended (node n)) count;
      ground = All-from_get_or (λ t. IsTrue (is_ground t)) choice_trees (Atomic [])
          (λ n h. subst (λ t. IsTrue (is_ground t)) (sym (choice_trees-at n)) (is_ground-finite c c_ground (finite (node n))));
    };
    respects = λ k. sym (extended-label k) ∙ extended-respects k ∙ extended-label (link k);
  }

  pub choice_trees-free : (k n : ℕ) → shape (root link k) ≡ VariableNode n → label shape (at choice_trees) k ≡ c n
  choice_trees-free k n e = sym (extended-label k) ∙ extended-shape k ∙ ap (tree_of_node c extended) e

-- the nodes of a solution are finite, since the trees of the nodes that a node names are smaller than its own
pub finite-from_solution : (shape : ℕ → Shape) (link : ℕ → ℕ) (v : ℕ → Tree) → AreLinked shape link
    → ((k : ℕ) → IsFinite shape link k ⊎ (label shape v k ≡ label shape v (root link k)))
    → (k : ℕ) → IsFinite shape link k
finite-from_solution shape link v linked known k = within (nodes (label shape v k)) k (omega arith)
  where
    by_shape : (size k : ℕ) (s : Shape) → shape (root link k) ≡ s → label shape v k ≡ label shape v (root link k)
        → nodes (label shape v k) ≤ suc size
        → ((j : ℕ) → nodes (label shape v j) ≤ size → IsFinite shape link j)
        → IsFinite shape link k
    by_shape size k (VariableNode n) f e h smaller = plain k (subst IsPlain (sym f) tt)
    by_shape size k (AtomNode name) f e h smaller = plain k (subst IsPlain (sym f) tt)
    by_shape size k (NumberNode n) f e h smaller = plain k (subst IsPlain (sym f) tt)
    by_shape size k (ApplyNode head argument) f e h smaller =
        let order = subst (IsInOrder shape (root link k)) f (linked.order (root link k)) in
        let tree = e ∙ label-labels shape v linked.order (root link k) ∙ ap (tree_of_node v (label shape v)) f in
        let size_is = ap nodes tree ∙ nodes-applied (label shape v head) (label shape v argument) (IsSpine-label shape v head order.0) in
        made k head argument f
        (smaller head (omega (arith, nodes-positive (label shape v argument))))
        (smaller argument (omega (arith, nodes-positive (label shape v head))))

    within : (size k : ℕ) → nodes (label shape v k) ≤ size → IsFinite shape link k
    within zero k h = absurd (omega (arith, nodes-positive (label shape v k)))
    within (suc size) k h =
        elim (known k) [ inl finite ↦ finite | inr e ↦ by_shape size k (shape (root link k)) refl e h (within size) ]
