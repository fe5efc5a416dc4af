-- Two terms are equal exactly where the pairs are that their walk leaves.
use Rattle.std.proofs.Common.{◌≡◌, ℕ, suc, ◌+◌, ◌<◌, List, [], ◌∷◌, ◌++◌, length, get_or, drop, drop-cons, refl, sym, ap, ap₂, ◌∙◌, subst, arith, ◌↔◌}
use Rattle.std.specs.Prelude.{Some}
use Rattle.std.proofs.lemmas.List.{length-map}
use Rattle.std.proofs.lemmas.List.Elements.{All-pop, All-push, All-weaker}
use Rattle.tc_term.specs.declared.terms.Term.{Term}
use Rattle.tc_term.specs.Tree.{Tree, Variable, Atomic, Number, Compound, Trees, Last, More}
use Rattle.tc_term.specs.TreeView.{tree_of, trees_of}
use Rattle.tc_term.specs.Variables.{instance, instances, raised}
use Rattle.tc_unify.specs.declared.nodes.Arena.{Arena}
use Rattle.tc_unify.specs.Nodes.{label}
use Rattle.tc_unify.specs.Links.{Holds}
use Rattle.tc_unify.specs.Arena.{IsArena, IsNodeOf, IsNodeFor, AreNodesOf, Grows, shape_of}
use Rattle.tc_unify.specs.Splits.{AreEqual, valued, AreEqualFrom, Always, Asks, NeverAsks}
use Rattle.tc_unify.proofs.Labels.{instance-label}
use Rattle.tc_unify.proofs.Arenas.{inside_grows, label-grows}

-- what a valuation makes of the tree of a node
pub node_value : (a : Arena) (k : ℕ) (t : Tree) (v : ℕ → Tree) → IsArena a → IsNodeFor a k t → label (shape_of a) v k ≡ instance v t
node_value a k t v arena node = sym (instance-label (shape_of a) v arena.order k) ∙ ap (instance v) node.tree

-- pairs of an arena are equal in the arena that has grown where they were
module _ (a b : Arena) (arena : IsArena a) (grows : Grows a b) (pairs : List (ℕ × ℕ)) (nodes : AreNodesOf a pairs) (v : ℕ → Tree) where
  same : (k : ℕ) → IsNodeOf a k → label (shape_of b) v k ≡ label (shape_of a) v k
  same k h = label-grows a.nodes.items b.nodes.items a.text.items b.text.items a.variables arena grows.nodes grows.text v k h

  pub Holds-grows : Holds (label (shape_of a) v) pairs → Holds (label (shape_of b) v) pairs
  Holds-grows h = λ k d i. let p = nodes k d i in same _ p.0 ∙ h k d i ∙ sym (same _ p.1)

  pub Holds-shrinks : Holds (label (shape_of b) v) pairs → Holds (label (shape_of a) v) pairs
  Holds-shrinks h = λ k d i. let p = nodes k d i in sym (same _ p.0) ∙ h k d i ∙ same _ p.1

pub AreNodesOf-grows : (a b : Arena) (pairs : List (ℕ × ℕ)) → Grows a b → AreNodesOf a pairs → AreNodesOf b pairs
AreNodesOf-grows a b pairs grows nodes =
    All-weaker (λ p. IsNodeOf a p.0 × IsNodeOf a p.1) (λ p. IsNodeOf b p.0 × IsNodeOf b p.1)
    (λ p h. (inside_grows a b grows p.0 h.0, inside_grows a b grows p.1 h.1)) pairs nodes

-- one pair more, of nodes that stand for two terms
module _ (a b : Arena) (old : List (ℕ × ℕ)) (i j : ℕ) (s t : Tree) (arena : IsArena a) (grown : IsArena b) (grows : Grows a b) (nodes : AreNodesOf a old)
    (left : IsNodeFor b i s) (right : IsNodeFor b j t) where
  pub asks_pair : (new : List (ℕ × ℕ)) → new ≡ old ++ (i, j) ∷ [] → Asks a old (AreEqual s t) b new Always
  asks_pair new e = subst (λ ps. Asks a old (AreEqual s t) b ps Always) (sym e) (record {
    forth = λ v h equal. (
      All-push (λ p. label (shape_of b) v p.0 ≡ label (shape_of b) v p.1) old (i, j) (Holds-grows a b arena grows old nodes v h)
          (node_value b i s v grown left ∙ equal ∙ sym (node_value b j t v grown right)),
      tt,
    );
    back = λ v h always.
        let parts = All-pop (λ p. label (shape_of b) v p.0 ≡ label (shape_of b) v p.1) (old ++ (i, j) ∷ []) old (Some (i, j)) refl h in
        (Holds-shrinks a b arena grows old nodes v parts.0, sym (node_value b i s v grown left) ∙ parts.1 ∙ node_value b j t v grown right);
  })

  pub nodes_pair : (new : List (ℕ × ℕ)) → new ≡ old ++ (i, j) ∷ [] → AreNodesOf b new
  nodes_pair new e =
      subst (AreNodesOf b) (sym e)
      (All-push (λ p. IsNodeOf b p.0 × IsNodeOf b p.1) old (i, j) (AreNodesOf-grows a b old grows nodes) (left.inside, right.inside))

-- nothing changes where both demands say the same
pub asks_same : (a : Arena) (old : List (ℕ × ℕ)) (P Q : (ℕ → Tree) → Type 0) → ((v : ℕ → Tree) → P v ↔ Q v) → Asks a old P a old Q
asks_same a old P Q e = record { forth = λ v h p. (h, (e v).0 p); back = λ v h q. (h, (e v).1 q) }

-- a demand that falls into two is met one after the other
pub asks_more : (a b c : Arena) (old mid new : List (ℕ × ℕ)) (P R E Q : (ℕ → Tree) → Type 0) → Asks a old P b mid R → ((v : ℕ → Tree) → R v ↔ (E v × Q v)) → Asks b mid E c new Always → Asks a old P c new Q
asks_more a b c old mid new P R E Q first parts next = record {
  forth = λ v h p.
      let one = first.forth v h p in
      let two = (parts v).0 one.1 in
      ((next.forth v one.0 two.0).0, two.1);
  back = λ v h q.
      let one = next.back v h tt in
      first.back v one.0 ((parts v).1 (one.1, q));
}

pub asks_met : (a b : Arena) (old new : List (ℕ × ℕ)) (P Q : (ℕ → Tree) → Type 0) → ((v : ℕ → Tree) → Q v) → Asks a old P b new Q → Asks a old P b new Always
asks_met a b old new P Q met asks = record {
  forth = λ v h p. ((asks.forth v h p).0, tt);
  back = λ v h always. asks.back v h (met v);
}

pub never_more : (a b : Arena) (old mid : List (ℕ × ℕ)) (P R E Q : (ℕ → Tree) → Type 0) → Asks a old P b mid R → ((v : ℕ → Tree) → R v ↔ (E v × Q v)) → NeverAsks b mid E → NeverAsks a old P
never_more a b old mid P R E Q first parts never v h p =
    let one = first.forth v h p in
    never v one.0 ((parts v).0 one.1).0

abbrev pub head_of : Tree → List Tree → Tree
head_of d [] = d
head_of d (x ∷ xs) = x

abbrev pub rest_of : List Tree → List Tree
rest_of [] = []
rest_of (x ∷ xs) = xs

-- the terms from a place on are equal where the first two are and those behind
pub equal_next : (i j k : ℕ) (ss ts : List Term) (x y : Term) → i < length ss → i < length ts → x ≡ get_or ss i x → y ≡ get_or ts i y
    → (v : ℕ → Tree) → AreEqualFrom i j ss k ts v ↔ (AreEqual (raised j (tree_of x)) (raised k (tree_of y)) v × AreEqualFrom (i + 1) j ss k ts v)
equal_next i j k ss ts x y below under left right v = (
  (λ e.
      let f = sym one ∙ e ∙ two in
      (ap (head_of (Atomic [])) f, ap rest_of f)),
  (λ p. one ∙ ap₂ (λ (u : Tree) (us : List Tree). u ∷ us) p.0 p.1 ∙ sym two),
)
  where
    next : suc i ≡ i + 1
    next = omega arith

    one : valued v j (drop i ss) ≡ instance v (raised j (tree_of x)) ∷ valued v j (drop (i + 1) ss)
    one =
        ap (valued v j) (drop-cons ss i x below)
        ∙ ap (λ z. instance v (raised j (tree_of z)) ∷ valued v j (drop (suc i) ss)) (sym left)
        ∙ ap (λ n. instance v (raised j (tree_of x)) ∷ valued v j (drop n ss)) next

    two : valued v k (drop i ts) ≡ instance v (raised k (tree_of y)) ∷ valued v k (drop (i + 1) ts)
    two =
        ap (valued v k) (drop-cons ts i y under)
        ∙ ap (λ z. instance v (raised k (tree_of z)) ∷ valued v k (drop (suc i) ts)) (sym right)
        ∙ ap (λ n. instance v (raised k (tree_of y)) ∷ valued v k (drop n ts)) next

-- arguments as a list, and back
abbrev pub trees_in : List Tree → Trees
trees_in [] = Last (Atomic [])
trees_in (t ∷ []) = Last t
trees_in (t ∷ u ∷ ts) = More t (trees_in (u ∷ ts))

abbrev pub list_of : Trees → List Tree
list_of (Last t) = t ∷ []
list_of (More t ts) = t ∷ list_of ts

pub list-trees : (t : Tree) (ts : List Tree) → list_of (trees_in (t ∷ ts)) ≡ t ∷ ts
list-trees t [] = refl
list-trees t (u ∷ ts) = ap (λ us. t ∷ us) (list-trees u ts)

valued-trees : (v : ℕ → Tree) (shift : ℕ) (ts : List Term) → instances v (instances (λ n. Variable (n + shift)) (trees_of ts)) ≡ trees_in (valued v shift ts)
valued-trees v shift [] = refl
valued-trees v shift (t ∷ []) = refl
valued-trees v shift (t ∷ u ∷ ts) = ap (More (instance v (raised shift (tree_of t)))) (valued-trees v shift (u ∷ ts))

list-valued : (v : ℕ → Tree) (shift : ℕ) (ts : List Term) → 0 < length ts → list_of (trees_in (valued v shift ts)) ≡ valued v shift ts
list-valued v shift [] h = absurd (omega arith)
list-valued v shift (t ∷ ts) h = list-trees (instance v (raised shift (tree_of t))) (valued v shift ts)

abbrev pub arguments_of : Tree → Trees
arguments_of (Compound name args) = args
arguments_of (Variable n) = Last (Atomic [])
arguments_of (Atomic name) = Last (Atomic [])
arguments_of (Number n) = Last (Atomic [])

abbrev pub name_of : Tree → List ℕ
name_of (Compound name args) = name
name_of (Variable n) = []
name_of (Atomic name) = []
name_of (Number n) = []

-- two compounds with arguments from lists
module _ (j k : ℕ) (s t : Term) (m n : List ℕ) (left right : Trees) (ss ts : List Term) (is : tree_of s ≡ Compound m left) (other : tree_of t ≡ Compound n right)
    (lefts : trees_of ss ≡ left) (rights : trees_of ts ≡ right) (some : 0 < length ss) (more : 0 < length ts) where
  whole_left : (v : ℕ → Tree) → instance v (raised j (tree_of s)) ≡ Compound m (trees_in (valued v j ss))
  whole_left v =
      ap (λ u. instance v (raised j u)) (is ∙ ap (Compound m) (sym lefts))
      ∙ ap (Compound m) (valued-trees v j ss)

  whole_right : (v : ℕ → Tree) → instance v (raised k (tree_of t)) ≡ Compound n (trees_in (valued v k ts))
  whole_right v =
      ap (λ u. instance v (raised k u)) (other ∙ ap (Compound n) (sym rights))
      ∙ ap (Compound n) (valued-trees v k ts)

  pub equal_arguments : (v : ℕ → Tree) → AreEqual (raised j (tree_of s)) (raised k (tree_of t)) v → (m ≡ n) × AreEqualFrom 0 j ss k ts v
  equal_arguments v e =
      let f = sym (whole_left v) ∙ e ∙ whole_right v in
      (ap name_of f, sym (list-valued v j ss some) ∙ ap (λ u. list_of (arguments_of u)) f ∙ list-valued v k ts more)

  pub equal_compounds : m ≡ n → (v : ℕ → Tree) → AreEqual (raised j (tree_of s)) (raised k (tree_of t)) v ↔ AreEqualFrom 0 j ss k ts v
  equal_compounds e v = (
    (λ h. (equal_arguments v h).1),
    (λ h. whole_left v ∙ ap₂ (λ (name : List ℕ) (us : List Tree). Compound name (trees_in us)) e h ∙ sym (whole_right v)),
  )

  -- never, with other names or other numbers of arguments
  pub never_names : (a : Arena) (old : List (ℕ × ℕ)) → (m ≡ n → ⊥) → NeverAsks a old (AreEqual (raised j (tree_of s)) (raised k (tree_of t)))
  never_names a old differ v h e = differ (equal_arguments v e).0

  pub never_lengths : (a : Arena) (old : List (ℕ × ℕ)) → (length ss ≡ length ts → ⊥) → NeverAsks a old (AreEqual (raised j (tree_of s)) (raised k (tree_of t)))
  never_lengths a old differ v h e =
      differ (sym (length-map ss (λ u. instance v (raised j (tree_of u)))) ∙ ap length (equal_arguments v e).1 ∙ length-map ts (λ u. instance v (raised k (tree_of u))))
