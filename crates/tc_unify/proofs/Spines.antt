-- A node's name and arguments, and terms put together argument by argument.
use Rattle.std.proofs.Common.{inl, inr, ◌≡◌, ◌≢◌, ℕ, ◌+◌, ◌<◌, ◌≤◌, List, [], ◌∷◌, ◌++◌, length, reverse, refl, sym, ap, ◌∙◌, subst, arith, get_or, ℤ}
use Rattle.tc_term.specs.Tree.{Tree, Atomic, Variable, nodes, depth, name_bytes}
use Rattle.tc_unify.specs.declared.nodes.Arena.{Arena}
use Rattle.tc_unify.specs.declared.nodes.Node.{Node}
use Rattle.tc_unify.specs.declared.nodes.Node.TheVariants.{Atom, Int, Apply}
use Rattle.tc_unify.specs.Nodes.{applied, applied_over, Shape, VariableNode, AtomNode, NumberNode, ApplyNode, IsHead, IsAtom, IsPlain, IsInOrder, tree_of_node, label}
use Rattle.tc_unify.specs.declared.nodes.TheConstants.{FIRST_NAME, FIRST_VARIABLE}
use Rattle.std.proofs.lemmas.Bool.{cases_lt}
use Rattle.tc_unify.specs.Arena.{IsArena, IsNodeOf, IsNodeWithin, node_shape, shape_of, node_tree}
use Rattle.tc_unify.proofs.Labels.{IsSpine, IsSpine-applied, IsSpine-label, applied-injective, nodes-positive, nodes-applied, depth-applied, name_bytes-applied, label-labels}
use Rattle.tc_unify.proofs.Arenas.{shape_of-read, named_node, outer_plain, shape_in-name, shape_in-variable}
use Rattle.tc_lists.proofs.Reversals.{reverse_push}

pub IsSpine-applied_over : {X : Type 0} (f : X → Tree) (s : Tree) (xs : List X) → IsSpine s → IsSpine (applied_over f s xs)
IsSpine-applied_over f s [] h = h
IsSpine-applied_over f s (x ∷ xs) h = IsSpine-applied_over f (applied s (f x)) xs (IsSpine-applied s (f x))

pub applied_over-push : {X : Type 0} (f : X → Tree) (s : Tree) (xs : List X) (x : X) → applied_over f s (xs ++ x ∷ []) ≡ applied (applied_over f s xs) (f x)
applied_over-push f s [] x = refl
applied_over-push f s (y ∷ xs) x = applied_over-push f (applied s (f y)) xs x

pub applied_over-injective : {X : Type 0} (f g : X → Tree) (s t : Tree) (xs : List X) → IsSpine s → IsSpine t → applied_over f s xs ≡ applied_over g t xs → s ≡ t
applied_over-injective f g s t [] h k e = e
applied_over-injective f g s t (x ∷ xs) h k e =
    (applied-injective s t (f x) (g x) h k
    (applied_over-injective f g (applied s (f x)) (applied t (g x)) xs (IsSpine-applied s (f x)) (IsSpine-applied t (g x)) e)).0

-- a term with more arguments is no smaller
pub nodes-applied_over : {X : Type 0} (f : X → Tree) (s : Tree) (xs : List X) → IsSpine s → nodes s ≤ nodes (applied_over f s xs)
nodes-applied_over f s [] h = omega arith
nodes-applied_over f s (x ∷ xs) h = omega (arith, nodes-applied s (f x) h, nodes-applied_over f (applied s (f x)) xs (IsSpine-applied s (f x)))

pub depth-applied_over : {X : Type 0} (f : X → Tree) (s : Tree) (xs : List X) → IsSpine s → depth s ≤ depth (applied_over f s xs)
depth-applied_over f s [] h = omega arith
depth-applied_over f s (x ∷ xs) h = omega (arith, depth-applied s (f x) h, depth-applied_over f (applied s (f x)) xs (IsSpine-applied s (f x)))

pub name_bytes-applied_over : {X : Type 0} (f : X → Tree) (s : Tree) (xs : List X) → IsSpine s → name_bytes s ≤ name_bytes (applied_over f s xs)
name_bytes-applied_over f s [] h = omega arith
name_bytes-applied_over f s (x ∷ xs) h =
    omega (arith, name_bytes-applied s (f x) h, name_bytes-applied_over f (applied s (f x)) xs (IsSpine-applied s (f x)))

-- the node of one argument more
pub spine_next : (a : Arena) (rest head argument : ℕ) (x : Node) → IsArena a → rest < length a.nodes.items → x ≡ get_or a.nodes.items rest x → x ≡ Apply head argument
    → IsHead (shape_of a head) × IsNodeOf a head × IsNodeOf a argument × ((v : ℕ → Tree) → label (shape_of a) v rest ≡ applied (label (shape_of a) v head) (label (shape_of a) v argument))
spine_next a rest head argument x arena below read is =
    let shape = shape_of-read a rest x (Apply head argument) arena below read is in
    let order = subst (IsInOrder (shape_of a) rest) shape (arena.order rest) in (
      order.0,
      (named_node a rest head argument arena below shape).0,
      (named_node a rest head argument arena below shape).1,
      λ v. label-labels (shape_of a) v arena.order rest ∙ ap (tree_of_node v (label (shape_of a) v)) shape,
    )

pub spine_tree : (F : ℕ → Tree) (t : Tree) (rest head argument : ℕ) (arguments more : List ℕ) → t ≡ applied_over F (F rest) (reverse arguments) → F rest ≡ applied (F head) (F argument) → more ≡ arguments ++ argument ∷ []
    → t ≡ applied_over F (F head) (reverse more)
spine_tree F t rest head argument arguments more so_far one pushed =
    so_far ∙ ap (λ u. applied_over F u (reverse arguments)) one
    ∙ ap (applied_over F (F head)) (sym (ap reverse pushed ∙ reverse_push arguments argument))

pub term_inside : (a : Arena) (k : ℕ) → IsNodeOf a k → k < FIRST_NAME → k < length a.nodes.items
term_inside a k (inl h) below = h
term_inside a k (inr h) below = absurd (omega (arith, h.0))

-- the head of a node is smaller than the node
pub head_smaller : (a : Arena) (rest head argument : ℕ) (x : Node) → IsArena a → rest < length a.nodes.items → x ≡ get_or a.nodes.items rest x → x ≡ Apply head argument
    → nodes (node_tree a head) < nodes (node_tree a rest)
head_smaller a rest head argument x arena below read is =
    let next = spine_next a rest head argument x arena below read is in
    omega (arith, ap nodes (next.3 Variable), nodes-applied (node_tree a head) (node_tree a argument) (IsSpine-label (shape_of a) Variable head next.0), nodes-positive (node_tree a argument))

-- a node that is no number and has no argument is an atom
pub atom_read : (a : Arena) (k : ℕ) (x : Node) → IsArena a → k < length a.nodes.items → x ≡ get_or a.nodes.items k x → IsHead (shape_of a k) → ((head argument : ℕ) → x ≢ Apply head argument) → IsAtom (shape_of a k)
atom_read a k x arena below read head differ =
    let shape = shape_of-read a k x x arena below read refl in
    subst IsAtom (sym shape) (by_node x (subst IsHead shape head) differ)
  where
    by_node : (y : Node) → IsHead (node_shape a.text.items y) → ((head argument : ℕ) → y ≢ Apply head argument) → IsAtom (node_shape a.text.items y)
    by_node (Atom from len) h d = tt
    by_node (Int n) h d = h
    by_node (Apply head argument) h d = absurd (d head argument refl)

pub atom_is_read : (a : Arena) (k : ℕ) (x : Node) → IsArena a → k < length a.nodes.items → x ≡ get_or a.nodes.items k x → IsAtom (shape_of a k) → ((from len : ℕ) → x ≢ Atom from len) → ⊥
atom_is_read a k x arena below read atom differ = by_node x (subst IsAtom (shape_of-read a k x x arena below read refl) atom) differ
  where
    by_node : (y : Node) → IsAtom (node_shape a.text.items y) → ((from len : ℕ) → y ≢ Atom from len) → ⊥
    by_node (Atom from len) h d = d from len refl
    by_node (Int n) h d = h
    by_node (Apply head argument) h d = h

-- so is one above those of terms
pub atom_outer : (a : Arena) (k : ℕ) → FIRST_NAME ≤ k → IsHead (shape_of a k) → IsAtom (shape_of a k)
atom_outer a k h head = by_shape (shape_of a k) (outer_plain a.nodes.items a.text.items k h) head
  where
    by_shape : (s : Shape) → IsPlain s → IsHead s → IsAtom s
    by_shape (VariableNode n) p i = i
    by_shape (AtomNode name) p i = tt
    by_shape (NumberNode n) p i = i
    by_shape (ApplyNode x y) p i = absurd p

-- a node of an atom or variable above those of terms
pub atom_below : (a : Arena) (k : ℕ) → FIRST_NAME ≤ k → IsAtom (shape_of a k) → k < FIRST_VARIABLE
atom_below a k h atom =
    elim (cases_lt k FIRST_VARIABLE) [
      | inl below ↦ below
      | inr above ↦ absurd (subst IsAtom (shape_in-variable a.nodes.items a.text.items k above) atom)
    ]

-- a node of an atom has the tree of its name
pub label-atom : (a : Arena) (v : ℕ → Tree) (k : ℕ) (name : List ℕ) → IsArena a → shape_of a k ≡ AtomNode name → label (shape_of a) v k ≡ Atomic name
label-atom a v k name arena e = label-labels (shape_of a) v arena.order k ∙ ap (tree_of_node v (label (shape_of a) v)) e

-- the name of an atom stands in the text
pub name_within : (a : Arena) (k from len : ℕ) (x : Node) → IsArena a → k < length a.nodes.items → x ≡ get_or a.nodes.items k x → x ≡ Atom from len → from + len ≤ length a.text.items
name_within a k from len x arena below read is =
    (subst (IsNodeWithin a.nodes.items a.text.items a.variables) (sym read ∙ is) (arena.within k x below)).0

-- a node that is no number can have arguments
pub head_read : (a : Arena) (k : ℕ) (x : Node) → IsArena a → k < length a.nodes.items → x ≡ get_or a.nodes.items k x → ((n : ℤ) → x ≢ Int n) → IsHead (shape_of a k)
head_read a k x arena below read differ = subst IsHead (sym (shape_of-read a k x x arena below read refl)) (by_node x differ)
  where
    by_node : (y : Node) → ((n : ℤ) → y ≢ Int n) → IsHead (node_shape a.text.items y)
    by_node (Atom from len) h = tt
    by_node (Int n) h = absurd (h n refl)
    by_node (Apply head argument) h = tt

-- a short name can have arguments
pub head_outer : (a : Arena) (k : ℕ) → FIRST_NAME ≤ k → k < FIRST_VARIABLE → IsHead (shape_of a k)
head_outer a k h below = subst IsHead (sym (shape_in-name a.nodes.items a.text.items k h below)) tt

-- the tree of an atom with arguments, by its name
pub named_spine : (a : Arena) (v : ℕ → Tree) (t : Tree) (atom : ℕ) (name : List ℕ) (arguments : List ℕ) → IsArena a → shape_of a atom ≡ AtomNode name
    → t ≡ applied_over (label (shape_of a) v) (label (shape_of a) v atom) arguments → t ≡ applied_over (label (shape_of a) v) (Atomic name) arguments
named_spine a v t atom name arguments arena shape tree =
    tree ∙ ap (λ u. applied_over (label (shape_of a) v) u arguments) (label-atom a v atom name arena shape)
