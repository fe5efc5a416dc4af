-- Trees of nodes: a labelling is fixed by what the variables have.
use Rattle.std.proofs.Common.{◌≡◌, ℕ, zero, suc, ◌+◌, ◌<◌, ◌≤◌, min, max, ◌⊎◌, inl, inr, List, refl, sym, ap, ap₂, ◌∙◌, arith}
use Rattle.tc_term.specs.Tree.{Tree, Variable, Atomic, Number, Compound, Trees, Last, More, nodes, nodes_of_all, depth, depth_of_all, name_bytes, name_bytes_of_all}
use Rattle.tc_term.specs.Variables.{instance, instances}
use Rattle.tc_unify.specs.Nodes.{and_last, applied, Shape, VariableNode, AtomNode, NumberNode, ApplyNode, tree_of_node, IsTerm, IsHead, IsPlain, IsInOrder, InOrder, IsLabelling, label_within, label}
use Rattle.tc_unify.specs.Walks.{NamesAll}

-- a term that can have one argument more
abbrev pub IsSpine : Tree → Type 0
IsSpine (Atomic name) = Unit {0}
IsSpine (Compound name args) = Unit {0}
IsSpine (Variable n) = ⊥
IsSpine (Number n) = ⊥

pub IsSpine-applied : (s x : Tree) → IsSpine (applied s x)
IsSpine-applied (Atomic name) x = tt
IsSpine-applied (Compound name args) x = tt
IsSpine-applied (Variable n) x = tt
IsSpine-applied (Number n) x = tt

pub IsSpine-head : (v F : ℕ → Tree) (s : Shape) → IsHead s → IsSpine (tree_of_node v F s)
IsSpine-head v F (VariableNode n) h = absurd h
IsSpine-head v F (AtomNode name) h = tt
IsSpine-head v F (NumberNode n) h = absurd h
IsSpine-head v F (ApplyNode head argument) h = IsSpine-applied (F head) (F argument)

-- the arguments without the last, where there are two or more
abbrev but_last : Trees → Trees
but_last (Last t) = Last t
but_last (More t (Last u)) = Last t
but_last (More t (More u us)) = More t (but_last (More u us))

abbrev last_of : Trees → Tree
last_of (Last t) = t
last_of (More t ts) = last_of ts

last_of-and_last : (ts : Trees) (x : Tree) → last_of (and_last ts x) ≡ x
last_of-and_last (Last t) x = refl
last_of-and_last (More t ts) x = last_of-and_last ts x

but_last-more : (t : Tree) (ts : Trees) (x : Tree) → but_last (More t (and_last ts x)) ≡ More t (but_last (and_last ts x))
but_last-more t (Last u) x = refl
but_last-more t (More u us) x = refl

but_last-and_last : (ts : Trees) (x : Tree) → but_last (and_last ts x) ≡ ts
but_last-and_last (Last t) x = refl
but_last-and_last (More t ts) x = but_last-more t ts x ∙ ap (More t) (but_last-and_last ts x)

-- the term without its last argument
abbrev pub front : Tree → Tree
front (Compound name (Last t)) = Atomic name
front (Compound name (More t ts)) = Compound name (but_last (More t ts))
front (Atomic name) = Atomic name
front (Variable n) = Variable n
front (Number n) = Number n

-- its last argument
abbrev pub last_argument : Tree → Tree
last_argument (Compound name args) = last_of args
last_argument (Atomic name) = Atomic name
last_argument (Variable n) = Variable n
last_argument (Number n) = Number n

front-compound : (name : List ℕ) (ts : Trees) (x : Tree) → front (Compound name (and_last ts x)) ≡ Compound name (but_last (and_last ts x))
front-compound name (Last t) x = refl
front-compound name (More t ts) x = refl

pub front-applied : (s x : Tree) → IsSpine s → front (applied s x) ≡ s
front-applied (Atomic name) x h = refl
front-applied (Compound name args) x h = front-compound name args x ∙ ap (Compound name) (but_last-and_last args x)
front-applied (Variable n) x h = absurd h
front-applied (Number n) x h = absurd h

pub last_argument-applied : (s x : Tree) → last_argument (applied s x) ≡ x
last_argument-applied (Atomic name) x = refl
last_argument-applied (Compound name args) x = last_of-and_last args x
last_argument-applied (Variable n) x = refl
last_argument-applied (Number n) x = refl

pub applied-injective : (s t x y : Tree) → IsSpine s → IsSpine t → applied s x ≡ applied t y → (s ≡ t) × (x ≡ y)
applied-injective s t x y h k e = (
  sym (front-applied s x h) ∙ ap front e ∙ front-applied t y k,
  sym (last_argument-applied s x) ∙ ap last_argument e ∙ last_argument-applied t y,
)

instances-and_last : (f : ℕ → Tree) (ts : Trees) (x : Tree) → instances f (and_last ts x) ≡ and_last (instances f ts) (instance f x)
instances-and_last f (Last t) x = refl
instances-and_last f (More t ts) x = ap (More (instance f t)) (instances-and_last f ts x)

pub instance-applied : (f : ℕ → Tree) (s x : Tree) → IsSpine s → instance f (applied s x) ≡ applied (instance f s) (instance f x)
instance-applied f (Atomic name) x h = refl
instance-applied f (Compound name args) x h = ap (Compound name) (instances-and_last f args x)
instance-applied f (Variable n) x h = absurd h
instance-applied f (Number n) x h = absurd h

nodes-and_last : (ts : Trees) (x : Tree) → nodes_of_all (and_last ts x) ≡ nodes_of_all ts + nodes x
nodes-and_last (Last t) x = refl
nodes-and_last (More t ts) x = omega (arith, nodes-and_last ts x)

pub nodes-applied : (s x : Tree) → IsSpine s → nodes (applied s x) ≡ nodes s + nodes x
nodes-applied (Atomic name) x h = refl
nodes-applied (Compound name args) x h = omega (arith, nodes-and_last args x)
nodes-applied (Variable n) x h = absurd h
nodes-applied (Number n) x h = absurd h

name_bytes-and_last : (ts : Trees) (x : Tree) → name_bytes_of_all (and_last ts x) ≡ name_bytes_of_all ts + name_bytes x
name_bytes-and_last (Last t) x = refl
name_bytes-and_last (More t ts) x = omega (arith, name_bytes-and_last ts x)

pub name_bytes-applied : (s x : Tree) → IsSpine s → name_bytes (applied s x) ≡ name_bytes s + name_bytes x
name_bytes-applied (Atomic name) x h = refl
name_bytes-applied (Compound name args) x h = omega (arith, name_bytes-and_last args x)
name_bytes-applied (Variable n) x h = absurd h
name_bytes-applied (Number n) x h = absurd h

depth-and_last : (ts : Trees) (x : Tree) → depth_of_all (and_last ts x) ≡ max (depth_of_all ts) (depth x)
depth-and_last (Last t) x = refl
depth-and_last (More t ts) x = omega (arith, depth-and_last ts x)

pub depth-positive : (t : Tree) → 1 ≤ depth t
depth-positive (Atomic name) = omega arith
depth-positive (Compound name args) = omega arith
depth-positive (Variable n) = omega arith
depth-positive (Number n) = omega arith

pub depth-applied : (s x : Tree) → IsSpine s → depth (applied s x) ≡ max (depth s) (1 + depth x)
depth-applied (Atomic name) x h = omega (arith, depth-positive x)
depth-applied (Compound name args) x h = omega (arith, depth-and_last args x)
depth-applied (Variable n) x h = absurd h
depth-applied (Number n) x h = absurd h

pub nodes-positive : (t : Tree) → 1 ≤ nodes t
nodes-positive (Atomic name) = omega arith
nodes-positive (Compound name args) = omega arith
nodes-positive (Variable n) = omega arith
nodes-positive (Number n) = omega arith

pub tree_of_node-same : (v F G : ℕ → Tree) (s : Shape) → ((k : ℕ) → F k ≡ G k) → tree_of_node v F s ≡ tree_of_node v G s
tree_of_node-same v F G (VariableNode n) e = refl
tree_of_node-same v F G (AtomNode name) e = refl
tree_of_node-same v F G (NumberNode n) e = refl
tree_of_node-same v F G (ApplyNode head argument) e = ap₂ applied (e head) (e argument)

-- only a variable's tree depends on the variables
pub tree_of_node-term : (v w F : ℕ → Tree) (s : Shape) → IsTerm s → tree_of_node v F s ≡ tree_of_node w F s
tree_of_node-term v w F (VariableNode n) h = absurd h
tree_of_node-term v w F (AtomNode name) h = refl
tree_of_node-term v w F (NumberNode n) h = refl
tree_of_node-term v w F (ApplyNode head argument) h = refl

-- a depth that is enough for a node
abbrev IsDeep : (ℕ → Shape) → ℕ → ℕ → Type 0
IsDeep shape fuel k = (k + 1 < fuel) ⊎ (IsPlain (shape k) × (0 < fuel))

tree_of_node-below : (shape : ℕ → Shape) (v F G : ℕ → Tree) (fuel k : ℕ) (s : Shape) → IsInOrder shape k s → (IsPlain s ⊎ (k < fuel)) → ((j : ℕ) → IsDeep shape fuel j → F j ≡ G j) → tree_of_node v F s ≡ tree_of_node v G s
tree_of_node-below shape v F G fuel k (VariableNode n) h d e = refl
tree_of_node-below shape v F G fuel k (AtomNode name) h d e = refl
tree_of_node-below shape v F G fuel k (NumberNode n) h d e = refl
tree_of_node-below shape v F G fuel k (ApplyNode head argument) h (inl d) e = absurd d
tree_of_node-below shape v F G fuel k (ApplyNode head argument) h (inr d) e =
    ap₂ applied
    (e head (elim h.1 [ inl plain ↦ inr (plain, omega arith) | inr below ↦ inl (omega arith) ]))
    (e argument (elim h.2 [ inl plain ↦ inr (plain, omega arith) | inr below ↦ inl (omega arith) ]))

deep_enough : (shape : ℕ → Shape) (fuel k : ℕ) → IsDeep shape (suc fuel) k → IsPlain (shape k) ⊎ (k < fuel)
deep_enough shape fuel k (inl d) = inr (omega arith)
deep_enough shape fuel k (inr d) = inl d.0

label_within-same : (shape : ℕ → Shape) (v : ℕ → Tree) → InOrder shape → (f g k : ℕ) → IsDeep shape f k → IsDeep shape g k → label_within f shape v k ≡ label_within g shape v k
label_within-same shape v o zero g k d e = absurd (elim d [ inl low ↦ omega arith | inr free ↦ (let low = free.1 in omega arith) ])
label_within-same shape v o (suc f) zero k d e = absurd (elim e [ inl low ↦ omega arith | inr free ↦ (let low = free.1 in omega arith) ])
label_within-same shape v o (suc f) (suc g) k d e =
    tree_of_node-below shape v (label_within f shape v) (label_within g shape v) (min f g) k (shape k) (o k)
    (both (deep_enough shape f k d) (deep_enough shape g k e))
    (λ j deep. label_within-same shape v o f g j (left j deep) (right j deep))
  where
    both : (IsPlain (shape k) ⊎ (k < f)) → (IsPlain (shape k) ⊎ (k < g)) → IsPlain (shape k) ⊎ (k < min f g)
    both (inl free) h = inl free
    both (inr low) (inl free) = inl free
    both (inr low) (inr lower) = inr (omega arith)

    left : (j : ℕ) → IsDeep shape (min f g) j → IsDeep shape f j
    left j (inl low) = inl (omega arith)
    left j (inr free) = inr (free.0, (let some = free.1 in omega arith))

    right : (j : ℕ) → IsDeep shape (min f g) j → IsDeep shape g j
    right j (inl low) = inl (omega arith)
    right j (inr free) = inr (free.0, (let some = free.1 in omega arith))

label_within-unique : (shape : ℕ → Shape) (v F : ℕ → Tree) → InOrder shape → IsLabelling shape v F → (f k : ℕ) → IsDeep shape f k → F k ≡ label_within f shape v k
label_within-unique shape v F o l zero k d = absurd (elim d [ inl low ↦ omega arith | inr free ↦ (let low = free.1 in omega arith) ])
label_within-unique shape v F o l (suc f) k d =
    l k ∙ tree_of_node-below shape v F (label_within f shape v) f k (shape k) (o k) (deep_enough shape f k d) (λ j e. label_within-unique shape v F o l f j e)

-- where the nodes that a node names have a property
tree_of_node-within : (P : ℕ → Type 0) (v F G : ℕ → Tree) (s : Shape) → NamesAll P s → ((j : ℕ) → P j → F j ≡ G j) → tree_of_node v F s ≡ tree_of_node v G s
tree_of_node-within P v F G (VariableNode n) h e = refl
tree_of_node-within P v F G (AtomNode name) h e = refl
tree_of_node-within P v F G (NumberNode n) h e = refl
tree_of_node-within P v F G (ApplyNode head argument) h e = ap₂ applied (e head h.0) (e argument h.1)

label_within-agree : (shape other : ℕ → Shape) (v : ℕ → Tree) (P : ℕ → Type 0) → ((k : ℕ) → P k → shape k ≡ other k) → ((k : ℕ) → P k → NamesAll P (shape k)) → (f k : ℕ) → P k → label_within f shape v k ≡ label_within f other v k
label_within-agree shape other v P same kids zero k p = refl
label_within-agree shape other v P same kids (suc f) k p =
    tree_of_node-within P v (label_within f shape v) (label_within f other v) (shape k) (kids k p) (label_within-agree shape other v P same kids f)
    ∙ ap (tree_of_node v (label_within f other v)) (same k p)

-- the trees of the variables fix those of all nodes
pub label-unique : (shape : ℕ → Shape) (v F : ℕ → Tree) → InOrder shape → IsLabelling shape v F → (k : ℕ) → F k ≡ label shape v k
unfolding label
label-unique shape v F o l k = label_within-unique shape v F o l (suc (suc k)) k (inl (omega arith))

pub label-labels : (shape : ℕ → Shape) (v : ℕ → Tree) → InOrder shape → IsLabelling shape v (label shape v)
unfolding label
label-labels shape v o k =
    tree_of_node-below shape v (label_within (suc k) shape v) (label shape v) (suc k) k (shape k) (o k) (inr (omega arith))
    (λ j deep. label_within-same shape v o (suc k) (suc (suc j)) j deep (inl (omega arith)))

pub IsSpine-label : (shape : ℕ → Shape) (v : ℕ → Tree) (k : ℕ) → IsHead (shape k) → IsSpine (label shape v k)
unfolding label
IsSpine-label shape v k h = IsSpine-head v (label_within (suc k) shape v) (shape k) h

instance-tree_of_node : (f F : ℕ → Tree) (shape : ℕ → Shape) (k : ℕ) (s : Shape) → IsInOrder shape k s → ((j : ℕ) → IsHead (shape j) → IsSpine (F j)) → instance f (tree_of_node Variable F s) ≡ tree_of_node f (λ j. instance f (F j)) s
instance-tree_of_node f F shape k (VariableNode n) o h = refl
instance-tree_of_node f F shape k (AtomNode name) o h = refl
instance-tree_of_node f F shape k (NumberNode n) o h = refl
instance-tree_of_node f F shape k (ApplyNode head argument) o h = instance-applied f (F head) (F argument) (h head o.0)

-- the tree of a node with trees for its variables is its tree where the variables have those
pub instance-label : (shape : ℕ → Shape) (f : ℕ → Tree) → InOrder shape → (k : ℕ) → instance f (label shape Variable k) ≡ label shape f k
instance-label shape f o =
    label-unique shape f (λ k. instance f (label shape Variable k)) o
    (λ k. ap (instance f) (label-labels shape Variable o k) ∙ instance-tree_of_node f (label shape Variable) shape k (shape k) (o k) (IsSpine-label shape Variable))

-- nodes below a number that have the same shapes in two arenas have the same trees there
pub label-same : (shape other : ℕ → Shape) (v : ℕ → Tree) (P : ℕ → Type 0) → ((k : ℕ) → P k → shape k ≡ other k) → ((k : ℕ) → P k → NamesAll P (shape k)) → (k : ℕ) → P k → label shape v k ≡ label other v k
unfolding label
label-same shape other v P same kids k p = label_within-agree shape other v P same kids (suc (suc k)) k p
