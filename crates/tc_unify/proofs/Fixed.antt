-- Values of nodes and terms: what every solution makes of them, argument by argument.
use Rattle.std.proofs.Common.{◌≡◌, ℕ, ◌+◌, ◌-◌, ◌<◌, ◌≤◌, ◌==◌, inl, inr, cond, Bool, true, false, List, [], ◌∷◌, ◌++◌, length, reverse, refl, sym, ap, ◌∙◌, subst, arith, IsTrue, get_or, ℤ}
use Rattle.std.specs.Prelude.{Option, Some, None, IfSome, IfNone}
use Rattle.std.proofs.lemmas.Bool.Decides.{Decides-eqb}
use Rattle.tc_term.specs.Tree.{Tree, Variable, Atomic, Number, Compound, Trees, nodes, depth, name_bytes, is_ground}
use Rattle.tc_term.specs.Equations.{at, under}
use Rattle.tc_unify.specs.declared.nodes.TheConstants.{FIRST_VARIABLE}
use Rattle.tc_unify.specs.declared.nodes.Arena.{Arena}
use Rattle.tc_unify.specs.declared.nodes.Node.{Node}
use Rattle.tc_unify.specs.declared.nodes.Node.TheVariants.{Int}
use Rattle.tc_term.specs.declared.terms.Term.{Term}
use Rattle.tc_term.specs.TreeView.{tree_of, trees_of}
use Rattle.tc_term.specs.Variables.{raised}
use Rattle.tc_unify.proofs.Copied.{applied_over-of_term}
use Rattle.tc_unify.specs.declared.links.Links.{Links}
use Rattle.tc_term.specs.declared.limits.Room.{Room}
use Rattle.tc_unify.specs.Nodes.{applied, applied_over, VariableNode, tree_of_node, label}
use Rattle.tc_unify.specs.Links.{root}
use Rattle.tc_unify.specs.Solutions.{IsSolution}
use Rattle.tc_unify.specs.Arena.{IsNodeOf, shape_of}
use Rattle.tc_unify.specs.Tables.{link_of}
use Rattle.tc_term.specs.Room.{IsWithin, TakesRoom}
use Rattle.tc_unify.specs.Values.{AreSolved, IsFixed, IsValue, of_node, of_term}
use Rattle.tc_unify.proofs.Labels.{depth-positive, nodes-positive, IsSpine, IsSpine-applied, applied-injective, nodes-applied, depth-applied, name_bytes-applied, label-labels}
use Rattle.tc_unify.proofs.Roots.{root-tree}
use Rattle.tc_unify.proofs.Finite.{choice_trees, choice_trees-solve, choice_trees-free}
use Rattle.tc_unify.proofs.Solutions.{finite_nodes}
use Rattle.tc_unify.proofs.Solving.{variable_at, are_variables}
use Rattle.tc_unify.proofs.Arenas.{shape_in-variable, shape_of-read}
use Rattle.tc_unify.proofs.Meetings.{root_node}
use Rattle.tc_unify.proofs.Spines.{IsSpine-applied_over, applied_over-push, applied_over-injective, nodes-applied_over, depth-applied_over, name_bytes-applied_over}

-- the values of the first arguments, and then the other arguments, make the whole
abbrev pub Builds : {X : Type 0} → Arena → Links → (List Tree → X → Tree) → (List Tree → Tree) → List ℕ → List Term → List X → Type 0
Builds a l F V name values xs =
    (v : List Tree) → IsSolution a.variables (shape_of a) (link_of l) v
    → V v ≡ applied_over (F v) (applied_over tree_of (Atomic name) values) xs

-- one argument more is spent
pub IsSpent-applied : (s u : Tree) (limit : ℕ) (room left next : Room) → IsSpine s → 0 < limit → TakesRoom s limit room left → TakesRoom u (limit - 1) left next → TakesRoom (applied s u) limit room next
IsSpent-applied s u limit room left next spine some spent more = record {
  nodes = omega (arith, nodes-applied s u spine, spent.nodes, more.nodes);
  depth = omega (arith, depth-applied s u spine, spent.depth, more.depth, some);
  name_bytes = omega (arith, name_bytes-applied s u spine, spent.name_bytes, more.name_bytes);
}

-- a choice for the unbound variables in which one of them has a name
abbrev named : ℕ → ℕ → Tree
named n m = cond (m == n) (Atomic (0 ∷ [])) (Atomic [])

named-at : (n m : ℕ) → m ≡ n → named n m ≡ Atomic (0 ∷ [])
named-at n m e = ap (λ b. cond b (Atomic (0 ∷ [])) (Atomic [])) ((Decides-eqb m n).1 e)

named-ground : (n m : ℕ) → IsTrue (is_ground (named n m))
named-ground n m = by_test (m == n)
  where
    by_test : (b : Bool) → IsTrue (is_ground (cond b (Atomic (0 ∷ [])) (Atomic [])))
    by_test true = refl
    by_test false = refl

named-past : (n count m : ℕ) → n < count → count ≤ m → named n m ≡ Atomic []
named-past n count m below past = by_test (m == n) refl
  where
    by_test : (b : Bool) → (m == n) ≡ b → cond b (Atomic (0 ∷ [])) (Atomic []) ≡ Atomic []
    by_test true e = (let same = (Decides-eqb m n).0 e in absurd (omega arith))
    by_test false e = refl

module _ (a : Arena) (l : Links) (solved : AreSolved a l) where
  -- the linked nodes of a solution have one tree
  pub of_root : (v : List Tree) (k r : ℕ) → r ≡ root (link_of l) k → IsSolution a.variables (shape_of a) (link_of l) v → of_node a k v ≡ of_node a r v
  of_root v k r e solution = root-tree (link_of l) (label (shape_of a) (at v)) solution.respects k ∙ ap (label (shape_of a) (at v)) (sym e)

  choice : (ℕ → Tree) → Type 0
  choice c = ((n : ℕ) → IsTrue (is_ground (c n))) × ((n : ℕ) → a.variables ≤ n → c n ≡ Atomic [])

  -- a choice for the unbound variables is the tree of some solution
  chosen : (c : ℕ → Tree) → ((n : ℕ) → IsTrue (is_ground (c n))) → ((n : ℕ) → a.variables ≤ n → c n ≡ Atomic []) → (k n : ℕ) → shape_of a (root (link_of l) k) ≡ VariableNode n
      → (t : Tree) → IsFixed a l (of_node a k) t → c n ≡ t
  chosen c ground past k n free t fixed =
      let variables = are_variables a l solved.linked in
      let finite = finite_nodes a.variables (shape_of a) (link_of l) solved.solution solved.linked.linked solved.solves in
      let trees = choice_trees a.variables (shape_of a) (link_of l) variable_at solved.linked.linked solved.alike finite variables.shapes variables.only variables.past c ground past in
      sym (choice_trees-free a.variables (shape_of a) (link_of l) variable_at solved.linked.linked solved.alike finite variables.shapes variables.only variables.past c ground past k n free)
      ∙ fixed trees (choice_trees-solve a.variables (shape_of a) (link_of l) variable_at solved.linked.linked solved.alike finite variables.shapes variables.only variables.past c ground past)

  -- an unbound variable has no value
  pub free_is_not_fixed : (k r : ℕ) → IsNodeOf a k → r ≡ root (link_of l) k → FIRST_VARIABLE ≤ r → (t : Tree) → IsFixed a l (of_node a k) t → ⊥
  free_is_not_fixed k r inside e above t fixed =
      let n = r - FIRST_VARIABLE in
      let free : shape_of a (root (link_of l) k) ≡ VariableNode n = ap (shape_of a) (sym e) ∙ shape_in-variable a.nodes.items a.text.items r above in
      let below : n < a.variables = variable_below (subst (IsNodeOf a) (sym e) (root_node a l solved.linked k inside)) in
      let one = chosen (named n) (named-ground n) (λ m past. named-past n a.variables m below past) k n free t fixed in
      let other = chosen (λ m. Atomic []) (λ m. refl) (λ m past. refl) k n free t fixed in
      let differ : Atomic (0 ∷ []) ≡ Atomic [] = sym (named-at n n refl) ∙ one ∙ sym other in
      absurd (cc)
    where
      variable_below : IsNodeOf a r → r - FIRST_VARIABLE < a.variables
      variable_below (inl h) = (let few = solved.linked.arena.few in absurd (omega arith))
      variable_below (inr h) = (let high = h.0 in let low = h.1 in omega arith)

  -- where the next argument has no value within the room that is left, the whole has none
  pub next_is_not_fixed : {X : Type 0} (F : List Tree → X → Tree) (V : List Tree → Tree) (s : Tree) (x : X) (xs : List X) (limit : ℕ) (room left : Room)
      → IsSpine s → 0 < limit → TakesRoom s limit room left
      → ((v : List Tree) → IsSolution a.variables (shape_of a) (link_of l) v → V v ≡ applied_over (F v) s (x ∷ xs))
      → ((t : Tree) → IsFixed a l (λ v. F v x) t → IsWithin t (limit - 1) left → ⊥)
      → (t : Tree) → IsFixed a l V t → IsWithin t limit room → ⊥
  next_is_not_fixed F V s x xs limit room left spine some spent whole none t fixed within =
      let v0 = solved.solution in
      let u = F v0 x in
      let all : t ≡ applied_over (F v0) (applied s u) xs = sym (fixed v0 solved.solves) ∙ whole v0 solved.solves in
      let same : IsFixed a l (λ v. F v x) u =
      λ v solution. (applied-injective s s (F v x) u spine spine
      (applied_over-injective (F v) (F v0) (applied s (F v x)) (applied s u) xs (IsSpine-applied s (F v x)) (IsSpine-applied s u) (sym (whole v solution) ∙ fixed v solution ∙ all))).1 in
      let head = IsSpine-applied s u in
      none u same (record {
        nodes = omega (arith, ap nodes all, nodes-applied_over (F v0) (applied s u) xs head, nodes-applied s u spine, spent.nodes, within.nodes);
        depth = omega (arith, ap depth all, depth-applied_over (F v0) (applied s u) xs head, depth-applied s u spine, within.depth);
        name_bytes = omega (arith, ap name_bytes all, name_bytes-applied_over (F v0) (applied s u) xs head, name_bytes-applied s u spine, spent.name_bytes, within.name_bytes);
      })

  -- where there is no room for the node itself, there is none for the whole
  pub full_is_not_within : (t : Tree) (limit : ℕ) (room : Room) (bytes : ℕ) → bytes ≤ name_bytes t → (0 < limit → 0 < room.nodes → bytes ≤ room.name_bytes → ⊥) → IsWithin t limit room → ⊥
  full_is_not_within t limit room bytes least full within =
      full (omega (arith, depth-positive t, within.depth)) (omega (arith, nodes-positive t, within.nodes)) (omega (arith, least, within.name_bytes))

  module _ {X : Type 0} (F : List Tree → X → Tree) (V : List Tree → Tree) (name : List ℕ) (values : List Term) (x : X) (xs rest : List X) (limit : ℕ) (room left : Room)
      (next : xs ≡ x ∷ rest) (some : 0 < limit) (spent : TakesRoom (applied_over tree_of (Atomic name) values) limit room left) (builds : Builds a l F V name values xs) where
    so_far : Tree
    so_far = applied_over tree_of (Atomic name) values

    pub none_next : (found : Option Term) (after : Room) → found ≡ None → IsValue a l (λ v. F v x) (limit - 1) left after found → (t : Tree) → IsFixed a l V t → IsWithin t limit room → ⊥
    unfolding so_far
    none_next found after is value =
        next_is_not_fixed F V so_far x rest limit room left (IsSpine-applied_over tree_of (Atomic name) values tt) some spent
        (λ v solution. builds v solution ∙ ap (applied_over (F v) so_far) next)
        (subst (λ f. IfNone f ((t : Tree) → IsFixed a l (λ v. F v x) t → IsWithin t (limit - 1) left → ⊥)) is value.none)

    module _ (found : Option Term) (after : Room) (y : Term) (more : List Term) (is : found ≡ Some y) (value : IsValue a l (λ v. F v x) (limit - 1) left after found) (pushed : more ≡ values ++ y ∷ []) where
      its : IsFixed a l (λ v. F v x) (tree_of y) × TakesRoom (tree_of y) (limit - 1) left after
      its = subst (λ f. IfSome f (λ t. IsFixed a l (λ v. F v x) (tree_of t) × TakesRoom (tree_of t) (limit - 1) left after)) is value.value

      one_more : applied_over tree_of (Atomic name) more ≡ applied so_far (tree_of y)
      unfolding so_far
      one_more = ap (applied_over tree_of (Atomic name)) pushed ∙ applied_over-push tree_of (Atomic name) values y

      pub spent_next : TakesRoom (applied_over tree_of (Atomic name) more) limit room after
      unfolding so_far
      spent_next =
          subst (λ t. TakesRoom t limit room after) (sym one_more)
          (IsSpent-applied so_far (tree_of y) limit room left after (IsSpine-applied_over tree_of (Atomic name) values tt) some spent its.1)

      pub builds_next : Builds a l F V name more rest
      unfolding so_far
      builds_next v solution =
          builds v solution ∙ ap (applied_over (F v) so_far) next
          ∙ ap (λ t. applied_over (F v) (applied so_far t) rest) (its.0 v solution)
          ∙ ap (λ t. applied_over (F v) t rest) (sym one_more)

  -- the head of a compound, or an atom, is taken first
  pub IsSpent-head : (name : List ℕ) (values : List Term) (limit : ℕ) (room left : Room) (bytes : ℕ) → values ≡ [] → bytes ≡ length name → 0 < limit → left.nodes + 1 ≡ room.nodes → left.name_bytes + bytes ≡ room.name_bytes
      → TakesRoom (applied_over tree_of (Atomic name) values) limit room left
  IsSpent-head name values limit room left bytes none size some nodes name_bytes =
      subst (λ ts. TakesRoom (applied_over tree_of (Atomic name) ts) limit room left) (sym none)
      (record { nodes = nodes; depth = some; name_bytes = omega (arith, size, name_bytes) })

  -- the name of a compound is among its names
  pub name_least : {X : Type 0} (F : List Tree → X → Tree) (V : List Tree → Tree) (name : List ℕ) (xs : List X) (bytes : ℕ) → bytes ≡ length name → Builds a l F V name [] xs
      → (t : Tree) → IsFixed a l V t → bytes ≤ name_bytes t
  name_least F V name xs bytes size builds t fixed =
      let v0 = solved.solution in
      let all : t ≡ applied_over (F v0) (Atomic name) xs = sym (fixed v0 solved.solves) ∙ builds v0 solved.solves in
      omega (arith, ap name_bytes all, name_bytes-applied_over (F v0) (Atomic name) xs tt, size)

  pub full_value : (V : List Tree → Tree) (limit : ℕ) (room left : Room) (bytes : ℕ) → ((t : Tree) → IsFixed a l V t → bytes ≤ name_bytes t) → (0 < limit → 0 < room.nodes → bytes ≤ room.name_bytes → ⊥)
      → IsValue a l V limit room left None
  full_value V limit room left bytes least full = record { value = tt; none = λ t fixed within. full_is_not_within t limit room bytes (least t fixed) full within }

  pub leaf_value : (V : List Tree → Tree) (y : Term) (limit : ℕ) (room left : Room) (bytes : ℕ) → IsFixed a l V (tree_of y) → nodes (tree_of y) ≡ 1 → depth (tree_of y) ≡ 1 → name_bytes (tree_of y) ≡ bytes
      → 0 < limit → left.nodes + 1 ≡ room.nodes → left.name_bytes + bytes ≡ room.name_bytes → IsValue a l V limit room left (Some y)
  leaf_value V y limit room left bytes fixed one high size some node_taken name_taken = record {
    value = (
      fixed,
      record {
        nodes = omega (arith, one, node_taken);
        depth = omega (arith, high, some);
        name_bytes = omega (arith, size, name_taken);
      },
    );
    none = tt;
  }

  pub free_value : (k r : ℕ) → IsNodeOf a k → r ≡ root (link_of l) k → FIRST_VARIABLE ≤ r → (limit : ℕ) (room : Room) → IsValue a l (of_node a k) limit room room None
  free_value k r inside e above limit room = record { value = tt; none = λ t fixed within. free_is_not_fixed k r inside e above t fixed }

  pub none_value : (V : List Tree → Tree) (limit : ℕ) (room left : Room) → ((t : Tree) → IsFixed a l V t → IsWithin t limit room → ⊥) → IsValue a l V limit room left None
  none_value V limit room left none = record { value = tt; none = none }

  pub built_value : {X : Type 0} (F : List Tree → X → Tree) (V : List Tree → Tree) (name : List ℕ) (values : List Term) (xs : List X) (y : Term) (limit : ℕ) (room left : Room)
      → xs ≡ [] → tree_of y ≡ applied_over tree_of (Atomic name) values → TakesRoom (applied_over tree_of (Atomic name) values) limit room left → Builds a l F V name values xs → IsValue a l V limit room left (Some y)
  built_value F V name values xs y limit room left none made spent builds = record {
    value = (
      λ v solution. builds v solution ∙ ap (applied_over (F v) (applied_over tree_of (Atomic name) values)) none ∙ sym made,
      subst (λ t. TakesRoom t limit room left) (sym made) spent,
    );
    none = tt;
  }

  -- the spine of a node
  pub spine_builds : (k r : ℕ) (name : List ℕ) (values : List Term) (arguments : List ℕ) (bytes : List ℕ) → r ≡ root (link_of l) k → name ≡ bytes → values ≡ []
      → ((v : ℕ → Tree) → label (shape_of a) v r ≡ applied_over (label (shape_of a) v) (Atomic bytes) (reverse arguments))
      → Builds a l (λ v. label (shape_of a) (at v)) (of_node a k) name values (reverse arguments)
  spine_builds k r name values arguments bytes e same none tree v solution =
      of_root v k r e solution ∙ tree (at v)
      ∙ ap (λ n. applied_over (label (shape_of a) (at v)) (Atomic n) (reverse arguments)) (sym same)
      ∙ ap (λ ts. applied_over (label (shape_of a) (at v)) (applied_over tree_of (Atomic name) ts) (reverse arguments)) (sym none)

  -- the node of a number
  pub number_fixed : (k r : ℕ) (x : Node) (n : ℤ) → r ≡ root (link_of l) k → r < length a.nodes.items → x ≡ get_or a.nodes.items r x → x ≡ Int n → IsFixed a l (of_node a k) (Number n)
  number_fixed k r x n e below read is v solution =
      of_root v k r e solution ∙ label-labels (shape_of a) (at v) solved.linked.linked.order r
      ∙ ap (tree_of_node (at v) (label (shape_of a) (at v))) (shape_of-read a r x (Int n) solved.linked.arena below read is)

  -- the arguments of a compound
  pub term_builds : (shift : ℕ) (t : Term) (name : List ℕ) (args : Trees) (items values : List Term) → tree_of t ≡ Compound name args → trees_of items ≡ args → 0 < length items → values ≡ []
      → Builds a l (λ v x. of_term shift x v) (of_term shift t) name values items
  term_builds shift t name args items values compound seen some none v solution =
      applied_over-of_term shift v (tree_of t) name args items compound seen some
      ∙ ap (λ ts. applied_over (λ x. of_term shift x v) (applied_over tree_of (Atomic name) ts) items) (sym none)

  -- a variable is its node
  pub of_variable : (shift : ℕ) (t : Term) (n k : ℕ) → tree_of t ≡ Variable n → k ≡ FIRST_VARIABLE + (n + shift) → (v : List Tree) → of_node a k v ≡ of_term shift t v
  of_variable shift t n k is at_node v =
      label-labels (shape_of a) (at v) solved.linked.arena.order k
      ∙ ap (tree_of_node (at v) (label (shape_of a) (at v))) (shape_in-variable a.nodes.items a.text.items k (omega arith))
      ∙ (let same : k - FIRST_VARIABLE ≡ n + shift = omega arith in ap (at v) same)
      ∙ sym (ap (λ u. under v (raised shift u)) is)
