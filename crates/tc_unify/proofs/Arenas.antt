-- The arena: what its nodes are, also once it grows or is cut.
use mathlib.Core.List.{IsPrefix}
use Rattle.std.proofs.Common.{◌≡◌, ◌≢◌, ℕ, ◌+◌, ◌-◌, ◌<◌, ◌≤◌, ◌⊎◌, inl, inr, List, [], ◌∷◌, ◌++◌, length, length-append, length-drop, take, drop, get_or, refl, sym, ap, ap₂, ◌∙◌, subst, arith, Bool, cond, ℤ}
use Rattle.std.proofs.lemmas.Bool.Decides.{Decides-ltb}
use Rattle.std.proofs.lemmas.Bool.{cases_lt, cases_order, le-ltb}
use Rattle.std.proofs.lemmas.List.{take-append-le, drop-append-le, length-take-le, get_or_default}
use Rattle.std.proofs.lemmas.List.Elements.{All-nil, All-cons, All-get_or, All-push, All-weaker}
use Rattle.std.proofs.Math.ListN.{get_or-eq_default}
use Rattle.std.proofs.Math.Seq.{get_or-append_seam}
use Rattle.std.proofs.Math.Path.{fun_ext}
use Rattle.tc_term.specs.Tree.{Tree, Variable, Atomic, Number}
use Rattle.tc_unify.specs.declared.names.TheConstants.{SHORT, SHORT_NAMES}
use Rattle.tc_unify.specs.declared.nodes.TheConstants.{FIRST_NAME, FIRST_VARIABLE}
use Rattle.tc_unify.specs.Names.{name_at}
use Rattle.tc_unify.specs.declared.nodes.Node.{Node}
use Rattle.tc_unify.specs.declared.nodes.Node.TheVariants.{Atom, Int, Apply}
use Rattle.tc_unify.specs.Nodes.{Shape, VariableNode, AtomNode, NumberNode, ApplyNode, IsVariable, IsTerm, IsHead, IsPlain, IsInOrder, InOrder, tree_of_node, applied, label}
use Rattle.tc_unify.proofs.Labels.{label-same, label-labels}
use Rattle.tc_unify.specs.Walks.{NamesAll}
use Rattle.tc_unify.specs.Arena.{node_shape, outer_shape, shape_in, IsInside, HasLink, IsNodeWithin, IsArenaOf, IsArena, IsNodeOf, AreNodesOf, Grows, IsNodeFor, IsHeadFor, shape_of, node_tree}
use Rattle.tc_unify.specs.declared.nodes.Arena.{Arena}
use Rattle.std.specs.Prelude.{bytes_eq, slice_range, Decides}
use Rattle.std.proofs.lemmas.Slice.Eq.{bytes_eq-Decides}
use Rattle.tc_lists.proofs.Parts.{take-drop-append}
use Rattle.tc_lists.proofs.Prefixes.{IsPrefix-append, IsPrefix-trans, IsPrefix-whole, get_or-IsPrefix, length-IsPrefix}

-- what a term's node is
pub shape_in-term : (nodes : List Node) (text : List ℕ) (k : ℕ) → k < FIRST_NAME → shape_in nodes text k ≡ node_shape text (get_or nodes k (Atom 0 0))
unfolding shape_in
shape_in-term nodes text k h =
    ap (λ b. cond b (node_shape text (get_or nodes k (Atom 0 0))) (outer_shape k)) ((Decides-ltb k FIRST_NAME).1 h)

-- what the nodes above those of terms are
pub shape_in-outer : (nodes : List Node) (text : List ℕ) (k : ℕ) → FIRST_NAME ≤ k → shape_in nodes text k ≡ outer_shape k
unfolding shape_in
shape_in-outer nodes text k h =
    ap (λ b. cond b (node_shape text (get_or nodes k (Atom 0 0))) (outer_shape k)) (le-ltb k FIRST_NAME h)

outer_shape-name : (k : ℕ) → k < FIRST_VARIABLE → outer_shape k ≡ AtomNode (name_at (k - FIRST_NAME))
unfolding outer_shape
outer_shape-name k h =
    ap (λ b. cond b (AtomNode (name_at (k - FIRST_NAME))) (VariableNode (k - FIRST_VARIABLE))) ((Decides-ltb k FIRST_VARIABLE).1 h)

outer_shape-variable : (k : ℕ) → FIRST_VARIABLE ≤ k → outer_shape k ≡ VariableNode (k - FIRST_VARIABLE)
unfolding outer_shape
outer_shape-variable k h =
    ap (λ b. cond b (AtomNode (name_at (k - FIRST_NAME))) (VariableNode (k - FIRST_VARIABLE))) (le-ltb k FIRST_VARIABLE h)

pub shape_in-name : (nodes : List Node) (text : List ℕ) (k : ℕ) → FIRST_NAME ≤ k → k < FIRST_VARIABLE → shape_in nodes text k ≡ AtomNode (name_at (k - FIRST_NAME))
shape_in-name nodes text k h i = shape_in-outer nodes text k h ∙ outer_shape-name k i

pub shape_in-variable : (nodes : List Node) (text : List ℕ) (k : ℕ) → FIRST_VARIABLE ≤ k → shape_in nodes text k ≡ VariableNode (k - FIRST_VARIABLE)
shape_in-variable nodes text k h = shape_in-outer nodes text k (omega arith) ∙ outer_shape-variable k h

outer_shape-plain : (k : ℕ) → IsPlain (outer_shape k)
outer_shape-plain k =
    elim (cases_lt k FIRST_VARIABLE) [
      | inl name ↦ subst IsPlain (sym (outer_shape-name k name)) tt
      | inr free ↦ subst IsPlain (sym (outer_shape-variable k free)) tt
    ]

pub outer_plain : (nodes : List Node) (text : List ℕ) (k : ℕ) → FIRST_NAME ≤ k → IsPlain (shape_in nodes text k)
outer_plain nodes text k h = subst IsPlain (sym (shape_in-outer nodes text k h)) (outer_shape-plain k)

-- a node with a link is inside
pub inside_link : (nodes : List Node) (count k : ℕ) → HasLink nodes count k → IsInside nodes count k
inside_link nodes count k (inl h) = inl h
inside_link nodes count k (inr h) = inr (omega (arith, h.0), h.1)

pub shape_in-node : (nodes : List Node) (text : List ℕ) (count k : ℕ) (node : Node) → IsArenaOf nodes text count → k < length nodes → node ≡ get_or nodes k node → shape_in nodes text k ≡ node_shape text node
shape_in-node nodes text count k node arena h e =
    let few = arena.few in
    shape_in-term nodes text k (omega arith) ∙ ap (node_shape text) (get_or_default nodes k (Atom 0 0) node h ∙ sym e)

-- what a read of the arena says of a node
pub shape_of-read : (a : Arena) (k : ℕ) (x node : Node) → IsArena a → k < length a.nodes.items → x ≡ get_or a.nodes.items k x → x ≡ node → shape_of a k ≡ node_shape a.text.items node
shape_of-read a k x node arena h read e =
    shape_in-node a.nodes.items a.text.items a.variables k x arena h read ∙ ap (node_shape a.text.items) e

-- an atom's name has as many bytes as its node says
pub name_length : (a : Arena) (k : ℕ) (x : Node) (from len : ℕ) → IsArena a → k < length a.nodes.items
    → x ≡ get_or a.nodes.items k x → x ≡ Atom from len → length (take len (drop from a.text.items)) ≡ len
name_length a k x from len arena h read e =
    let nodes = a.nodes.items in
    let text = a.text.items in
    let Within : Node → Type 0 = IsNodeWithin nodes text a.variables in
    let within : Within (Atom from len) =
    subst Within (get_or_default nodes k (Atom 0 0) x h ∙ sym read ∙ e) (All-get_or Within nodes k (Atom 0 0) h arena.within) in
    length-take-le len (drop from text) (omega (arith, within.0, length-drop from text))

-- names are compared as they stand in the text
pub names_decided : (text t u : List ℕ) (from len start size : ℕ) (r : Bool) → t ≡ text → u ≡ text → r ≡ bytes_eq (slice_range t from (from + len)) (slice_range u start (start + size)) → Decides r (take len (drop from text) ≡ take size (drop start text))
names_decided text t u from len start size r d e f =
    let left : slice_range t from (from + len) ≡ take len (drop from text) = ap₂ (λ n bytes. take n (drop from bytes)) (omega arith) d in
    let right : slice_range u start (start + size) ≡ take size (drop start text) = ap₂ (λ n bytes. take n (drop start bytes)) (omega arith) e in
    subst (λ b. Decides b (take len (drop from text) ≡ take size (drop start text))) (sym (f ∙ ap₂ bytes_eq left right))
    (bytes_eq-Decides (take len (drop from text)) (take size (drop start text)))

IsHead-term : (s : Shape) → IsHead s → IsTerm s
IsHead-term (VariableNode n) h = h
IsHead-term (AtomNode name) h = tt
IsHead-term (NumberNode n) h = tt
IsHead-term (ApplyNode head argument) h = tt

node_shape-not_variable : (text : List ℕ) (node : Node) → IsVariable (node_shape text node) → ⊥
node_shape-not_variable text (Atom from len) h = h
node_shape-not_variable text (Int n) h = h
node_shape-not_variable text (Apply head argument) h = h

pub variable_above : (nodes : List Node) (text : List ℕ) (k : ℕ) → IsVariable (shape_in nodes text k) → FIRST_VARIABLE ≤ k
variable_above nodes text k h =
    elim (cases_lt k FIRST_NAME) [
      | inl below ↦ absurd (node_shape-not_variable text (get_or nodes k (Atom 0 0)) (subst IsVariable (shape_in-term nodes text k below) h))
      | inr above ↦
          elim (cases_lt k FIRST_VARIABLE) [
            | inl name ↦ absurd (subst IsVariable (shape_in-name nodes text k above name) h)
            | inr free ↦ free
          ]
    ]

node_shape-term : (text : List ℕ) (node : Node) → IsTerm (node_shape text node)
node_shape-term text (Atom from len) = tt
node_shape-term text (Int n) = tt
node_shape-term text (Apply head argument) = tt

-- the nodes below the variables are those of terms
pub IsTerm-below : (nodes : List Node) (text : List ℕ) (k : ℕ) → k < FIRST_VARIABLE → IsTerm (shape_in nodes text k)
IsTerm-below nodes text k h =
    elim (cases_lt k FIRST_NAME) [
      | inl below ↦ subst IsTerm (sym (shape_in-term nodes text k below)) (node_shape-term text (get_or nodes k (Atom 0 0)))
      | inr above ↦ subst IsTerm (sym (shape_in-name nodes text k above h)) tt
    ]

pub term_below : (nodes : List Node) (text : List ℕ) (k : ℕ) → IsTerm (shape_in nodes text k) → k < FIRST_VARIABLE
term_below nodes text k h =
    elim (cases_lt k FIRST_VARIABLE) [ inl below ↦ below | inr above ↦ absurd (subst IsTerm (shape_in-variable nodes text k above) h) ]

name-begins : (text longer : List ℕ) (from len : ℕ) → IsPrefix text longer → from + len ≤ length text → take len (drop from longer) ≡ take len (drop from text)
name-begins text longer from len h i =
    ap (λ zs. take len (drop from zs)) (sym h.1)
    ∙ ap (take len) (drop-append-le from text h.0 (omega arith))
    ∙ take-append-le len (drop from text) h.0 (omega (arith, length-drop from text))

node_shape-begins : (nodes : List Node) (text longer : List ℕ) (count : ℕ) (node : Node) → IsPrefix text longer → IsNodeWithin nodes text count node → node_shape longer node ≡ node_shape text node
node_shape-begins nodes text longer count (Atom from len) h w = ap AtomNode (name-begins text longer from len h w.0)
node_shape-begins nodes text longer count (Int n) h w = refl
node_shape-begins nodes text longer count (Apply head argument) h w = refl

module _ (nodes more : List Node) (text longer : List ℕ) (count : ℕ) (arena : IsArenaOf nodes text count) (grows : IsPrefix nodes more) (text_grows : IsPrefix text longer) where
  node_at : (k : ℕ) → k < length nodes → IsNodeWithin nodes text count (get_or nodes k (Atom 0 0))
  node_at k h = All-get_or (IsNodeWithin nodes text count) nodes k (Atom 0 0) h arena.within

  -- nodes that stood there keep their shapes
  pub shape_in-grows : (k : ℕ) → IsInside nodes count k → shape_in more longer k ≡ shape_in nodes text k
  shape_in-grows k (inl h) =
      let few = arena.few in
      shape_in-term more longer k (omega arith)
      ∙ ap (node_shape longer) (get_or-IsPrefix nodes more k (Atom 0 0) grows h)
      ∙ node_shape-begins nodes text longer count (get_or nodes k (Atom 0 0)) text_grows (node_at k h)
      ∙ sym (shape_in-term nodes text k (omega arith))
  shape_in-grows k (inr h) = shape_in-outer more longer k h.0 ∙ sym (shape_in-outer nodes text k h.0)

  within_shape : (node : Node) → IsNodeWithin nodes text count node → NamesAll (IsInside nodes count) (node_shape text node)
  within_shape (Atom from len) h = tt
  within_shape (Int n) h = tt
  within_shape (Apply head argument) h = h

  plain_within : (s : Shape) → IsPlain s → NamesAll (IsInside nodes count) s
  plain_within (VariableNode n) h = tt
  plain_within (AtomNode name) h = tt
  plain_within (NumberNode n) h = tt
  plain_within (ApplyNode head argument) h = absurd h

  -- the nodes that a node names are inside
  pub inside_within : (k : ℕ) → IsInside nodes count k → NamesAll (IsInside nodes count) (shape_in nodes text k)
  inside_within k (inl h) =
      let few = arena.few in
      subst (NamesAll (IsInside nodes count)) (sym (shape_in-term nodes text k (omega arith))) (within_shape (get_or nodes k (Atom 0 0)) (node_at k h))
  inside_within k (inr h) = plain_within (shape_in nodes text k) (outer_plain nodes text k h.0)

  -- and their trees
  pub label-grows : (v : ℕ → Tree) (k : ℕ) → IsInside nodes count k → label (shape_in more longer) v k ≡ label (shape_in nodes text) v k
  label-grows v k h =
      sym (label-same (shape_in nodes text) (shape_in more longer) v (IsInside nodes count) (λ j i. sym (shape_in-grows j i)) inside_within k h)

-- a node may come next
abbrev pub IsNext : List Node → List ℕ → ℕ → Node → Type 0
IsNext nodes text count (Atom from len) = (from + len ≤ length text) × (SHORT < len)
IsNext nodes text count (Int n) = Unit {0}
IsNext nodes text count (Apply head argument) =
    IsHead (shape_in nodes text head) × IsInside nodes count head × IsInside nodes count argument

IsNext-within : (nodes : List Node) (text : List ℕ) (count : ℕ) (node : Node) → IsNext nodes text count node → IsNodeWithin nodes text count node
IsNext-within nodes text count (Atom from len) h = h
IsNext-within nodes text count (Int n) h = tt
IsNext-within nodes text count (Apply head argument) h = (h.1, h.2)

inside_more : (nodes : List Node) (node : Node) (count k : ℕ) → IsInside nodes count k → IsInside (nodes ++ node ∷ []) count k
inside_more nodes node count k (inl h) = inl (omega (arith, length-append nodes (node ∷ [])))
inside_more nodes node count k (inr h) = inr h

within_more : (nodes : List Node) (node : Node) (text : List ℕ) (count : ℕ) (m : Node) → IsNodeWithin nodes text count m → IsNodeWithin (nodes ++ node ∷ []) text count m
within_more nodes node text count (Atom from len) h = h
within_more nodes node text count (Int n) h = tt
within_more nodes node text count (Apply head argument) h = (inside_more nodes node count head h.0, inside_more nodes node count argument h.1)

order_of : (nodes : List Node) (text : List ℕ) (count k : ℕ) (other : ℕ → Shape) (s : Shape) → ((j : ℕ) → IsInside nodes count j → other j ≡ shape_in nodes text j) → NamesAll (IsInside nodes count) s → IsInOrder (shape_in nodes text) k s → IsInOrder other k s
order_of nodes text count k other (VariableNode n) e w h = tt
order_of nodes text count k other (AtomNode name) e w h = tt
order_of nodes text count k other (NumberNode n) e w h = tt
order_of nodes text count k other (ApplyNode head argument) e w h = (
  subst IsHead (sym (e head w.0)) h.0,
  elim h.1 [ inl plain ↦ inl (subst IsPlain (sym (e head w.0)) plain) | inr below ↦ inr below ],
  elim h.2 [ inl plain ↦ inl (subst IsPlain (sym (e argument w.1)) plain) | inr below ↦ inr below ],
)

module _ (nodes : List Node) (node : Node) (text : List ℕ) (count : ℕ) (arena : IsArenaOf nodes text count) (next : IsNext nodes text count node) (room : length nodes < FIRST_NAME) where
  pushed : ℕ → Shape
  pushed = shape_in (nodes ++ node ∷ []) text

  pub shape_in-pushed : shape_in (nodes ++ node ∷ []) text (length nodes) ≡ node_shape text node
  shape_in-pushed =
      shape_in-term (nodes ++ node ∷ []) text (length nodes) room ∙ ap (node_shape text) (get_or-append_seam nodes node [] (Atom 0 0))

  pushed-inside : (k : ℕ) → IsInside nodes count k → pushed k ≡ shape_in nodes text k
  unfolding pushed
  pushed-inside k h = shape_in-grows nodes (nodes ++ node ∷ []) text text count arena (IsPrefix-append nodes (node ∷ [])) (IsPrefix-whole text) k h

  within_next : (k : ℕ) → k < length nodes → NamesAll (IsInside nodes count) (shape_in nodes text k)
  within_next k h = inside_within nodes nodes text text count arena (IsPrefix-whole nodes) (IsPrefix-whole text) k (inl h)

  inside_order : (k : ℕ) → IsInside nodes count k → IsPlain (pushed k) ⊎ (k < length nodes)
  unfolding pushed
  inside_order k (inl h) = inr h
  inside_order k (inr h) = inl (outer_plain (nodes ++ node ∷ []) text k h.0)

  next_order : (m : Node) → IsNext nodes text count m → IsInOrder pushed (length nodes) (node_shape text m)
  next_order (Atom from len) h = tt
  next_order (Int n) h = tt
  next_order (Apply head argument) h =
      (subst IsHead (sym (pushed-inside head h.1)) h.0, inside_order head h.1, inside_order argument h.2)

  pushed_order : InOrder pushed
  unfolding pushed
  pushed_order k =
      elim (cases_order k (length nodes)) [
        | inl at ↦ subst (λ j. IsInOrder pushed j (pushed j)) (sym at) (subst (IsInOrder pushed (length nodes)) (sym shape_in-pushed) (next_order node next))
        | inr (inl below) ↦
            subst (IsInOrder pushed k) (sym (pushed-inside k (inl below)))
            (order_of nodes text count k pushed (shape_in nodes text k) pushed-inside (within_next k below) (arena.order k))
        | inr (inr above) ↦ past k above (cases_lt k FIRST_NAME)
      ]
    where
      plain_order : (k : ℕ) (s : Shape) → IsPlain s → IsInOrder pushed k s
      plain_order k (VariableNode n) h = tt
      plain_order k (AtomNode name) h = tt
      plain_order k (NumberNode n) h = tt
      plain_order k (ApplyNode head argument) h = absurd h

      past : (k : ℕ) → length nodes < k → ((k < FIRST_NAME) ⊎ (FIRST_NAME ≤ k)) → IsInOrder pushed k (pushed k)
      past k above (inl term) =
          subst (IsInOrder pushed k)
          (sym (shape_in-term (nodes ++ node ∷ []) text k term ∙ ap (node_shape text) (get_or-eq_default (nodes ++ node ∷ []) (Atom 0 0) (omega (arith, length-append nodes (node ∷ []))))))
          tt
      past k above (inr outer) = plain_order k (pushed k) (outer_plain (nodes ++ node ∷ []) text k outer)

  pub IsArenaOf-push : IsArenaOf (nodes ++ node ∷ []) text count
  unfolding pushed
  IsArenaOf-push = record {
    order = pushed_order;
    within = All-push (IsNodeWithin (nodes ++ node ∷ []) text count) nodes node
        (All-weaker (IsNodeWithin nodes text count) (IsNodeWithin (nodes ++ node ∷ []) text count) (within_more nodes node text count) nodes arena.within)
        (within_more nodes node text count node (IsNext-within nodes text count node next));
    few = omega (arith, length-append nodes (node ∷ []));
  }

-- what two nodes name is inside
pub named_nodes : (a : Arena) (j k f x g y : ℕ) → IsArena a → j < length a.nodes.items → k < length a.nodes.items → shape_of a j ≡ ApplyNode f x → shape_of a k ≡ ApplyNode g y → AreNodesOf a ((x, y) ∷ (f, g) ∷ [])
named_nodes a j k f x g y arena h i d e =
    let P : ℕ × ℕ → Type 0 = λ p. IsNodeOf a p.0 × IsNodeOf a p.1 in
    let nodes = a.nodes.items in
    let text = a.text.items in
    let within : (n : ℕ) → n < length nodes → NamesAll (IsNodeOf a) (shape_of a n) =
    λ n m. inside_within nodes nodes text text a.variables arena (IsPrefix-whole nodes) (IsPrefix-whole text) n (inl m) in
    let left = subst (NamesAll (IsNodeOf a)) d (within j h) in
    let right = subst (NamesAll (IsNodeOf a)) e (within k i) in
    All-cons P (x, y) ((f, g) ∷ []) (left.1, right.1) (All-cons P (f, g) [] (left.0, right.0) (All-nil P))

node_shape-plain : (text : List ℕ) (node : Node) → ((head argument : ℕ) → node ≢ Apply head argument) → IsPlain (node_shape text node)
node_shape-plain text (Atom from len) h = tt
node_shape-plain text (Int n) h = tt
node_shape-plain text (Apply head argument) h = absurd (h head argument refl)

-- a node that is no application names no other
pub plain_read : (a : Arena) (k : ℕ) (x : Node) → IsArena a → k < length a.nodes.items → x ≡ get_or a.nodes.items k x → ((head argument : ℕ) → x ≢ Apply head argument) → IsPlain (shape_of a k)
plain_read a k x arena h read differ =
    subst IsPlain (sym (shape_of-read a k x x arena h read refl)) (node_shape-plain a.text.items x differ)

pub named_node : (a : Arena) (k f x : ℕ) → IsArena a → k < length a.nodes.items → shape_of a k ≡ ApplyNode f x → IsNodeOf a f × IsNodeOf a x
named_node a k f x arena h e =
    let nodes = a.nodes.items in
    let text = a.text.items in
    subst (NamesAll (IsNodeOf a)) e (inside_within nodes nodes text text a.variables arena (IsPrefix-whole nodes) (IsPrefix-whole text) k (inl h))

-- longer text changes no node
shape_in-text : (nodes : List Node) (text longer : List ℕ) (count : ℕ) → IsArenaOf nodes text count → IsPrefix text longer → (k : ℕ) → shape_in nodes longer k ≡ shape_in nodes text k
shape_in-text nodes text longer count arena grows k =
    elim (cases_lt k (length nodes)) [
      | inl below ↦ shape_in-grows nodes nodes text longer count arena (IsPrefix-whole nodes) grows k (inl below)
      | inr above ↦
          elim (cases_lt k FIRST_NAME) [
            | inl term ↦
                shape_in-term nodes longer k term ∙ ap (node_shape longer) (get_or-eq_default nodes (Atom 0 0) above)
                ∙ ap (node_shape text) (sym (get_or-eq_default nodes (Atom 0 0) above)) ∙ sym (shape_in-term nodes text k term)
            | inr outer ↦ shape_in-outer nodes longer k outer ∙ sym (shape_in-outer nodes text k outer)
          ]
    ]

within_text : (nodes : List Node) (text longer : List ℕ) (count : ℕ) → length text ≤ length longer → (m : Node) → IsNodeWithin nodes text count m → IsNodeWithin nodes longer count m
within_text nodes text longer count h (Atom from len) w = (let stands = w.0 in omega arith, w.1)
within_text nodes text longer count h (Int n) w = tt
within_text nodes text longer count h (Apply head argument) w = w

pub IsArenaOf-text : (nodes : List Node) (text longer : List ℕ) (count : ℕ) → IsArenaOf nodes text count → IsPrefix text longer → IsArenaOf nodes longer count
IsArenaOf-text nodes text longer count arena grows = record {
  order = subst InOrder (sym (fun_ext (shape_in-text nodes text longer count arena grows))) arena.order;
  within = All-weaker (IsNodeWithin nodes text count) (IsNodeWithin nodes longer count) (within_text nodes text longer count (length-IsPrefix text longer grows)) nodes arena.within;
  few = arena.few;
}

-- an arena with one node more, on a text that has grown
module _ (old new : Arena) (node : Node)
    (arena : IsArena old)
    (text : IsPrefix old.text.items new.text.items)
    (variables : new.variables ≡ old.variables)
    (nodes : new.nodes.items ≡ old.nodes.items ++ node ∷ [])
    (next : IsNext old.nodes.items new.text.items old.variables node)
    (few : length new.nodes.items < FIRST_NAME) where
  before : IsArenaOf old.nodes.items new.text.items old.variables
  before = IsArenaOf-text old.nodes.items old.text.items new.text.items old.variables arena text

  room : length old.nodes.items < FIRST_NAME
  room = omega (arith, ap length nodes, length-append old.nodes.items (node ∷ []))

  pub IsArena-pushed : IsArena new
  IsArena-pushed =
      subst (λ n. IsArenaOf new.nodes.items new.text.items n) (sym variables)
      (subst (λ ns. IsArenaOf ns new.text.items old.variables) (sym nodes)
      (IsArenaOf-push old.nodes.items node new.text.items old.variables before next room))

  pub Grows-pushed : Grows old new
  Grows-pushed = record {
    nodes = subst (IsPrefix old.nodes.items) (sym nodes) (IsPrefix-append old.nodes.items (node ∷ []));
    text = text;
    variables = variables;
  }

  pub inside_pushed : IsNodeOf new (length old.nodes.items)
  inside_pushed = inl (omega (arith, ap length nodes, length-append old.nodes.items (node ∷ [])))

  pub shape_pushed : shape_of new (length old.nodes.items) ≡ node_shape new.text.items node
  shape_pushed =
      ap (λ ns. shape_in ns new.text.items (length old.nodes.items)) nodes
      ∙ shape_in-pushed old.nodes.items node new.text.items old.variables before next room

  pub tree_pushed : node_tree new (length old.nodes.items) ≡ tree_of_node Variable (node_tree new) (node_shape new.text.items node)
  tree_pushed = label-labels (shape_of new) Variable IsArena-pushed.order (length old.nodes.items) ∙ ap (tree_of_node Variable (node_tree new)) shape_pushed

-- nodes that stood there keep their trees and shapes
pub node_tree-grows : (old new : Arena) → IsArena old → Grows old new → (k : ℕ) → IsNodeOf old k → node_tree new k ≡ node_tree old k
node_tree-grows old new arena grows k h = label-grows old.nodes.items new.nodes.items old.text.items new.text.items old.variables arena grows.nodes grows.text Variable k h

pub shape_of-grows : (old new : Arena) → IsArena old → Grows old new → (k : ℕ) → IsNodeOf old k → shape_of new k ≡ shape_of old k
shape_of-grows old new arena grows k h = shape_in-grows old.nodes.items new.nodes.items old.text.items new.text.items old.variables arena grows.nodes grows.text k h

pub inside_grows : (old new : Arena) → Grows old new → (k : ℕ) → IsNodeOf old k → IsNodeOf new k
inside_grows old new grows k (inl h) =
    let longer = length-IsPrefix old.nodes.items new.nodes.items grows.nodes in
    inl (omega arith)
inside_grows old new grows k (inr h) = inr (h.0, subst (λ n. k < FIRST_VARIABLE + n) (sym grows.variables) h.1)

pub Grows-itself : (a : Arena) → Grows a a
Grows-itself a = record { nodes = IsPrefix-whole a.nodes.items; text = IsPrefix-whole a.text.items; variables = refl }

pub Grows-trans : (old mid new : Arena) → Grows old mid → Grows mid new → Grows old new
Grows-trans old mid new g h = record {
  nodes = IsPrefix-trans old.nodes.items mid.nodes.items new.nodes.items g.nodes h.nodes;
  text = IsPrefix-trans old.text.items mid.text.items new.text.items g.text h.text;
  variables = h.variables ∙ g.variables;
}

-- an arena without a new node, on a text that has grown
pub IsArena-same : (old new : Arena) → IsArena old → IsPrefix old.text.items new.text.items → new.variables ≡ old.variables → new.nodes.items ≡ old.nodes.items → IsArena new
IsArena-same old new arena text variables nodes =
    subst (λ n. IsArenaOf new.nodes.items new.text.items n) (sym variables)
    (subst (λ ns. IsArenaOf ns new.text.items old.variables) (sym nodes)
    (IsArenaOf-text old.nodes.items old.text.items new.text.items old.variables arena text))

pub atom_pushed : (old new : Arena) (name : List ℕ) (from : ℕ) → SHORT < length name → IsArena old → from ≡ length old.text.items → new.text.items ≡ old.text.items ++ name → new.variables ≡ old.variables → length new.nodes.items < FIRST_NAME
    → new.nodes.items ≡ old.nodes.items ++ Atom from (length name) ∷ []
    → IsArena new × IsHeadFor new (length old.nodes.items) (Atomic name)
atom_pushed old new name from long arena start text variables few nodes =
    let longer : IsPrefix old.text.items new.text.items = subst (IsPrefix old.text.items) (sym text) (IsPrefix-append old.text.items name) in
    let node = Atom from (length name) in
    let next : IsNext old.nodes.items new.text.items old.variables node = (omega (arith, ap length text, length-append old.text.items name), long) in
    let same = ap (λ i. take (length name) (drop i new.text.items)) start ∙ ap (λ bytes. take (length name) (drop (length old.text.items) bytes)) text ∙ take-drop-append old.text.items name in
    let is = shape_pushed old new node arena longer variables nodes next few ∙ ap AtomNode same in (
      IsArena-pushed old new node arena longer variables nodes next few,
      record {
        node = record {
          inside = inside_pushed old new node arena longer variables nodes next few;
          tree = tree_pushed old new node arena longer variables nodes next few ∙ ap Atomic same;
        };
        head = subst IsHead (sym is) tt;
      },
    )

pub number_pushed : (old new : Arena) (n : ℤ) → IsArena old → new.text.items ≡ old.text.items → new.variables ≡ old.variables → length new.nodes.items < FIRST_NAME
    → new.nodes.items ≡ old.nodes.items ++ Int n ∷ []
    → IsArena new × IsNodeFor new (length old.nodes.items) (Number n)
number_pushed old new n arena text variables few nodes =
    let longer : IsPrefix old.text.items new.text.items = subst (IsPrefix old.text.items) (sym text) (IsPrefix-whole old.text.items) in (
      IsArena-pushed old new (Int n) arena longer variables nodes tt few,
      record {
        inside = inside_pushed old new (Int n) arena longer variables nodes tt few;
        tree = tree_pushed old new (Int n) arena longer variables nodes tt few;
      },
    )

pub apply_pushed : (old new : Arena) (head argument : ℕ) → IsArena old → IsHead (shape_of old head) → IsNodeOf old head → IsNodeOf old argument
    → new.text.items ≡ old.text.items → new.variables ≡ old.variables → length new.nodes.items < FIRST_NAME
    → new.nodes.items ≡ old.nodes.items ++ Apply head argument ∷ []
    → IsArena new × IsHeadFor new (length old.nodes.items) (applied (node_tree old head) (node_tree old argument))
apply_pushed old new head argument arena is_head inside other text variables few nodes =
    let longer : IsPrefix old.text.items new.text.items = subst (IsPrefix old.text.items) (sym text) (IsPrefix-whole old.text.items) in
    let node = Apply head argument in
    let next : IsNext old.nodes.items new.text.items old.variables node = (subst (λ bytes. IsHead (shape_in old.nodes.items bytes head)) (sym text) is_head, inside, other) in
    let grows = Grows-pushed old new node arena longer variables nodes next few in
    let is = shape_pushed old new node arena longer variables nodes next few in (
      IsArena-pushed old new node arena longer variables nodes next few,
      record {
        node = record {
          inside = inside_pushed old new node arena longer variables nodes next few;
          tree = tree_pushed old new node arena longer variables nodes next few
              ∙ ap₂ applied (node_tree-grows old new arena grows head inside) (node_tree-grows old new arena grows argument other);
        };
        head = subst IsHead (sym is) tt;
      },
    )

-- the node of a short name
pub name_node : (a : Arena) (code : ℕ) (name : List ℕ) → IsArena a → code < SHORT_NAMES → name_at code ≡ name → IsHeadFor a (FIRST_NAME + code) (Atomic name)
name_node a code name arena small e =
    let place : (FIRST_NAME + code) - FIRST_NAME ≡ code = omega arith in
    let is : shape_of a (FIRST_NAME + code) ≡ AtomNode name =
    shape_in-name a.nodes.items a.text.items (FIRST_NAME + code) (omega arith) (omega arith) ∙ ap AtomNode (ap name_at place ∙ e) in
    record {
      node = record {
        inside = inr (omega arith, omega arith);
        tree = label-labels (shape_of a) Variable arena.order (FIRST_NAME + code) ∙ ap (tree_of_node Variable (node_tree a)) is;
      };
      head = subst IsHead (sym is) tt;
    }

-- the node of a variable
pub variable_node : (a : Arena) (k n : ℕ) → IsArena a → k ≡ FIRST_VARIABLE + n → n < a.variables → IsNodeFor a k (Variable n)
variable_node a k n arena e h = record {
  inside = inr (omega arith, omega arith);
  tree =
      label-labels (shape_of a) Variable arena.order k
      ∙ ap (tree_of_node Variable (node_tree a)) (shape_in-variable a.nodes.items a.text.items k (omega arith))
      ∙ (let same : k - FIRST_VARIABLE ≡ n = omega arith in ap Variable same);
}
