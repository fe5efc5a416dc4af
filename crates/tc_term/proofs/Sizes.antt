-- The sizes of arguments, term by term.
use Rattle.std.proofs.Common.{◌≡◌, ◌<◌, ◌≤◌, ◌+◌, ◌-◌, ◌&&◌, ℕ, Bool, true, max, List, [], ◌∷◌, length, drop, get_or, ap, sym, subst, ◌∙◌, arith}
use Rattle.std.proofs.Math.Bool.{and-true}
use Rattle.std.proofs.lemmas.List.{at_drop_all, at_drop_more}
use Rattle.tc_term.specs.declared.limits.Room.{Room}
use Rattle.tc_term.specs.Room.{IsWithin, TakesRoom}
use Rattle.tc_term.specs.declared.terms.Term.{Term}
use Rattle.tc_term.specs.Tree.{Tree, Compound, Trees, nodes, nodes_of_all, depth, depth_of_all, name_bytes, name_bytes_of_all, is_ground, are_ground, HasIntegers, HaveIntegers}
use Rattle.tc_term.specs.TreeView.{tree_of, trees_of}

-- the nodes of all terms
abbrev pub nodes_in : List Term → ℕ
nodes_in [] = 0
nodes_in (t ∷ ts) = nodes (tree_of t) + nodes_in ts

-- the depth of the deepest term
abbrev pub depth_in : List Term → ℕ
depth_in [] = 0
depth_in (t ∷ ts) = max (depth (tree_of t)) (depth_in ts)

-- the bytes of the names of all terms
abbrev pub name_bytes_in : List Term → ℕ
name_bytes_in [] = 0
name_bytes_in (t ∷ ts) = name_bytes (tree_of t) + name_bytes_in ts

-- whether all terms are ground
abbrev pub ground_in : List Term → Bool
ground_in [] = true
ground_in (t ∷ ts) = is_ground (tree_of t) && ground_in ts

pub nodes_of_all-trees_of : (ts : List Term) → 0 < length ts → nodes_of_all (trees_of ts) ≡ nodes_in ts
nodes_of_all-trees_of [] some = absurd (omega arith)
nodes_of_all-trees_of (t ∷ []) some = omega arith
nodes_of_all-trees_of (t ∷ u ∷ ts) some = ap (λ n. nodes (tree_of t) + n) (nodes_of_all-trees_of (u ∷ ts) (omega arith))

pub depth_of_all-trees_of : (ts : List Term) → 0 < length ts → depth_of_all (trees_of ts) ≡ depth_in ts
depth_of_all-trees_of [] some = absurd (omega arith)
depth_of_all-trees_of (t ∷ []) some = omega arith
depth_of_all-trees_of (t ∷ u ∷ ts) some = ap (λ n. max (depth (tree_of t)) n) (depth_of_all-trees_of (u ∷ ts) (omega arith))

pub name_bytes_of_all-trees_of : (ts : List Term) → 0 < length ts → name_bytes_of_all (trees_of ts) ≡ name_bytes_in ts
name_bytes_of_all-trees_of [] some = absurd (omega arith)
name_bytes_of_all-trees_of (t ∷ []) some = omega arith
name_bytes_of_all-trees_of (t ∷ u ∷ ts) some = ap (λ n. name_bytes (tree_of t) + n) (name_bytes_of_all-trees_of (u ∷ ts) (omega arith))

pub are_ground-trees_of : (ts : List Term) → 0 < length ts → are_ground (trees_of ts) ≡ ground_in ts
are_ground-trees_of [] some = absurd (omega arith)
are_ground-trees_of (t ∷ []) some = sym (and-true (is_ground (tree_of t)))
are_ground-trees_of (t ∷ u ∷ ts) some = ap (λ b. is_ground (tree_of t) && b) (are_ground-trees_of (u ∷ ts) (omega arith))

-- each number in the terms is one of 64 bits
abbrev pub IntegersIn : List Term → Type 0
IntegersIn [] = Unit {0}
IntegersIn (t ∷ ts) = HasIntegers (tree_of t) × IntegersIn ts

HaveIntegers-trees_of : (ts : List Term) → IntegersIn ts → HaveIntegers (trees_of ts)
HaveIntegers-trees_of [] each = tt
HaveIntegers-trees_of (t ∷ []) each = each.0
HaveIntegers-trees_of (t ∷ u ∷ ts) each = (each.0, HaveIntegers-trees_of (u ∷ ts) each.1)

pub HasIntegers-compound : (t : Tree) (name : List ℕ) (args : Trees) (ts : List Term) →
    t ≡ Compound name args → trees_of ts ≡ args → IntegersIn ts → HasIntegers t
HasIntegers-compound t name args ts compound seen each =
    subst HasIntegers (sym compound) (subst HaveIntegers seen (HaveIntegers-trees_of ts each))

-- one term more
pub IntegersIn-next : (ts : List Term) (i : ℕ) (t : Term) → i < length ts → t ≡ get_or ts i t →
    HasIntegers (tree_of t) → IntegersIn (drop (i + 1) ts) → IntegersIn (drop i ts)
IntegersIn-next ts i t inside at integers rest =
    subst IntegersIn (sym (at_drop_more (λ us. us) ts i t inside ∙ ap (λ u. u ∷ drop (i + 1) ts) (sym at))) (integers, rest)

-- a compound is ground where all its arguments are
pub is_ground-compound : (t : Tree) (name : List ℕ) (args : Trees) (ts : List Term) →
    t ≡ Compound name args → trees_of ts ≡ args → 0 < length ts → is_ground t ≡ ground_in ts
is_ground-compound t name args ts compound seen some =
    ap is_ground compound ∙ ap are_ground (sym seen) ∙ are_ground-trees_of ts some

-- the sizes of a compound
pub nodes-compound : (t : Tree) (name : List ℕ) (args : Trees) (ts : List Term) →
    t ≡ Compound name args → trees_of ts ≡ args → 0 < length ts → nodes t ≡ 1 + nodes_in ts
nodes-compound t name args ts compound seen some =
    ap nodes compound ∙ ap (λ n. 1 + n) (ap nodes_of_all (sym seen) ∙ nodes_of_all-trees_of ts some)

pub depth-compound : (t : Tree) (name : List ℕ) (args : Trees) (ts : List Term) →
    t ≡ Compound name args → trees_of ts ≡ args → 0 < length ts → depth t ≡ 1 + depth_in ts
depth-compound t name args ts compound seen some =
    ap depth compound ∙ ap (λ n. 1 + n) (ap depth_of_all (sym seen) ∙ depth_of_all-trees_of ts some)

pub name_bytes-compound : (t : Tree) (name : List ℕ) (args : Trees) (ts : List Term) →
    t ≡ Compound name args → trees_of ts ≡ args → 0 < length ts → name_bytes t ≡ length name + name_bytes_in ts
name_bytes-compound t name args ts compound seen some =
    ap name_bytes compound ∙ ap (λ n. length name + n) (ap name_bytes_of_all (sym seen) ∙ name_bytes_of_all-trees_of ts some)

-- A compound whose arguments are counted one by one: before the first one these nodes and bytes of names may still come.
module _ (t : Tree) (name : List ℕ) (args : Trees) (ts : List Term) (limit : ℕ) (room : Room) (nodes_before bytes_before : ℕ)
    (compound : t ≡ Compound name args) (seen : trees_of ts ≡ args) (some : 0 < length ts) (deep : 0 < limit)
    (node_counted : nodes_before + 1 ≡ room.nodes) (name_counted : bytes_before + length name ≡ room.name_bytes)
    (i : ℕ) (left : Room)
    (nodes_so_far : left.nodes + nodes_in ts ≡ nodes_before + nodes_in (drop i ts))
    (depth_so_far : max (limit - 1) (depth_in ts) ≡ max (limit - 1) (depth_in (drop i ts)))
    (bytes_so_far : left.name_bytes + name_bytes_in ts ≡ bytes_before + name_bytes_in (drop i ts)) where
  -- all of them are counted
  pub IsSpent-compound : length ts ≤ i → TakesRoom t limit room left
  IsSpent-compound ended = record {
    nodes = omega (arith, nodes-compound t name args ts compound seen some, nodes_so_far, at_drop_all nodes_in ts i ended, node_counted);
    depth = omega (arith, depth-compound t name args ts compound seen some, depth_so_far, at_drop_all depth_in ts i ended, deep);
    name_bytes =
        omega (
          arith,
          name_bytes-compound t name args ts compound seen some,
          bytes_so_far,
          at_drop_all name_bytes_in ts i ended,
          name_counted,
        );
  }

  -- where there is no room for the next one, there is none for the compound
  pub IsWithin-next : (arg : Term) → i < length ts → arg ≡ get_or ts i arg → IsWithin t limit room → IsWithin (tree_of arg) (limit - 1) left
  IsWithin-next arg inside at within =
      let head : (F : List Term → ℕ) → F (drop i ts) ≡ F (arg ∷ drop (i + 1) ts) =
      λ F. at_drop_more F ts i arg inside ∙ ap (λ x. F (x ∷ drop (i + 1) ts)) (sym at) in
      record {
        nodes = omega (arith, nodes-compound t name args ts compound seen some, nodes_so_far, head nodes_in, node_counted, within.nodes);
        depth = omega (arith, depth-compound t name args ts compound seen some, depth_so_far, head depth_in, deep, within.depth);
        name_bytes =
            omega (
              arith,
              name_bytes-compound t name args ts compound seen some,
              bytes_so_far,
              head name_bytes_in,
              name_counted,
              within.name_bytes,
            );
      }
