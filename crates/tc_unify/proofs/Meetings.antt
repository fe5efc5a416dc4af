-- A pair of nodes is met by a link between the roots of its nodes.
use Rattle.std.proofs.Common.{get_or, drop, length-take, length-drop, subst₂, ◌≡◌, ◌≢◌, ℕ, ◌-◌, ◌<◌, ◌≤◌, max, min, ◌⊎◌, inl, inr, List, [], ◌∷◌, ◌++◌, length, refl, sym, ap, ◌∙◌, subst, arith, All}
use Rattle.std.specs.Prelude.{Some}
use Rattle.std.proofs.Math.Path.{fun_ext}
use Rattle.std.proofs.lemmas.Bool.{cases_lt}
use Rattle.std.proofs.lemmas.List.Elements.{All-pop, All-push, All-get_or}
use Rattle.tc_unify.specs.declared.nodes.TheConstants.{FIRST_NAME, FIRST_VARIABLE}
use Rattle.tc_unify.specs.declared.nodes.Node.{Node}
use Rattle.tc_unify.specs.declared.nodes.Node.TheVariants.{Atom, Int, Apply}
use Rattle.tc_unify.specs.Names.{name_at}
use Rattle.tc_unify.specs.Nodes.{AtomNode}
use Rattle.tc_unify.specs.declared.nodes.Arena.{Arena}
use Rattle.tc_unify.specs.declared.links.Links.{Links}
use Rattle.tc_unify.specs.Links.{Falls, root, linked}
use Rattle.tc_unify.specs.Solutions.{AreLinked, Meets, Joins, Clashes}
use Rattle.tc_unify.specs.Arena.{IsNodeOf, HasLinkIn, AreNodesOf, IsNodeWithin, node_shape, shape_of}
use Rattle.tc_unify.specs.Tables.{link_of, HasNode}
use Rattle.tc_unify.specs.Meeting.{IsLinked, Leads, Fails}
use Rattle.tc_unify.proofs.Roots.{root-ends, root-keeps, root-tree}
use Rattle.tc_unify.proofs.Steps.{IsEnds, linked_cases, linked-falls, linked-terms, meets_same, meets_linked, meets_never, joins_variable, KindsDiffer, clash_atoms, clash_kinds}
use Rattle.tc_unify.proofs.ShortNames.{name_at-injective, length-name_at}
use Rattle.tc_unify.proofs.Arenas.{IsTerm-below, term_below, shape_in-term, shape_in-name, shape_in-variable}

-- the higher and the lower root of a pair
pub ends_from : (link : ℕ → ℕ) (i j a b : ℕ) → Falls link → a ≡ max (root link i) (root link j) → b ≡ min (root link i) (root link j) → IsEnds link i j a b
ends_from link i j a b falls high low =
    elim (cases_lt (root link i) (root link j)) [
      | inl less ↦
          (let first : a ≡ root link j = omega arith in
          let second : b ≡ root link i = omega arith in
          record {
            fixed = subst (λ k. link k ≡ k) (sym first) (root-ends link falls j);
            same = λ F r. (
              (λ e. ap F first ∙ sym (root-tree link F r j) ∙ sym e ∙ root-tree link F r i ∙ sym (ap F second)),
              (λ e. root-tree link F r i ∙ sym (ap F second) ∙ sym e ∙ ap F first ∙ sym (root-tree link F r j)),
            );
          })
      | inr more ↦
          (let first : a ≡ root link i = omega arith in
          let second : b ≡ root link j = omega arith in
          record {
            fixed = subst (λ k. link k ≡ k) (sym first) (root-ends link falls i);
            same = λ F r. (
              (λ e. ap F first ∙ sym (root-tree link F r i) ∙ e ∙ root-tree link F r j ∙ sym (ap F second)),
              (λ e. root-tree link F r i ∙ sym (ap F first) ∙ e ∙ ap F second ∙ sym (root-tree link F r j)),
            );
          })
    ]

-- one of two
either : (P : ℕ → Type 0) (m n k : ℕ) → P m → P n → (k ≡ max m n) ⊎ (k ≡ min m n) → P k
either P m n k p q e =
    elim (cases_lt m n) [
      | inl less ↦ elim e [ inl high ↦ (let at : k ≡ n = omega arith in subst P (sym at) q) | inr low ↦ (let at : k ≡ m = omega arith in subst P (sym at) p) ]
      | inr more ↦ elim e [ inl high ↦ (let at : k ≡ m = omega arith in subst P (sym at) p) | inr low ↦ (let at : k ≡ n = omega arith in subst P (sym at) q) ]
    ]

pub place_of : (a : Arena) (l : Links) → IsLinked a l → (k : ℕ) → HasLinkIn a k → HasNode l k
place_of a l linked k (inl h) =
    let few = linked.arena.few in
    let sizes = linked.terms in
    inl (omega arith, omega arith)
place_of a l linked k (inr h) =
    let sizes = linked.variables in
    inr (h.0, (let below = h.1 in omega arith))

-- the links after one more are the arena's
pub IsLinked-join : (a : Arena) (l new : Links) (from to : ℕ) → IsLinked a l → HasLinkIn a from → IsNodeOf a to → to < from → ((k : ℕ) → link_of new k ≡ linked (link_of l) from to k) → length new.terms.items ≡ length l.terms.items → length new.variables.items ≡ length l.variables.items → new.trail.items ≡ l.trail.items ++ from ∷ [] → IsLinked a new
IsLinked-join a l new from to old leaves inside lower link terms variables trail = record {
  arena = old.arena;
  linked = subst (AreLinked (shape_of a)) (sym same) (record {
    order = old.linked.order;
    falls = linked-falls (link_of l) from to old.linked.falls lower;
    terms = linked-terms (shape_of a) (link_of l) from to old.linked.terms
        (λ term. IsTerm-below a.nodes.items a.text.items to (let below = term_below a.nodes.items a.text.items from term in omega arith));
  });
  inside = λ k h.
      elim (linked_cases (link_of l) from to k) [
        | inl at ↦ subst (IsNodeOf a) (sym (link k ∙ at.1)) inside
        | inr off ↦ subst (IsNodeOf a) (sym (link k ∙ off.1)) (old.inside k h)
      ];
  terms = terms ∙ old.terms;
  variables = variables ∙ old.variables;
  trail = subst (All (HasLinkIn a)) (sym trail) (All-push (HasLinkIn a) l.trail.items from old.trail leaves);
}
  where
    same : link_of new ≡ linked (link_of l) from to
    same = fun_ext link

-- links that say the same are the arena's
pub IsLinked-same : (a : Arena) (l new : Links) → IsLinked a l → ((k : ℕ) → link_of new k ≡ link_of l k) → length new.terms.items ≡ length l.terms.items → length new.variables.items ≡ length l.variables.items → new.trail.items ≡ l.trail.items → IsLinked a new
IsLinked-same a l new old link terms variables trail = record {
  arena = old.arena;
  linked = subst (AreLinked (shape_of a)) (sym (fun_ext link)) old.linked;
  inside = λ k h. subst (IsNodeOf a) (sym (link k)) (old.inside k h);
  terms = terms ∙ old.terms;
  variables = variables ∙ old.variables;
  trail = subst (All (HasLinkIn a)) (sym trail) old.trail;
}

-- the root of a node is inside
pub root_node : (a : Arena) (l : Links) → IsLinked a l → (k : ℕ) → IsNodeOf a k → IsNodeOf a (root (link_of l) k)
root_node a l linked k h = root-keeps (link_of l) (IsNodeOf a) linked.inside k h

pub root_term : (a : Arena) (l : Links) → IsLinked a l → (k r : ℕ) → IsNodeOf a k → r ≡ root (link_of l) k → r < FIRST_NAME → r < length a.nodes.items
root_term a l linked k r h e below =
    elim (subst (IsNodeOf a) (sym e) (root_node a l linked k h)) [ inl i ↦ i | inr above ↦ absurd (omega (arith, above.0)) ]

module _ (a : Arena) (l : Links) (waiting : List (ℕ × ℕ)) (pair : ℕ × ℕ) (from to : ℕ)
    (old : IsLinked a l)
    (nodes : AreNodesOf a (waiting ++ pair ∷ []))
    (high : from ≡ max (root (link_of l) pair.0) (root (link_of l) pair.1))
    (low : to ≡ min (root (link_of l) pair.0) (root (link_of l) pair.1)) where
  parts : AreNodesOf a waiting × (IsNodeOf a pair.0 × IsNodeOf a pair.1)
  parts = All-pop (λ p. IsNodeOf a p.0 × IsNodeOf a p.1) (waiting ++ pair ∷ []) waiting (Some pair) refl nodes

  ends : IsEnds (link_of l) pair.0 pair.1 from to
  ends = ends_from (link_of l) pair.0 pair.1 from to old.linked.falls high low

  pub waiting_nodes : AreNodesOf a waiting
  waiting_nodes = parts.0

  root_inside : (k : ℕ) → IsNodeOf a k → IsNodeOf a (root (link_of l) k)
  root_inside k h = root-keeps (link_of l) (IsNodeOf a) old.inside k h

  pub from_inside : IsNodeOf a from
  from_inside = either (IsNodeOf a) (root (link_of l) pair.0) (root (link_of l) pair.1) from (root_inside pair.0 parts.1.0) (root_inside pair.1 parts.1.1) (inl high)

  pub to_inside : IsNodeOf a to
  to_inside = either (IsNodeOf a) (root (link_of l) pair.0) (root (link_of l) pair.1) to (root_inside pair.0 parts.1.0) (root_inside pair.1 parts.1.1) (inr low)

  pub from_term : from < FIRST_NAME → from < length a.nodes.items
  from_term h = elim from_inside [ inl below ↦ below | inr above ↦ absurd (omega (arith, above.0)) ]

  -- a node that is no name has a link
  pub from_link : (from < FIRST_NAME) ⊎ (FIRST_VARIABLE ≤ from) → HasLinkIn a from
  from_link (inl term) = inl (from_term term)
  from_link (inr free) =
      elim from_inside [
        | inl below ↦ inl below
        | inr above ↦ inr (free, above.1)
      ]

  pub from_place : (from < FIRST_NAME) ⊎ (FIRST_VARIABLE ≤ from) → HasNode l from
  from_place h = place_of a l old from (from_link h)

  pub from_free : link_of l from ≡ from
  from_free = ends.fixed

  pub to_lower : from ≢ to → to < from
  to_lower differ = omega arith

  pub to_term : from < FIRST_NAME → to < length a.nodes.items
  to_term h = elim to_inside [ inl below ↦ below | inr above ↦ absurd (omega (arith, above.0)) ]

  -- a short name clashes with all other terms
  pub name_clashes : FIRST_NAME ≤ from → from < FIRST_VARIABLE → from ≢ to → Clashes (shape_of a) from to
  name_clashes h i differ = by_place to_inside
    where
      name : shape_of a from ≡ AtomNode (name_at (from - FIRST_NAME))
      name = shape_in-name a.nodes.items a.text.items from h i

      by_node : (node : Node) → node_shape a.text.items node ≡ shape_of a to → IsNodeWithin a.nodes.items a.text.items a.variables node → Clashes (shape_of a) from to
      by_node (Atom start len) e within =
          clash_atoms (shape_of a) from to _ _ old.arena.order name (sym e)
          (λ same.
          let long = within.1 in
          let stands = within.0 in
          let short = length-name_at (from - FIRST_NAME) in
          let size = ap length same in
          omega (arith, length-take len (drop start a.text.items), length-drop start a.text.items))
      by_node (Int n) e within = clash_kinds (shape_of a) from to old.arena.order (subst₂ KindsDiffer (sym name) e (tt, tt))
      by_node (Apply head argument) e within = clash_kinds (shape_of a) from to old.arena.order (subst₂ KindsDiffer (sym name) e (tt, tt))

      by_place : IsNodeOf a to → Clashes (shape_of a) from to
      by_place (inl below) =
          let few = old.arena.few in
          by_node (get_or a.nodes.items to (Atom 0 0)) (sym (shape_in-term a.nodes.items a.text.items to (omega arith)))
          (All-get_or (IsNodeWithin a.nodes.items a.text.items a.variables) a.nodes.items to (Atom 0 0) below old.arena.within)
      by_place (inr outer) =
          let lower = to_lower differ in
          let other = shape_in-name a.nodes.items a.text.items to outer.0 (omega arith) in
          clash_atoms (shape_of a) from to _ _ old.arena.order name other
          (λ same.
          let place = outer.0 in
          let codes = name_at-injective (from - FIRST_NAME) (to - FIRST_NAME) (omega arith) (omega arith) same in
          differ (omega arith))

  pub leads_same : from ≡ to → Leads a l (waiting ++ pair ∷ []) l waiting
  leads_same e first start m =
      let one : root (link_of l) pair.0 ≡ root (link_of l) pair.1 = omega arith in
      meets_same (shape_of a) first (link_of l) start waiting pair.0 pair.1 m one

  pub linked_after : (new : Links) → (from < FIRST_NAME) ⊎ (FIRST_VARIABLE ≤ from) → from ≢ to → ((k : ℕ) → link_of new k ≡ linked (link_of l) from to k) → length new.terms.items ≡ length l.terms.items → length new.variables.items ≡ length l.variables.items → new.trail.items ≡ l.trail.items ++ from ∷ [] → IsLinked a new
  linked_after new h differ link terms variables trail = IsLinked-join a l new from to old (from_link h) to_inside (to_lower differ) link terms variables trail

  pub leads_joined : (new : Links) (more : List (ℕ × ℕ)) → ((k : ℕ) → link_of new k ≡ linked (link_of l) from to k) → Joins (shape_of a) from to more → Leads a l (waiting ++ pair ∷ []) new (waiting ++ more)
  leads_joined new more link joins first start m =
      subst (λ f. Meets (shape_of a) first start f (waiting ++ more)) (sym (fun_ext link))
      (meets_linked (shape_of a) first (link_of l) start waiting more pair.0 pair.1 from to m ends joins)

  pub variable_joins : FIRST_VARIABLE ≤ from → Joins (shape_of a) from to []
  variable_joins h = joins_variable (shape_of a) from to _ (shape_in-variable a.nodes.items a.text.items from h)

  pub fails_clash : Clashes (shape_of a) from to → Fails a l (waiting ++ pair ∷ [])
  fails_clash clash first start m = meets_never (shape_of a) first (link_of l) start waiting pair.0 pair.1 from to m ends clash
