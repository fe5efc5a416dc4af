-- An addition is kept, or taken back so that all is as before.
use Rattle.std.proofs.Common.{◌+◌, ◌≡◌, ℕ, ◌-◌, ◌<◌, ◌≤◌, inl, inr, List, [], ◌∷◌, ◌++◌, length, reverse, take, drop, refl, sym, ap, ap₂, ◌∙◌, subst, arith, All, append-nil, length-append, length-take}
use Rattle.std.specs.Prelude.{Some}
use Rattle.std.proofs.Math.Path.{fun_ext}
use Rattle.std.proofs.Math.ListN.{get_or-eq_default}
use Rattle.std.proofs.Math.Seq.{drop-append_seam, take-append_seam}
use Rattle.std.proofs.lemmas.List.{map-append, reverse-append}
use Rattle.std.proofs.lemmas.List.Elements.{All-nil, All-pop, All-weaker, All-drop}
use Rattle.tc_lists.proofs.Prefixes.{take-IsPrefix}
use Rattle.tc_term.specs.Tree.{Tree, Variable}
use Rattle.tc_term.specs.Variables.{raised}
use Rattle.tc_term.proofs.Instances.{instance-instance}
use Rattle.tc_unify.specs.Clashing.{NeverEqual}
use Rattle.tc_term.specs.Equations.{Equation, at, under, Solves, Solvable}
use Rattle.tc_unify.specs.declared.nodes.TheConstants.{FIRST_VARIABLE}
use Rattle.tc_unify.specs.declared.nodes.Arena.{Arena}
use Rattle.tc_unify.specs.declared.links.Links.{Links}
use Rattle.tc_unify.specs.declared.sizes.Sizes.{Sizes}
use Rattle.tc_unify.specs.declared.sizes.Added.{Added}
use Rattle.tc_unify.specs.Nodes.{label}
use Rattle.tc_unify.specs.Solutions.{LinksMean, NeverMeets, IsSolution, Demands}
use Rattle.tc_unify.specs.Values.{AreSolved}
use Rattle.tc_unify.specs.Arena.{IsArena, HasLinkIn, Grows, shape_of}
use Rattle.tc_unify.specs.Tables.{link_of, rewound, HasNode, Extends}
use Rattle.tc_unify.specs.Cuts.{IsCut}
use Rattle.tc_unify.specs.Meeting.{IsLinked}
use Rattle.tc_unify.specs.Stores.{equation_of, said_of, IsLevel, AreLevels, IsStore, IsGrown, IsAdded, NeverAdds}
use Rattle.tc_unify.proofs.Tables.{link_in-term}
use Rattle.tc_unify.proofs.Meetings.{place_of}
use Rattle.tc_unify.specs.Splits.{AreEqual, Always, Asks, NeverAsks}
use Rattle.tc_unify.proofs.Growing.{level_of, Means-grows, IsLinked-grown, past_tables, AreLevels-same, said_backward, said_forward}

module _ (a : Arena) (l : Links) (added : List Added) (store : IsStore a l added) where
  pub newest : IsLevel a.variables a.nodes.items a.text.items (link_of l) l.trail.items (reverse added)
  newest = level_of a.variables a.nodes.items a.text.items (link_of l) l.trail.items (reverse added) store.levels

  pub store_linked : IsLinked a l
  store_linked = record {
    arena = newest.arena;
    linked = newest.linked;
    inside = newest.inside;
    terms = store.terms;
    variables = store.variables;
    trail = newest.trail_nodes;
  }

  -- the solutions of the equations are those of the links
  pub store_solution : (v : List Tree) → Solves a.variables (said_of added) v → IsSolution a.variables (shape_of a) (link_of l) v
  store_solution v solves = record {
    valuation = record { whole = solves.whole; ground = solves.ground };
    respects = newest.means.says (at v) (said_backward (λ e. under v e.0 ≡ under v e.1) added solves.equal);
  }

  pub solution_solves : (v : List Tree) → IsSolution a.variables (shape_of a) (link_of l) v → Solves a.variables (said_of added) v
  solution_solves v solution = record {
    whole = solution.valuation.whole;
    ground = solution.valuation.ground;
    equal = said_forward (λ e. under v e.0 ≡ under v e.1) added (newest.means.said (at v) solution.respects);
  }

  -- the equations of a store are solvable
  pub store_solvable : Solvable a.variables (said_of added)
  store_solvable = record { valuation = newest.means.solution; solves = solution_solves newest.means.solution newest.means.solves }

  pub store_solved : AreSolved a l
  store_solved = record { linked = store_linked; alike = newest.means.alike; solution = newest.means.solution; solves = newest.means.solves }

  module _ (b : Arena) (grown : IsArena b) (grows : Grows a b) where
    means_before : LinksMean a.variables (shape_of b) (link_of l) (said_of (reverse added))
    means_before = Means-grows a b (link_of l) (said_of (reverse added)) newest.arena grown grows newest.inside newest.past newest.means

    module _ (m : Links) (link : (k : ℕ) → link_of m k ≡ link_of l k) where
      pub means_prepared : LinksMean b.variables (shape_of b) (link_of m) (said_of (reverse added))
      means_prepared =
          subst (λ n. LinksMean n (shape_of b) (link_of m) (said_of (reverse added))) (sym grows.variables)
          (subst (λ f. LinksMean a.variables (shape_of b) f (said_of (reverse added))) (sym (fun_ext link)) means_before)

      pub linked_prepared : m.trail.items ≡ l.trail.items → length m.terms.items ≡ length b.nodes.items → length m.variables.items ≡ length l.variables.items → IsLinked b m
      linked_prepared trail terms variables =
          IsLinked-grown a b l m newest.arena grown grows newest.linked newest.inside newest.past newest.trail_nodes link trail terms (variables ∙ store.variables)

      -- no trees make the nodes equal, so no valuation makes the terms equal
      pub never_adds : (asked : List (ℕ × ℕ)) (s t : Tree) → Demands (shape_of b) s t asked → NeverMeets (shape_of b) (link_of m) asked → NeverAdds a added s t
      never_adds asked s t demands never solvable =
          let v = solvable.valuation in
          let parts = All-pop (λ e. under v e.0 ≡ under v e.1) (said_of added ++ (s, t) ∷ []) (said_of added) (Some (s, t)) refl solvable.solves.equal in
          never (at v) (means_prepared.says (at v) (said_backward (λ e. under v e.0 ≡ under v e.1) added parts.0)) (demands.forth (at v) parts.1)

  -- what an addition left can be taken back
  module _ (b : Arena) (m : Links) (g : IsGrown a l b m) (to : Sizes)
      (nodes_to : to.nodes ≡ length a.nodes.items) (text_to : to.text ≡ length a.text.items) (trail_to : to.trail ≡ length l.trail.items) where
    more_is : drop to.trail m.trail.items ≡ g.more
    more_is = ap₂ (λ n ns. drop n ns) trail_to g.trail ∙ drop-append_seam l.trail.items g.more

    pub back_places : All (HasNode m) (drop to.trail m.trail.items)
    back_places = subst (All (HasNode m)) (sym more_is) g.places

    back_link : (k : ℕ) → rewound (link_of m) (drop to.trail m.trail.items) k ≡ link_of l k
    back_link k = ap (λ ns. rewound (link_of m) ns k) more_is ∙ g.back k

    pub back_past : (k : ℕ) → to.nodes ≤ k → k < FIRST_VARIABLE → rewound (link_of m) (drop to.trail m.trail.items) k ≡ k
    back_past k h term =
        let size = store.terms in
        back_link k ∙ link_in-term l.terms.items l.variables.items k term ∙ get_or-eq_default l.terms.items k (omega arith)

    module _ (c : Arena) (n : Links)
        (nodes : c.nodes.items ≡ take to.nodes b.nodes.items) (text : c.text.items ≡ take to.text b.text.items) (variables : c.variables ≡ b.variables)
        (link : (k : ℕ) → link_of n k ≡ rewound (link_of m) (drop to.trail m.trail.items) k)
        (cut : IsCut m n to) where
      same_nodes : c.nodes.items ≡ a.nodes.items
      same_nodes = nodes ∙ ap (λ i. take i b.nodes.items) nodes_to ∙ take-IsPrefix a.nodes.items b.nodes.items g.grows.nodes

      same_text : c.text.items ≡ a.text.items
      same_text = text ∙ ap (λ i. take i b.text.items) text_to ∙ take-IsPrefix a.text.items b.text.items g.grows.text

      same_variables : c.variables ≡ a.variables
      same_variables = variables ∙ g.grows.variables

      pub restored : IsStore c n added
      restored = record {
        levels = AreLevels-same a.variables c.variables a.nodes.items c.nodes.items a.text.items c.text.items (link_of l) (link_of n) l.trail.items n.trail.items (reverse added)
            same_variables same_nodes same_text (λ k. link k ∙ back_link k)
            (cut.trail ∙ ap₂ (λ i ns. take i ns) trail_to g.trail ∙ take-append_seam l.trail.items g.more) store.levels;
        terms =
            let size = store.terms in
            let longer = g.terms in
            let one = length-take to.nodes m.terms.items in
            let two = cut.terms in
            let three = ap length same_nodes in
            omega arith;
        variables = cut.variables ∙ g.variables ∙ store.variables ∙ sym same_variables;
        few = subst (λ x. x < 4294967296) (sym same_variables) store.few;
      }

  -- an addition that is kept
  module _ (b : Arena) (m : Links) (g : IsGrown a l b m) (s t : Tree) (is : IsAdded b m added s t) (e : Added)
      (said : equation_of e ≡ (s, t))
      (nodes_to : e.before.nodes ≡ length a.nodes.items) (text_to : e.before.text ≡ length a.text.items) (trail_to : e.before.trail ≡ length l.trail.items) where
    pub kept : IsStore b m (added ++ e ∷ [])
    kept = record {
      levels = subst (AreLevels b.variables b.nodes.items b.text.items (link_of m) m.trail.items) (sym (reverse-append added (e ∷ []))) (
        record {
          arena = is.linked.arena;
          linked = is.linked.linked;
          inside = is.linked.inside;
          past = past_tables b m is.linked.terms is.linked.variables;
          trail_nodes = is.linked.trail;
          means = subst (λ q. LinksMean b.variables (shape_of b) (link_of m) (q ∷ said_of (reverse added))) (sym said) is.means;
        },
        AreLevels-same a.variables b.variables a.nodes.items (take e.before.nodes b.nodes.items) a.text.items (take e.before.text b.text.items)
            (link_of l) (rewound (link_of m) (drop e.before.trail m.trail.items)) l.trail.items (take e.before.trail m.trail.items) (reverse added)
            g.grows.variables (ap (λ i. take i b.nodes.items) nodes_to ∙ take-IsPrefix a.nodes.items b.nodes.items g.grows.nodes)
            (ap (λ i. take i b.text.items) text_to ∙ take-IsPrefix a.text.items b.text.items g.grows.text)
            (λ k. ap (λ ns. rewound (link_of m) ns k) (ap₂ (λ n ns. drop n ns) trail_to g.trail ∙ drop-append_seam l.trail.items g.more) ∙ g.back k)
            (ap₂ (λ n ns. take n ns) trail_to g.trail ∙ take-append_seam l.trail.items g.more) store.levels,
      );
      terms = is.linked.terms;
      variables = is.linked.variables;
      few = subst (λ x. x < 4294967296) (sym g.grows.variables) store.few;
    }

    pub kept_equations : said_of (added ++ e ∷ []) ≡ said_of added ++ (s, t) ∷ []
    kept_equations = map-append equation_of added (e ∷ []) ∙ ap (λ (q : Equation). said_of added ++ q ∷ []) said

-- links that were extended can be taken back
pub IsGrown-solved : (a b : Arena) (l m n : Links) → Grows a b → ((k : ℕ) → link_of m k ≡ link_of l k) → m.trail.items ≡ l.trail.items
    → length l.terms.items ≤ length m.terms.items → length m.variables.items ≡ length l.variables.items
    → Extends m n → IsLinked b n → IsGrown a l b n
IsGrown-solved a b l m n grows link trail terms variables x linked = record {
  grows = grows;
  more = x.more;
  trail = x.trail ∙ ap (λ ns. ns ++ x.more) trail;
  back = λ k. x.back k ∙ link k;
  places = subst (All (HasNode n)) (ap (drop (length m.trail.items)) x.trail ∙ drop-append_seam m.trail.items x.more)
      (All-drop (HasNode n) (length m.trail.items) n.trail.items (All-weaker (HasLinkIn b) (HasNode n) (place_of b n linked) n.trail.items linked.trail));
  terms = (let same = x.terms in omega arith);
  variables = x.variables ∙ variables;
}

-- so can tables that have only become longer
pub IsGrown-prepared : (a b : Arena) (l m : Links) → Grows a b → ((k : ℕ) → link_of m k ≡ link_of l k) → m.trail.items ≡ l.trail.items
    → length l.terms.items ≤ length m.terms.items → length m.variables.items ≡ length l.variables.items
    → IsGrown a l b m
IsGrown-prepared a b l m grows link trail terms variables = record {
  grows = grows;
  more = [];
  trail = trail ∙ sym (append-nil l.trail.items);
  back = link;
  places = All-nil (HasNode m);
  terms = terms;
  variables = variables;
}

pub said-length : (added : List Added) → length (said_of added) ≡ length added
said-length [] = refl
said-length (e ∷ added) = let rest = said-length added in omega arith

-- the newest equation is the last
pub said_newest : (added rest : List Added) (e : Added) → added ≡ rest ++ e ∷ [] → said_of rest ≡ take (length added - 1) (said_of added)
said_newest added rest e split =
    let count : length added - 1 ≡ length (said_of rest) =
    (let one = ap length split in
    let two = length-append rest (e ∷ []) in
    let three = said-length rest in
    omega arith) in
    sym (take-append_seam (said_of rest) (equation_of e ∷ []))
    ∙ ap₂ (λ i es. take i es) (sym count) (sym (ap said_of split ∙ map-append equation_of rest (e ∷ [])))

-- the newest equation is taken back
module _ (a : Arena) (l : Links) (added rest : List Added) (e : Added) (store : IsStore a l added) (split : added ≡ rest ++ e ∷ []) where
  before : AreLevels a.variables (take e.before.nodes a.nodes.items) (take e.before.text a.text.items) (rewound (link_of l) (drop e.before.trail l.trail.items)) (take e.before.trail l.trail.items) (reverse rest)
  before =
      let turned : reverse added ≡ e ∷ reverse rest = ap reverse split ∙ reverse-append rest (e ∷ []) in
      (subst (AreLevels a.variables a.nodes.items a.text.items (link_of l) l.trail.items) turned store.levels).1

  level : IsLevel a.variables (take e.before.nodes a.nodes.items) (take e.before.text a.text.items) (rewound (link_of l) (drop e.before.trail l.trail.items)) (take e.before.trail l.trail.items) (reverse rest)
  level = level_of a.variables (take e.before.nodes a.nodes.items) (take e.before.text a.text.items) (rewound (link_of l) (drop e.before.trail l.trail.items)) (take e.before.trail l.trail.items) (reverse rest) before

  pub newest_places : All (HasNode l) (drop e.before.trail l.trail.items)
  newest_places =
      All-drop (HasNode l) e.before.trail l.trail.items
      (All-weaker (HasLinkIn a) (HasNode l) (place_of a l (store_linked a l added store)) l.trail.items (newest a l added store).trail_nodes)

  pub newest_past : (k : ℕ) → e.before.nodes ≤ k → k < FIRST_VARIABLE → rewound (link_of l) (drop e.before.trail l.trail.items) k ≡ k
  newest_past k h term =
      elim (level.past k) [
        | inl inside ↦
            elim inside [
              | inl below ↦ absurd (omega (arith, length-take e.before.nodes a.nodes.items))
              | inr above ↦ (let high = above.0 in absurd (omega arith))
            ]
        | inr same ↦ same
      ]

  module _ (c : Arena) (n : Links)
      (nodes : c.nodes.items ≡ take e.before.nodes a.nodes.items) (text : c.text.items ≡ take e.before.text a.text.items) (variables : c.variables ≡ a.variables)
      (link : (k : ℕ) → link_of n k ≡ rewound (link_of l) (drop e.before.trail l.trail.items) k)
      (cut : IsCut l n e.before) where
    pub newest_store : IsStore c n rest
    newest_store = record {
      levels = AreLevels-same a.variables c.variables (take e.before.nodes a.nodes.items) c.nodes.items (take e.before.text a.text.items) c.text.items
          (rewound (link_of l) (drop e.before.trail l.trail.items)) (link_of n) (take e.before.trail l.trail.items) n.trail.items (reverse rest)
          variables nodes text link cut.trail before;
      terms =
          let size = store.terms in
          let one = length-take e.before.nodes l.terms.items in
          let two = cut.terms in
          let three = ap length nodes in
          let four = length-take e.before.nodes a.nodes.items in
          omega arith;
      variables = cut.variables ∙ store.variables ∙ sym variables;
      few = subst (λ x. x < 4294967296) (sym variables) store.few;
    }

-- terms that nothing makes equal are never equal beside any equations
pub never_equal_adds : (a : Arena) (added : List Added) (j k : ℕ) (s t : Tree) → NeverEqual s t → NeverAdds a added (raised j s) (raised k t)
never_equal_adds a added j k s t never solvable =
    let v = solvable.valuation in
    let equal = (All-pop (λ e. under v e.0 ≡ under v e.1) (said_of added ++ (raised j s, raised k t) ∷ []) (said_of added) (Some (raised j s, raised k t)) refl solvable.solves.equal).1 in
    never (λ n. at v (n + j)) (λ n. at v (n + k))
    (sym (instance-instance (at v) (λ n. Variable (n + j)) s) ∙ equal ∙ instance-instance (at v) (λ n. Variable (n + k)) t)

-- neither are terms that no trees make equal
pub never_asked : (a : Arena) (added : List Added) (s t : Tree) → NeverAsks a [] (AreEqual s t) → NeverAdds a added s t
never_asked a added s t never solvable =
    let v = solvable.valuation in
    never (at v) (All-nil (λ p. label (shape_of a) (at v) p.0 ≡ label (shape_of a) (at v) p.1))
    (All-pop (λ e. under v e.0 ≡ under v e.1) (said_of added ++ (s, t) ∷ []) (said_of added) (Some (s, t)) refl solvable.solves.equal).1

-- what a walk from no pairs asks
pub demands_asked : (a b : Arena) (s t : Tree) (asked : List (ℕ × ℕ)) → Asks a [] (AreEqual s t) b asked Always → Demands (shape_of b) s t asked
demands_asked a b s t asked asks = record {
  forth = λ v e. (asks.forth v (All-nil (λ p. label (shape_of a) v p.0 ≡ label (shape_of a) v p.1)) e).0;
  back = λ v h. (asks.back v h tt).1;
}
