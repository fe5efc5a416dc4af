-- An arena that grows keeps what its links mean.
use Rattle.tc_lists.proofs.Prefixes.{length-IsPrefix}
use Rattle.std.proofs.Common.{◌≡◌, ℕ, ◌+◌, ◌<◌, ◌≤◌, ◌⊎◌, inl, inr, List, [], ◌∷◌, length, reverse, sym, ap, ◌∙◌, subst, arith, All}
use Rattle.std.proofs.Math.Path.{fun_ext}
use Rattle.std.proofs.Math.ListN.{get_or-eq_default}
use Rattle.std.proofs.lemmas.Bool.{cases_lt}
use Rattle.std.proofs.lemmas.List.{reverse-reverse}
use Rattle.std.proofs.lemmas.List.Elements.{All-weaker, All-map}
use Rattle.tc_term.specs.Tree.{Tree}
use Rattle.tc_term.specs.Equations.{Equation, at}
use Rattle.tc_unify.specs.declared.nodes.TheConstants.{FIRST_VARIABLE}
use Rattle.tc_unify.specs.declared.nodes.Node.{Node}
use Rattle.tc_unify.specs.declared.nodes.Arena.{Arena}
use Rattle.tc_unify.specs.declared.links.Links.{Links}
use Rattle.tc_unify.specs.declared.sizes.Added.{Added}
use Rattle.tc_unify.specs.Nodes.{IsTerm, tree_of_node, label}
use Rattle.tc_unify.specs.Links.{Respects}
use Rattle.tc_unify.specs.Solutions.{AreLinked, LinksMean}
use Rattle.tc_unify.specs.Arena.{IsInside, IsArena, IsNodeOf, HasLinkIn, Grows, shape_of}
use Rattle.tc_unify.specs.Tables.{link_of}
use Rattle.tc_unify.specs.Meeting.{IsLinked}
use Rattle.tc_unify.specs.Stores.{equation_of, said_of, IsLevel, AreLevels}
use Rattle.tc_unify.proofs.Arenas.{inside_link, shape_in-grows, label-grows, IsTerm-below, term_below}
use Rattle.tc_unify.proofs.Tables.{link_in-term, link_in-variable}
use Rattle.tc_lists.proofs.Elements.{All-from_map, All-reverse}

pub level_of : (count : ℕ) (nodes : List Node) (text : List ℕ) (link : ℕ → ℕ) (trail : List ℕ) (added : List Added) → AreLevels count nodes text link trail added → IsLevel count nodes text link trail added
level_of count nodes text link trail [] h = h
level_of count nodes text link trail (e ∷ added) h = h.0

module _ (old new : Arena) (link : ℕ → ℕ) (es : List Equation)
    (arena : IsArena old) (grown : IsArena new) (grows : Grows old new)
    (inside : (k : ℕ) → IsNodeOf old k → IsNodeOf old (link k))
    (past : (k : ℕ) → HasLinkIn old k ⊎ (link k ≡ k)) where
  own : (k : ℕ) → HasLinkIn old k → IsNodeOf old k
  own k h = inside_link old.nodes.items old.variables k h

  same_label : (v : ℕ → Tree) (k : ℕ) → IsNodeOf old k → label (shape_of new) v k ≡ label (shape_of old) v k
  same_label v k h = label-grows old.nodes.items new.nodes.items old.text.items new.text.items old.variables arena grows.nodes grows.text v k h

  same_shape : (k : ℕ) → IsNodeOf old k → shape_of new k ≡ shape_of old k
  same_shape k h = shape_in-grows old.nodes.items new.nodes.items old.text.items new.text.items old.variables arena grows.nodes grows.text k h

  respects_new : (v : ℕ → Tree) → Respects (label (shape_of old) v) link → Respects (label (shape_of new) v) link
  respects_new v r k =
      elim (past k) [
        | inl h ↦ same_label v k (own k h) ∙ r k ∙ sym (same_label v (link k) (inside k (own k h)))
        | inr e ↦ ap (label (shape_of new) v) (sym e)
      ]

  respects_old : (v : ℕ → Tree) → Respects (label (shape_of new) v) link → Respects (label (shape_of old) v) link
  respects_old v r k =
      elim (past k) [
        | inl h ↦ sym (same_label v k (own k h)) ∙ r k ∙ same_label v (link k) (inside k (own k h))
        | inr e ↦ ap (label (shape_of old) v) (sym e)
      ]

  pub Means-grows : LinksMean old.variables (shape_of old) link es → LinksMean old.variables (shape_of new) link es
  Means-grows means = record {
    says = λ v h. respects_new v (means.says v h);
    said = λ v r. means.said v (respects_old v r);
    alike = λ F r v k term.
        elim (past k) [
          | inl h ↦
              ap (tree_of_node v F) (same_shape k (own k h))
              ∙ means.alike F r v k (subst IsTerm (same_shape k (own k h)) term)
              ∙ ap (tree_of_node v F) (sym (same_shape (link k) (inside k (own k h))))
          | inr e ↦ ap (λ j. tree_of_node v F (shape_of new j)) (sym e)
        ];
    solution = means.solution;
    solves = record { valuation = means.solves.valuation; respects = respects_new (at means.solution) means.solves.respects };
  }

inside_longer : (nodes more : List Node) (count k : ℕ) → length nodes ≤ length more → IsInside nodes count k → IsInside more count k
inside_longer nodes more count k h (inl i) = inl (omega arith)
inside_longer nodes more count k h (inr i) = inr i

-- links of an arena that has grown, in tables that have grown with it
pub IsLinked-grown : (old new : Arena) (l m : Links) → IsArena old → IsArena new → Grows old new
    → AreLinked (shape_of old) (link_of l)
    → ((k : ℕ) → IsNodeOf old k → IsNodeOf old (link_of l k))
    → ((k : ℕ) → HasLinkIn old k ⊎ (link_of l k ≡ k))
    → All (HasLinkIn old) l.trail.items
    → ((k : ℕ) → link_of m k ≡ link_of l k)
    → m.trail.items ≡ l.trail.items
    → length m.terms.items ≡ length new.nodes.items
    → length m.variables.items ≡ old.variables
    → IsLinked new m
IsLinked-grown old new l m arena grown grows linked inside past trail link same terms variables = record {
  arena = grown;
  linked = subst (AreLinked (shape_of new)) (sym (fun_ext link)) (record {
    order = grown.order;
    falls = linked.falls;
    terms = λ k term.
        let below = term_below new.nodes.items new.text.items k term in
        IsTerm-below new.nodes.items new.text.items (link_of l k)
        (elim (linked.falls k) [ inl e ↦ omega arith | inr lower ↦ omega arith ]);
  });
  inside = λ k h.
      subst (IsNodeOf new) (sym (link k))
      (elim (past k) [ inl i ↦ longer (link_of l k) (inside k (inside_link old.nodes.items old.variables k i)) | inr e ↦ subst (IsNodeOf new) (sym e) h ]);
  terms = terms;
  variables = variables ∙ sym grows.variables;
  trail = subst (All (HasLinkIn new)) (sym same) (All-weaker (HasLinkIn old) (HasLinkIn new) longer_link l.trail.items trail);
}
  where
    longer : (k : ℕ) → IsNodeOf old k → IsNodeOf new k
    longer k h = subst (λ n. IsInside new.nodes.items n k) (sym grows.variables) (inside_longer old.nodes.items new.nodes.items old.variables k (length-IsPrefix old.nodes.items new.nodes.items grows.nodes) h)

    longer_link : (k : ℕ) → HasLinkIn old k → HasLinkIn new k
    longer_link k (inl h) = (let more = length-IsPrefix old.nodes.items new.nodes.items grows.nodes in inl (omega arith))
    longer_link k (inr h) = inr (h.0, subst (λ n. k < FIRST_VARIABLE + n) (sym grows.variables) h.1)

-- nodes past the tables link to themselves
pub past_tables : (a : Arena) (l : Links) → length l.terms.items ≡ length a.nodes.items → length l.variables.items ≡ a.variables → (k : ℕ) → HasLinkIn a k ⊎ (link_of l k ≡ k)
past_tables a l terms variables k =
    elim (cases_lt k FIRST_VARIABLE) [
      | inl term ↦
          elim (cases_lt k (length a.nodes.items)) [
            | inl below ↦ inl (inl below)
            | inr above ↦ inr (link_in-term l.terms.items l.variables.items k term ∙ get_or-eq_default l.terms.items k (omega arith))
          ]
      | inr free ↦
          elim (cases_lt k (FIRST_VARIABLE + a.variables)) [
            | inl below ↦ inl (inr (free, below))
            | inr above ↦ inr (link_in-variable l.terms.items l.variables.items k free ∙ get_or-eq_default l.variables.items k (omega arith))
          ]
    ]

-- equal parts have equal levels
pub AreLevels-same : (count other : ℕ) (nodes nodes2 : List Node) (text text2 : List ℕ) (link link2 : ℕ → ℕ) (trail trail2 : List ℕ) (added : List Added)
    → other ≡ count → nodes2 ≡ nodes → text2 ≡ text → ((k : ℕ) → link2 k ≡ link k) → trail2 ≡ trail
    → AreLevels count nodes text link trail added → AreLevels other nodes2 text2 link2 trail2 added
AreLevels-same count other nodes nodes2 text text2 link link2 trail trail2 added c n t e r h =
    subst (λ x. AreLevels x nodes2 text2 link2 trail2 added) (sym c)
    (subst (λ x. AreLevels count x text2 link2 trail2 added) (sym n)
    (subst (λ x. AreLevels count nodes x link2 trail2 added) (sym t)
    (subst (λ x. AreLevels count nodes text x trail2 added) (sym (fun_ext e))
    (subst (λ x. AreLevels count nodes text link x added) (sym r) h))))

-- what holds of all equations holds in either order
pub said_backward : (P : Equation → Type 0) (added : List Added) → All P (said_of added) → All P (said_of (reverse added))
said_backward P added h =
    All-map P equation_of (reverse added)
    (All-reverse (λ e. P (equation_of e)) added (All-from_map P equation_of added h))

pub said_forward : (P : Equation → Type 0) (added : List Added) → All P (said_of (reverse added)) → All P (said_of added)
said_forward P added h =
    subst (λ xs. All P (said_of xs)) (reverse-reverse added)
    (said_backward P (reverse added) h)
