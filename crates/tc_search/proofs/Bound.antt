-- Binding a variable to a part of a tuple, and what that says of trees for the variables.
use Rattle.std.proofs.Common.{◌≡◌, ◌<◌, inl, inr, ℕ, IsTrue, List, [], length, get_or, set, refl, ap, sym, subst, ◌∙◌}
use Rattle.std.specs.Prelude.{Option, Some, None}
use Rattle.std.specs.Borrow.{Bor}
use Rattle.std.proofs.lemmas.Bool.{cases_eq, cases_lt}
use Rattle.std.proofs.lemmas.List.{get_or-set_same, get_or-set_other, get_or_past}
use Rattle.std.proofs.lemmas.Option.{none-some, same_Some}
use Rattle.tc_term.specs.declared.terms.Term.{Term}
use Rattle.tc_term.specs.Equations.{Matches, at, under}
use Rattle.tc_term.specs.Tree.{Tree, Variable, Atomic, is_ground}
use Rattle.tc_term.specs.TreeView.{tree_of}
use Rattle.tc_term.specs.Variables.{instance, var_bound}
use Rattle.tc_term.proofs.Instances.{instance-same}
use Rattle.tc_term.proofs.Matching.{valuation_of, at-valuation_of, Solves-one, Matches-one}
use Rattle.tc_unify.specs.Splits.{Always}
use Rattle.tc_search.specs.Bindings.{FollowsBindings, IsFree, AreGround, MakesTuple, Binds, NeverBinds}

-- a variable that is bound
module _ (bound : List (Option (Bor Term))) (n : ℕ) (first : Bor Term) (t : Tree) (is : get_or bound n None ≡ Some first) where
  pub bound_same : tree_of first.now ≡ t → Binds bound (MakesTuple (Variable n) t) bound Always
  bound_same same = record {
    forth = λ f h p. (h, tt);
    back = λ f h q. (h, h n first is ∙ same);
  }

  pub bound_differs : (tree_of first.now ≡ t → ⊥) → NeverBinds bound (MakesTuple (Variable n) t)
  bound_differs differ f h p = differ (sym (h n first is) ∙ p)

-- what a place has once a variable is bound
module _ (bound : List (Option (Bor Term))) (n : ℕ) (tuple : Bor Term) (inside : n < length bound) where
  now_there : (k : ℕ) (t : Bor Term) → k ≡ n → get_or (set bound n (Some tuple)) k None ≡ Some t → t ≡ tuple
  now_there k t e h =
      same_Some t tuple (sym h ∙ ap (λ i. get_or (set bound n (Some tuple)) i None) e ∙ get_or-set_same bound n (Some tuple) None inside)

  as_before : (k : ℕ) (t : Bor Term) → (k ≡ n → ⊥) → get_or (set bound n (Some tuple)) k None ≡ Some t → get_or bound k None ≡ Some t
  as_before k t ne h = sym (get_or-set_other bound n k (Some tuple) None ne) ∙ h

  pub bound_new : get_or bound n None ≡ None → Binds bound (MakesTuple (Variable n) (tree_of tuple.now)) (set bound n (Some tuple)) Always
  bound_new free = record {
    forth = λ f h p. (
      λ k t e. elim (cases_eq k n) [
        | inl same ↦ ap f same ∙ p ∙ ap (λ (x : Bor Term). tree_of x.now) (sym (now_there k t same e))
        | inr other ↦ h k t (as_before k t other e)
      ],
      tt,
    );
    back = λ f h q. (
      λ k t e. elim (cases_eq k n) [
        | inl same ↦ absurd (none-some t (sym free ∙ ap (λ i. get_or bound i None) (sym same) ∙ e))
        | inr other ↦ h k t (get_or-set_other bound n k (Some tuple) None other ∙ e)
      ],
      h n tuple (get_or-set_same bound n (Some tuple) None inside),
    );
  }

  pub ground_new : IsTrue (is_ground (tree_of tuple.now)) → AreGround bound → AreGround (set bound n (Some tuple))
  ground_new ground all k t e =
      elim (cases_eq k n) [
        | inl same ↦ subst (λ (x : Bor Term). IsTrue (is_ground (tree_of x.now))) (sym (now_there k t same e)) ground
        | inr other ↦ all k t (as_before k t other e)
      ]

-- where no variable is bound
module _ (bound : List (Option (Bor Term))) (free : IsFree bound) where
  nothing : (n : ℕ) (t : Bor Term) → get_or bound n None ≡ Some t → ⊥
  nothing n t e =
      elim (cases_lt n (length bound)) [
        | inl inside ↦ none-some t (sym (free n None inside) ∙ e)
        | inr past ↦ none-some t (sym (get_or_past bound n None past) ∙ e)
      ]

  pub Follows-free : (f : ℕ → Tree) → FollowsBindings f bound
  Follows-free f n t e = absurd (nothing n t e)

  pub AreGround-free : AreGround bound
  AreGround-free n t e = absurd (nothing n t e)

-- the tree that a variable is bound to; of one that isn't, some tree
abbrev tree_at : Option (Bor Term) → Tree
tree_at (Some t) = tree_of t.now
tree_at None = Atomic []

abbrev trees_at : List (Option (Bor Term)) → ℕ → Tree
trees_at bound n = tree_at (get_or bound n None)

Follows-trees : (bound : List (Option (Bor Term))) → FollowsBindings (trees_at bound) bound
Follows-trees bound n t e = ap tree_at e

ground-trees : (bound : List (Option (Bor Term))) → AreGround bound → (n : ℕ) → IsTrue (is_ground (trees_at bound n))
ground-trees bound all n =
    let at_place : (b : Option (Bor Term)) → get_or bound n None ≡ b → IsTrue (is_ground (tree_at b)) = λ b e. ground_at b e in
    at_place (get_or bound n None) refl
  where
    ground_at : (b : Option (Bor Term)) → get_or bound n None ≡ b → IsTrue (is_ground (tree_at b))
    ground_at (Some t) e = all n t e
    ground_at None e = refl

-- a template matches a tuple where the walk binds its variables, and where it never does it doesn't
module _ (template tuple : Tree) (ground : IsTrue (is_ground tuple)) (old : List (Option (Bor Term))) (free : IsFree old) where
  pub matches_bound : (new : List (Option (Bor Term))) → AreGround new → Binds old (MakesTuple template tuple) new Always → Matches (var_bound template) [] template tuple
  matches_bound new all binds =
      let f = trees_at new in
      let n = var_bound template in
      let equal : instance f template ≡ tuple = (binds.back f (Follows-trees new) tt).1 in
      let alike : under (valuation_of f n) template ≡ instance f template =
      instance-same (at (valuation_of f n)) f template (λ i below. at-valuation_of f n i below) in
      record {
        valuation = valuation_of f n;
        solves = Solves-one f n template tuple (ground-trees new all) ground (alike ∙ equal);
      }

  pub matches_never : NeverBinds old (MakesTuple template tuple) → Matches (var_bound template) [] template tuple → ⊥
  matches_never never match =
      let v = match.valuation in
      never (at v) (Follows-free old free (at v)) (Matches-one (var_bound template) template tuple v ground match.solves)
