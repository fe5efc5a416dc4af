-- What one goal does, as the program finds it.
use Rattle.std.proofs.Common.{◌≡◌, Bool, false, IsTrue, List, [], ◌∷◌, ◌++◌, refl, sym, ap, subst, ◌∙◌, Ok, Err, IfOk, Result}
use Rattle.std.proofs.lemmas.List.{map-append}
use Rattle.tc_lists.specs.Firsts.{NoneOf, IsFirst}
use Rattle.tc_term.specs.Tree.{Tree}
use Rattle.tc_term.specs.TreeView.{tree_of}
use Rattle.tc_term.specs.Equations.{Equations, Solvable, HasValue, Matches, with_pair}
use Rattle.tc_term.specs.declared.terms.Term.{Term}
use Rattle.tc_bag.specs.Stock.{Row, Stock, tuples_of, without_age}
use Rattle.tc_model.specs.Choices.{TheFirst}
use Rattle.tc_model.specs.Tuples.{without_first}
use Rattle.tc_model.specs.Goals.{Scene, Nothing, Puts, Takes, Reads, IsStuck, Does, width}
use Rattle.tc_model.specs.declared.items.Effect.{Effect}
use Rattle.tc_model.specs.declared.goals.Goal.{Goal}
use Rattle.tc_model.specs.declared.goals.Goal.TheVariants.{OutR, InR, RdR, NoR}
use Rattle.tc_model.proofs.Removals.{without-first}
use Rattle.tc_body.specs.Moments.{moment_of, IsDone, HasPut, HasTaken, HasRead}

module _ (scene : Scene) (s : Equations) (b : Stock) (es : List Effect) (w : s.vars ≡ width scene) (before : Solvable s.vars s.pairs) where
  starts : Solvable (width scene) s.pairs
  starts = subst (λ n. Solvable n s.pairs) w before

  -- a goal that does nothing
  pub still_done : (g : Goal) → Does TheFirst scene g (moment_of s b es) Nothing
      → IsDone scene g (moment_of s b es) (moment_of s b es)
  still_done g does = record { move = Nothing; step = record { before = starts; does = does; behind = starts }; leads = refl }

  pub put_done : (t : Term) (c : Stock) (fs : List Effect) → HasPut s (tree_of t) b c es fs
      → IsDone scene (OutR t) (moment_of s b es) (moment_of s c fs)
  put_done t c fs has = record {
    move = Puts has.value;
    step = record { before = starts; does = (has.value, subst (λ n. HasValue n s.pairs (tree_of t) has.value) w has.is, refl); behind = starts };
    leads = ap (λ (q : Stock). moment_of s q fs) has.put
        ∙ (ap (λ us. record { pairs = s.pairs; tuples = us; effects = fs }) (map-append (λ (r : Row). r.tuple) b.now _)
        ∙ ap (λ hs. record { pairs = s.pairs; tuples = tuples_of b.now ++ has.value ∷ []; effects = hs }) has.recorded);
  }

  found_solvable : (t : Tree) (u : Tree) (q : Equations) → q ≡ with_pair s t u → Solvable q.vars q.pairs
      → Solvable (width scene) (s.pairs ++ (t, u) ∷ [])
  found_solvable t u q e behind = subst (λ n. Solvable n (s.pairs ++ (t, u) ∷ [])) w (subst (λ (q : Equations). Solvable q.vars q.pairs) e behind)

  pub take_done : (t : Term) (q : Equations) (c : Stock) (fs : List Effect) → HasTaken s q (tree_of t) b c es fs
      → Solvable q.vars q.pairs → IsDone scene (InR t) (moment_of s b es) (moment_of q c fs)
  take_done t q c fs h behind =
      let u = h.tuple in
      let found = h.finds.found in
      let gone : tuples_of (without_age h.age b.now) ≡ without_first u (tuples_of b.now) =
      found.left ∙ sym (without-first (Matches s.vars s.pairs (tree_of t)) (tuples_of b.now) u found.first) in
      record {
        move = Takes (tree_of t) u;
        step = record {
          before = starts;
          does = (u, subst (λ n. IsFirst (Matches n s.pairs (tree_of t)) (tuples_of b.now) u) w found.first, refl);
          behind = found_solvable (tree_of t) u q h.finds.added behind;
        };
        leads = ap (λ (r : Equations). moment_of r c fs) h.finds.added
            ∙ (ap (λ (r : Stock). moment_of (with_pair s (tree_of t) u) r fs) h.taken
            ∙ (ap (λ us. record { pairs = s.pairs ++ (tree_of t, u) ∷ []; tuples = us; effects = fs }) gone
            ∙ ap (λ hs. record { pairs = s.pairs ++ (tree_of t, u) ∷ []; tuples = without_first u (tuples_of b.now); effects = hs }) h.recorded));
      }

  pub read_done : (t : Term) (q : Equations) (fs : List Effect) → HasRead s q (tree_of t) b es fs
      → Solvable q.vars q.pairs → IsDone scene (RdR t) (moment_of s b es) (moment_of q b fs)
  read_done t q fs h behind =
      let u = h.tuple in
      record {
        move = Reads (tree_of t) u;
        step = record {
          before = starts;
          does = (u, subst (λ n. IsFirst (Matches n s.pairs (tree_of t)) (tuples_of b.now) u) w h.finds.found.first, refl);
          behind = found_solvable (tree_of t) u q h.finds.added behind;
        };
        leads = ap (λ (r : Equations). moment_of r b fs) h.finds.added
            ∙ ap (λ hs. record { pairs = s.pairs ++ (tree_of t, u) ∷ []; tuples = tuples_of b.now; effects = hs }) h.recorded;
      }

  pub absent_done : (t : Term) (q : Equations) → q ≡ s → NoneOf (Matches s.vars s.pairs (tree_of t)) (tuples_of b.now)
      → IsDone scene (NoR t) (moment_of s b es) (moment_of q b es)
  absent_done t q e none =
      subst (λ (r : Equations). IsDone scene (NoR t) (moment_of s b es) (moment_of r b es)) (sym e)
      (still_done (NoR t) (subst (λ n. NoneOf (Matches n s.pairs (tree_of t)) (tuples_of b.now)) w none, refl))

  -- the same for the answer of a call, which may be want of memory
  pub put_yes : {E : Type 0} (t : Term) (c : Stock) (fs : List Effect) (r : Result Bool E)
      → IfOk r (λ y. IsTrue y → HasPut s (tree_of t) b c es fs)
      → IfOk r (λ y. IsTrue y → IsDone scene (OutR t) (moment_of s b es) (moment_of s c fs))
  put_yes t c fs (Ok y) h = λ e. put_done t c fs (h e)
  put_yes t c fs (Err e) h = h

  pub take_yes : {E : Type 0} (t : Term) (q : Equations) (c : Stock) (fs : List Effect) (r : Result Bool E) → Solvable q.vars q.pairs
      → IfOk r (λ y. IsTrue y → HasTaken s q (tree_of t) b c es fs)
      → IfOk r (λ y. IsTrue y → IsDone scene (InR t) (moment_of s b es) (moment_of q c fs))
  take_yes t q c fs (Ok y) behind h = λ e. take_done t q c fs (h e) behind
  take_yes t q c fs (Err e) behind h = h

  pub read_yes : {E : Type 0} (t : Term) (q : Equations) (fs : List Effect) (r : Result Bool E) → Solvable q.vars q.pairs
      → IfOk r (λ y. IsTrue y → HasRead s q (tree_of t) b es fs)
      → IfOk r (λ y. IsTrue y → IsDone scene (RdR t) (moment_of s b es) (moment_of q b fs))
  read_yes t q fs (Ok y) behind h = λ e. read_done t q fs (h e) behind
  read_yes t q fs (Err e) behind h = h

  pub absent_yes : {E : Type 0} (t : Term) (q : Equations) (r : Result Bool E) → IfOk r (λ y. IsTrue y → q ≡ s)
      → IfOk r (λ y. IsTrue y → NoneOf (Matches s.vars s.pairs (tree_of t)) (tuples_of b.now))
      → IfOk r (λ y. IsTrue y → IsDone scene (NoR t) (moment_of s b es) (moment_of q b es))
  absent_yes t q (Ok y) same h = λ e. absent_done t q (same e) (h e)
  absent_yes t q (Err e) same h = h

  pub absent_no : {E : Type 0} (t : Term) (r : Result Bool E)
      → IfOk r (λ y. y ≡ false → NoneOf (Matches s.vars s.pairs (tree_of t)) (tuples_of b.now) → ⊥)
      → IfOk r (λ y. y ≡ false → IsStuck scene (NoR t) (moment_of s b es))
  absent_no t (Ok y) h = λ e move step. h e (subst (λ n. NoneOf (Matches n s.pairs (tree_of t)) (tuples_of b.now)) (sym w) step.does.0)
  absent_no t (Err e) h = h
