-- What one goal without tuples does, as the program finds it, whatever the tuples and the effects.
use Rattle.std.proofs.Common.{◌≡◌, ℤ, Bool, false, IsTrue, List, [], ◌∷◌, ◌++◌, refl, sym, ap, subst, Ok, Err, IfOk, Result}
use Rattle.tc_term.specs.Tree.{Tree, Number}
use Rattle.tc_term.specs.TreeView.{tree_of}
use Rattle.tc_term.specs.Arithmetic.{holds}
use Rattle.tc_term.specs.Equations.{Equations, Solvable, HasValue, with_pair}
use Rattle.tc_term.specs.declared.terms.Term.{Term}
use Rattle.tc_term.specs.declared.comparison.Cmp.{Cmp}
use Rattle.tc_model.specs.Choices.{Choice}
use Rattle.tc_model.specs.Goals.{Scene, Nothing, Equates, IsStuck, Does, moved, width, Evaluates}
use Rattle.tc_model.specs.declared.items.Effect.{Effect}
use Rattle.tc_model.specs.declared.goals.Goal.{Goal}
use Rattle.tc_model.specs.declared.goals.Goal.TheVariants.{Is, Compare}
use Rattle.tc_goals.specs.Moments.{moment, IsDoneBy, EvaluatesIn}

module _ (scene : Scene) (s : Equations) (w : s.vars ≡ width scene) (before : Solvable s.vars s.pairs) where
  starts : Solvable (width scene) s.pairs
  starts = subst (λ n. Solvable n s.pairs) w before

  -- the goal is done by each choice, among whatever tuples and effects
  abbrev pub Done : Goal → Equations → Type 0
  Done g t = (choice : Choice) (us : List Tree) (es : List Effect) → IsDoneBy choice scene g (moment s us es) (moment t us es)

  abbrev pub Stuck : Goal → Type 0
  Stuck g = (us : List Tree) (es : List Effect) → IsStuck scene g (moment s us es)

  -- a goal that does nothing
  pub still_done : (g : Goal) → ((choice : Choice) (us : List Tree) (es : List Effect) → Does choice scene g (moment s us es) Nothing) → Done g s
  still_done g does choice us es =
      record { move = Nothing; step = record { before = starts; does = does choice us es; behind = starts }; leads = refl }

  -- a goal that adds an equation
  pub equates_done : (g : Goal) (x y : Tree) (t : Equations)
      → ((choice : Choice) (us : List Tree) (es : List Effect) → Does choice scene g (moment s us es) (Equates x y))
      → t ≡ with_pair s x y → Solvable t.vars t.pairs → Done g t
  equates_done g x y t does e behind choice us es = record {
    move = Equates x y;
    step = record {
      before = starts;
      does = does choice us es;
      behind = subst (λ n. Solvable n (s.pairs ++ (x, y) ∷ [])) w (subst (λ (q : Equations). Solvable q.vars q.pairs) e behind);
    };
    leads = ap (λ (q : Equations). moment q us es) e;
  }

  evaluates : (us : List Tree) (es : List Effect) (t : Term) (i : ℤ) → EvaluatesIn s (tree_of t) i → Evaluates scene (moment s us es) (tree_of t) i
  evaluates us es t i h = record { value = h.value; is = subst (λ n. HasValue n s.pairs (tree_of t) h.value) w h.is; evaluates = h.evaluates }

  evaluates_back : (us : List Tree) (es : List Effect) (t : Term) (i : ℤ) → Evaluates scene (moment s us es) (tree_of t) i → EvaluatesIn s (tree_of t) i
  evaluates_back us es t i h = record { value = h.value; is = subst (λ n. HasValue n s.pairs (tree_of t) h.value) (sym w) h.is; evaluates = h.evaluates }

  -- the same for the answer of a call, which may be want of memory
  pub equates_yes : {E : Type 0} (g : Goal) (x y : Tree) (q : Equations) (r : Result Bool E)
      → ((choice : Choice) (us : List Tree) (es : List Effect) → Does choice scene g (moment s us es) (Equates x y))
      → Solvable q.vars q.pairs
      → IfOk r (λ z. IsTrue z → q ≡ with_pair s x y)
      → IfOk r (λ z. IsTrue z → Done g q)
  equates_yes g x y q (Ok z) does behind h = λ e. equates_done g x y q does (h e) behind
  equates_yes g x y q (Err e) does behind h = h

  pub assign_yes : {E : Type 0} (x t : Term) (q : Equations) (r : Result Bool E) → Solvable q.vars q.pairs
      → IfOk r (λ z. IsTrue z → (i : ℤ) × EvaluatesIn s (tree_of t) i × (q ≡ with_pair s (tree_of x) (Number i)))
      → IfOk r (λ z. IsTrue z → Done (Is x t) q)
  assign_yes x t q (Ok z) behind h = λ e.
      let d = h e in
      equates_done (Is x t) (tree_of x) (Number d.0) q (λ choice us es. (d.0, evaluates us es t d.0 d.1, refl)) d.2 behind
  assign_yes x t q (Err e) behind h = h

  pub assign_no : {E : Type 0} (x t : Term) (r : Result Bool E)
      → IfOk r (λ z. z ≡ false → (i : ℤ) → EvaluatesIn s (tree_of t) i → Solvable s.vars (s.pairs ++ (tree_of x, Number i) ∷ []) → ⊥)
      → IfOk r (λ z. z ≡ false → Stuck (Is x t))
  assign_no x t (Ok z) h = λ e us es move step.
      let d = step.does in
      h e d.0 (evaluates_back us es t d.0 d.1)
      (subst (λ n. Solvable n (s.pairs ++ (tree_of x, Number d.0) ∷ [])) (sym w)
      (subst (λ m. Solvable (width scene) (moved m (moment s us es)).pairs) d.2 step.behind))
  assign_no x t (Err e) h = h

  pub compare_yes : {E : Type 0} (op : Cmp) (x t : Term) (r : Result Bool E)
      → IfOk r (λ z. IsTrue z → (i : ℤ) × (j : ℤ) × EvaluatesIn s (tree_of x) i × EvaluatesIn s (tree_of t) j × IsTrue (holds op i j))
      → IfOk r (λ z. IsTrue z → Done (Compare op x t) s)
  compare_yes op x t (Ok z) h = λ e.
      let d = h e in
      still_done (Compare op x t) (λ choice us es. (d.0, d.1, evaluates us es x d.0 d.2, evaluates us es t d.1 d.3, d.4, refl))
  compare_yes op x t (Err e) h = h

  pub compare_no : {E : Type 0} (op : Cmp) (x t : Term) (r : Result Bool E)
      → IfOk r (λ z. z ≡ false → (i j : ℤ) → EvaluatesIn s (tree_of x) i → EvaluatesIn s (tree_of t) j → IsTrue (holds op i j) → ⊥)
      → IfOk r (λ z. z ≡ false → Stuck (Compare op x t))
  compare_no op x t (Ok z) h = λ e us es move step.
      let d = step.does in
      h e d.0 d.1 (evaluates_back us es x d.0 d.2) (evaluates_back us es t d.1 d.3) d.4
  compare_no op x t (Err e) h = h
