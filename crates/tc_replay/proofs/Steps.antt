-- What one goal does, as the program follows it.
use Rattle.std.proofs.Common.{◌≡◌, ◌⊎◌, inl, inr, Bool, false, cond, IsTrue, Contains, List, [], ◌∷◌, ◌++◌, Option, Some, refl, sym, ap, subst, ◌∙◌, Ok, Err, IfOk, Result}
use Rattle.std.proofs.lemmas.Bool.{true≢false}
use Rattle.std.proofs.lemmas.List.{map-append}
use Rattle.std.proofs.lemmas.Option.{same_Some}
use Rattle.tc_lists.specs.Firsts.{NoneOf}
use Rattle.tc_term.specs.Tree.{Tree}
use Rattle.tc_term.specs.TreeView.{tree_of}
use Rattle.tc_term.specs.Equations.{Equations, Solvable, HasValue, Matches, with_pair}
use Rattle.tc_term.specs.declared.terms.Term.{Term}
use Rattle.tc_term.proofs.Solutions.{HasValue-unique}
use Rattle.tc_bag.specs.Stock.{Row, Stock, tuples_of}
use Rattle.tc_model.specs.Choices.{Choice, AnyOne}
use Rattle.tc_model.specs.Tuples.{without_first}
use Rattle.tc_model.specs.Goals.{Scene, Moment, Move, Nothing, Equates, Puts, Takes, Reads, Does, IsStuck, moved, width}
use Rattle.tc_model.specs.declared.items.Effect.{Effect}
use Rattle.tc_model.specs.declared.items.Effect.TheVariants.{Took, Read}
use Rattle.tc_model.specs.declared.goals.Goal.{Goal}
use Rattle.tc_model.specs.declared.goals.Goal.TheVariants.{OutR, InR, RdR, NoR, Pre, Post, Success, Failure, True, Agent, Centre, Operation, Tuple, Equal, Differ, Is, Compare}
use Rattle.tc_goals.specs.Moments.{moment, IsDoneBy}
use Rattle.tc_goals.specs.TupleFree.{IsTupleFree}
use Rattle.tc_replay.specs.Following.{AgreesWith, has_effect, with_next, recorded_after, IsFollowed, HasNoStep}
use Rattle.tc_replay.specs.Meeting.{HasPutNext, PutsNoNext, HasTakenNext, TakesNoNext, HasReadNext, ReadsNoNext}
use Rattle.tc_replay.proofs.Plain.{plain_one}

-- a goal without tuples has no effect
pub free_plain : (g : Goal) → IsTupleFree g → has_effect g ≡ false
free_plain (OutR t) free = absurd free
free_plain (InR t) free = absurd free
free_plain (RdR t) free = absurd free
free_plain (NoR t) free = absurd free
free_plain Pre free = refl
free_plain Post free = refl
free_plain Success free = refl
free_plain Failure free = refl
free_plain True free = refl
free_plain (Agent t) free = refl
free_plain (Centre t) free = refl
free_plain (Operation t) free = refl
free_plain (Tuple t) free = refl
free_plain (Equal s t) free = refl
free_plain (Differ s t) free = refl
free_plain (Is s t) free = refl
free_plain (Compare op s t) free = refl

module _ (scene : Scene) where
  nothing_agrees : (next : Option Effect) (move : Move) → move ≡ Nothing → AgreesWith next move
  nothing_agrees next move is = subst (AgreesWith next) (sym is) tt

  equates_agrees : (next : Option Effect) (move : Move) (x y : Tree) → move ≡ Equates x y → AgreesWith next move
  equates_agrees next move x y is = subst (AgreesWith next) (sym is) tt

  -- what a goal without an effect does agrees with whatever comes next
  plain_agrees : (g : Goal) (m : Moment) (move : Move) (next : Option Effect) → has_effect g ≡ false → Does AnyOne scene g m move → AgreesWith next move
  plain_agrees (OutR t) m move next plain does = absurd (true≢false plain)
  plain_agrees (InR t) m move next plain does = absurd (true≢false plain)
  plain_agrees (RdR t) m move next plain does = absurd (true≢false plain)
  plain_agrees (NoR t) m move next plain does = nothing_agrees next move does.1
  plain_agrees Pre m move next plain does = nothing_agrees next move does.1
  plain_agrees Post m move next plain does = nothing_agrees next move does.1
  plain_agrees Success m move next plain does = nothing_agrees next move does.1
  plain_agrees Failure m move next plain does = nothing_agrees next move does.1
  plain_agrees True m move next plain does = nothing_agrees next move does
  plain_agrees (Agent t) m move next plain does = subst (AgreesWith next) (sym does) tt
  plain_agrees (Centre t) m move next plain does = subst (AgreesWith next) (sym does) tt
  plain_agrees (Operation t) m move next plain does = subst (AgreesWith next) (sym does) tt
  plain_agrees (Tuple t) m move next plain does = subst (AgreesWith next) (sym does) tt
  plain_agrees (Equal s t) m move next plain does = subst (AgreesWith next) (sym does) tt
  plain_agrees (Differ s t) m move next plain does = nothing_agrees next move does.1
  plain_agrees (Is s t) m move next plain does = subst (AgreesWith next) (sym does.2) tt
  plain_agrees (Compare op s t) m move next plain does = nothing_agrees next move does.5

  -- a goal without an effect that is done is followed
  pub plain_followed : (g : Goal) (m end : Moment) (next : Option Effect) → has_effect g ≡ false → IsDoneBy AnyOne scene g m end → IsFollowed scene g next m end
  plain_followed g m end next plain done = record {
    move = done.move;
    step = done.step;
    agrees = plain_agrees g m done.move next plain done.step.does;
    leads = done.leads;
    only = λ other step agrees. plain_one scene g plain m other done.move step.does done.step.does;
  }

module _ (scene : Scene) (next : Option Effect) (s : Equations) (b : Stock) (w : s.vars ≡ width scene) (before : Solvable s.vars s.pairs) where
  abbrev here : List Effect → Moment
  here es = moment s (tuples_of b.now) es

  starts : Solvable (width scene) s.pairs
  starts = subst (λ n. Solvable n s.pairs) w before

  -- the goal is followed to this moment, or isn't, whatever the effects before
  abbrev pub Followed : Goal → Equations → Stock → Type 0
  Followed g q c = (es : List Effect) → IsFollowed scene g next (here es) (moment q (tuples_of c.now) (recorded_after g next es))

  abbrev pub Unfollowed : Goal → Type 0
  Unfollowed g = (es : List Effect) → HasNoStep scene g next (here es)

  abbrev pub Stuck : Goal → Type 0
  Stuck g = (es : List Effect) → IsStuck scene g (here es)

  abbrev pub Moves : Goal → Type 0
  Moves g = (es : List Effect) → IsStuck scene g (here es) → ⊥

  at_width : (t v : Tree) → HasValue s.vars s.pairs t v → HasValue (width scene) s.pairs t v
  at_width t v has = subst (λ n. HasValue n s.pairs t v) w has

  at_store : (t v : Tree) → HasValue (width scene) s.pairs t v → HasValue s.vars s.pairs t v
  at_store t v has = subst (λ n. HasValue n s.pairs t v) (sym w) has

  put_done : (t : Term) (c : Stock) → HasPutNext s (tree_of t) next b c → Followed (OutR t) s c
  put_done t c has es = record {
    move = Puts has.value;
    step = record { before = starts; does = (has.value, at_width (tree_of t) has.value has.is, refl); behind = starts };
    agrees = has.told;
    leads = ap (λ (q : Stock). moment s (tuples_of q.now) (with_next next es)) has.put
        ∙ (ap (λ us. moment s us (with_next next es)) (map-append (λ (r : Row). r.tuple) b.now _)
        ∙ ap (λ x. moment s (tuples_of b.now ++ has.value ∷ []) (with_next x es)) has.told);
    only = λ other step agrees.
        let same = HasValue-unique (width scene) s.pairs (tree_of t) step.does.0 has.value step.does.1 (at_width (tree_of t) has.value has.is) in
        ap (λ move. moved move (here es)) (step.does.2 ∙ ap Puts same);
  }

  put_none : (t : Term) → PutsNoNext s (tree_of t) next → Unfollowed (OutR t)
  put_none t none es move step agrees =
      none step.does.0 (at_store (tree_of t) step.does.0 step.does.1) (subst (AgreesWith next) step.does.2 agrees)

  met_solvable : (t : Tree) (u : Tree) (q : Equations) → q ≡ with_pair s t u → Solvable q.vars q.pairs → Matches (width scene) s.pairs t u
  met_solvable t u q e behind = subst (λ n. Solvable n (s.pairs ++ (t, u) ∷ [])) w (subst (λ (q : Equations). Solvable q.vars q.pairs) e behind)

  take_done : (t : Term) (q : Equations) (c : Stock) → HasTakenNext s q (tree_of t) next b c → Solvable q.vars q.pairs → Followed (InR t) q c
  take_done t q c h behind es =
      let u = h.tuple in
      let matches = met_solvable (tree_of t) u q h.met.added behind in
      record {
        move = Takes (tree_of t) u;
        step = record { before = starts; does = (u, (h.met.there, matches), refl); behind = matches };
        agrees = h.told;
        leads = ap (λ (r : Equations). moment r (tuples_of c.now) (with_next next es)) h.met.added
            ∙ (ap (λ us. record { pairs = s.pairs ++ (tree_of t, u) ∷ []; tuples = us; effects = with_next next es }) h.left
            ∙ ap (λ x. record { pairs = s.pairs ++ (tree_of t, u) ∷ []; tuples = without_first u (tuples_of b.now); effects = with_next x es }) h.told);
        only = λ other step agrees.
            let told : next ≡ Some (Took step.does.0) = subst (AgreesWith next) step.does.2 agrees in
            let same : step.does.0 ≡ u = took_same step.does.0 u (same_Some _ _ (sym told ∙ h.told)) in
            ap (λ move. moved move (here es)) (step.does.2 ∙ ap (Takes (tree_of t)) same);
      }
    where
      took_same : (x y : Tree) → Took x ≡ Took y → x ≡ y
      took_same x y e = cc

  take_none : (t : Term) → TakesNoNext s (tree_of t) next b → Unfollowed (InR t)
  take_none t none es move step agrees =
      none step.does.0 (subst (AgreesWith next) step.does.2 agrees) step.does.1.0
      (subst (λ n. Matches n s.pairs (tree_of t) step.does.0) (sym w) step.does.1.1)

  read_done : (t : Term) (q : Equations) → HasReadNext s q (tree_of t) next b → Solvable q.vars q.pairs → Followed (RdR t) q b
  read_done t q h behind es =
      let u = h.tuple in
      let matches = met_solvable (tree_of t) u q h.met.added behind in
      record {
        move = Reads (tree_of t) u;
        step = record { before = starts; does = (u, (h.met.there, matches), refl); behind = matches };
        agrees = h.told;
        leads = ap (λ (r : Equations). moment r (tuples_of b.now) (with_next next es)) h.met.added
            ∙ ap (λ x. record { pairs = s.pairs ++ (tree_of t, u) ∷ []; tuples = tuples_of b.now; effects = with_next x es }) h.told;
        only = λ other step agrees.
            let told : next ≡ Some (Read step.does.0) = subst (AgreesWith next) step.does.2 agrees in
            let same : step.does.0 ≡ u = read_same step.does.0 u (same_Some _ _ (sym told ∙ h.told)) in
            ap (λ move. moved move (here es)) (step.does.2 ∙ ap (Reads (tree_of t)) same);
      }
    where
      read_same : (x y : Tree) → Read x ≡ Read y → x ≡ y
      read_same x y e = cc

  read_none : (t : Term) → ReadsNoNext s (tree_of t) next b → Unfollowed (RdR t)
  read_none t none es move step agrees =
      none step.does.0 (subst (AgreesWith next) step.does.2 agrees) step.does.1.0
      (subst (λ n. Matches n s.pairs (tree_of t) step.does.0) (sym w) step.does.1.1)

  absent_done : (t : Term) (q : Equations) → q ≡ s → NoneOf (Matches s.vars s.pairs (tree_of t)) (tuples_of b.now) → Followed (NoR t) q b
  absent_done t q e none es =
      subst (λ (r : Equations). IsFollowed scene (NoR t) next (here es) (moment r (tuples_of b.now) es)) (sym e)
      (plain_followed scene (NoR t) (here es) (here es) next refl
      (record {
        move = Nothing;
        step = record { before = starts; does = (subst (λ n. NoneOf (Matches n s.pairs (tree_of t)) (tuples_of b.now)) w none, refl); behind = starts };
        leads = refl;
      }))

  matchless : (t : Term) → NoneOf (Matches (width scene) s.pairs (tree_of t)) (tuples_of b.now) → NoneOf (Matches s.vars s.pairs (tree_of t)) (tuples_of b.now)
  matchless t none = subst (λ n. NoneOf (Matches n s.pairs (tree_of t)) (tuples_of b.now)) (sym w) none

  -- the same for the answer of a call, which may be want of memory
  pub put_yes : {E : Type 0} (t : Term) (c : Stock) (r : Result Bool E) → IfOk r (λ y. IsTrue y → HasPutNext s (tree_of t) next b c)
      → IfOk r (λ y. IsTrue y → Followed (OutR t) s c)
  put_yes t c (Ok y) h = λ e. put_done t c (h e)
  put_yes t c (Err e) h = h

  pub put_no : {E : Type 0} (t : Term) (r : Result Bool E) → IfOk r (λ y. y ≡ false → PutsNoNext s (tree_of t) next)
      → IfOk r (λ y. y ≡ false → Unfollowed (OutR t))
  put_no t (Ok y) h = λ e. put_none t (h e)
  put_no t (Err e) h = h

  pub take_yes : {E : Type 0} (t : Term) (q : Equations) (c : Stock) (r : Result Bool E) → Solvable q.vars q.pairs
      → IfOk r (λ y. IsTrue y → HasTakenNext s q (tree_of t) next b c)
      → IfOk r (λ y. IsTrue y → Followed (InR t) q c)
  take_yes t q c (Ok y) behind h = λ e. take_done t q c (h e) behind
  take_yes t q c (Err e) behind h = h

  pub take_no : {E : Type 0} (t : Term) (r : Result Bool E) → IfOk r (λ y. y ≡ false → TakesNoNext s (tree_of t) next b)
      → IfOk r (λ y. y ≡ false → Unfollowed (InR t))
  take_no t (Ok y) h = λ e. take_none t (h e)
  take_no t (Err e) h = h

  pub read_yes : {E : Type 0} (t : Term) (q : Equations) (r : Result Bool E) → Solvable q.vars q.pairs
      → IfOk r (λ y. IsTrue y → HasReadNext s q (tree_of t) next b)
      → IfOk r (λ y. IsTrue y → Followed (RdR t) q b)
  read_yes t q (Ok y) behind h = λ e. read_done t q (h e) behind
  read_yes t q (Err e) behind h = h

  pub read_no : {E : Type 0} (t : Term) (r : Result Bool E) → IfOk r (λ y. y ≡ false → ReadsNoNext s (tree_of t) next b)
      → IfOk r (λ y. y ≡ false → Unfollowed (RdR t))
  read_no t (Ok y) h = λ e. read_none t (h e)
  read_no t (Err e) h = h

  pub absent_yes : {E : Type 0} (t : Term) (q : Equations) (r : Result Bool E) → IfOk r (λ y. IsTrue y → q ≡ s)
      → IfOk r (λ y. IsTrue y → NoneOf (Matches s.vars s.pairs (tree_of t)) (tuples_of b.now))
      → IfOk r (λ y. IsTrue y → Followed (NoR t) q b)
  absent_yes t q (Ok y) same h = λ e. absent_done t q (same e) (h e)
  absent_yes t q (Err e) same h = h

  pub absent_no : {E : Type 0} (t : Term) (r : Result Bool E)
      → IfOk r (λ y. y ≡ false → NoneOf (Matches s.vars s.pairs (tree_of t)) (tuples_of b.now) → ⊥)
      → IfOk r (λ y. y ≡ false → Unfollowed (NoR t))
  absent_no t (Ok y) h = λ e es move step agrees. h e (matchless t step.does.0)
  absent_no t (Err e) h = h

  -- a goal without tuples
  pub free_yes : {E : Type 0} (g : Goal) (q : Equations) (r : Result Bool E) → IsTupleFree g
      → IfOk r (λ y. IsTrue y → (choice : Choice) (us : List Tree) (es : List Effect) → IsDoneBy choice scene g (moment s us es) (moment q us es))
      → IfOk r (λ y. IsTrue y → Followed g q b)
  free_yes g q (Ok y) free h = λ e es.
      let plain = free_plain g free in
      subst (λ x. IsFollowed scene g next (here es) (moment q (tuples_of b.now) (cond x (with_next next es) es))) (sym plain)
      (plain_followed scene g (here es) (moment q (tuples_of b.now) es) next plain (h e AnyOne (tuples_of b.now) es))
  free_yes g q (Err e) free h = h

  pub free_no : {E : Type 0} (g : Goal) (r : Result Bool E)
      → IfOk r (λ y. y ≡ false → (us : List Tree) (es : List Effect) → IsStuck scene g (moment s us es))
      → IfOk r (λ y. y ≡ false → Unfollowed g)
  free_no g (Ok y) h = λ e es move step agrees. h e (tuples_of b.now) es move step
  free_no g (Err e) h = h

  -- a goal that can do nothing, and one that can
  pub put_stuck : {E : Type 0} (t : Term) (r : Result Bool E) → IfOk r (λ y. IsTrue y → (v : Tree) → HasValue s.vars s.pairs (tree_of t) v → ⊥)
      → IfOk r (λ y. IsTrue y → Stuck (OutR t))
  put_stuck t (Ok y) h = λ e es move step. h e step.does.0 (at_store (tree_of t) step.does.0 step.does.1)
  put_stuck t (Err e) h = h

  pub put_moves : {E : Type 0} (t : Term) (r : Result Bool E) → IfOk r (λ y. y ≡ false → (v : Tree) × HasValue s.vars s.pairs (tree_of t) v)
      → IfOk r (λ y. y ≡ false → Moves (OutR t))
  put_moves t (Ok y) h = λ e es stuck.
      let v = h e in
      stuck (Puts v.0) (record { before = starts; does = (v.0, at_width (tree_of t) v.0 v.1, refl); behind = starts })
  put_moves t (Err e) h = h

  unmatched : (t : Term) (u : Tree) → NoneOf (Matches s.vars s.pairs (tree_of t)) (tuples_of b.now) → Contains (tuples_of b.now) u
      → Matches (width scene) s.pairs (tree_of t) u → ⊥
  unmatched t u none there match = none u there (subst (λ n. Matches n s.pairs (tree_of t) u) (sym w) match)

  pub take_stuck : {E : Type 0} (t : Term) (r : Result Bool E) → IfOk r (λ y. IsTrue y → NoneOf (Matches s.vars s.pairs (tree_of t)) (tuples_of b.now))
      → IfOk r (λ y. IsTrue y → Stuck (InR t))
  take_stuck t (Ok y) h = λ e es move step. unmatched t step.does.0 (h e) step.does.1.0 step.does.1.1
  take_stuck t (Err e) h = h

  pub read_stuck : {E : Type 0} (t : Term) (r : Result Bool E) → IfOk r (λ y. IsTrue y → NoneOf (Matches s.vars s.pairs (tree_of t)) (tuples_of b.now))
      → IfOk r (λ y. IsTrue y → Stuck (RdR t))
  read_stuck t (Ok y) h = λ e es move step. unmatched t step.does.0 (h e) step.does.1.0 step.does.1.1
  read_stuck t (Err e) h = h

  pub take_moves : {E : Type 0} (t : Term) (r : Result Bool E)
      → IfOk r (λ y. y ≡ false → NoneOf (Matches s.vars s.pairs (tree_of t)) (tuples_of b.now) → ⊥)
      → IfOk r (λ y. y ≡ false → Moves (InR t))
  take_moves t (Ok y) h = λ e es stuck. h e (λ u there match.
      let at = subst (λ n. Matches n s.pairs (tree_of t) u) w match in
      stuck (Takes (tree_of t) u) (record { before = starts; does = (u, (there, at), refl); behind = at }))
  take_moves t (Err e) h = h

  pub read_moves : {E : Type 0} (t : Term) (r : Result Bool E)
      → IfOk r (λ y. y ≡ false → NoneOf (Matches s.vars s.pairs (tree_of t)) (tuples_of b.now) → ⊥)
      → IfOk r (λ y. y ≡ false → Moves (RdR t))
  read_moves t (Ok y) h = λ e es stuck. h e (λ u there match.
      let at = subst (λ n. Matches n s.pairs (tree_of t) u) w match in
      stuck (Reads (tree_of t) u) (record { before = starts; does = (u, (there, at), refl); behind = at }))
  read_moves t (Err e) h = h

  pub absent_stuck : (t : Term) → (NoneOf (Matches s.vars s.pairs (tree_of t)) (tuples_of b.now) → ⊥) → Stuck (NoR t)
  absent_stuck t some es move step = some (matchless t step.does.0)

  pub absent_moves : (t : Term) → NoneOf (Matches s.vars s.pairs (tree_of t)) (tuples_of b.now) → Moves (NoR t)
  absent_moves t none es stuck =
      stuck Nothing (record { before = starts; does = (subst (λ n. NoneOf (Matches n s.pairs (tree_of t)) (tuples_of b.now)) w none, refl); behind = starts })

  pub free_moves : (g : Goal) (q : Equations) → ((choice : Choice) (us : List Tree) (es : List Effect) → IsDoneBy choice scene g (moment s us es) (moment q us es)) → Moves g
  free_moves g q done es stuck =
      let does = done AnyOne (tuples_of b.now) es in
      stuck does.move does.step

  pub either_moves : {E : Type 0} (g : Goal) (t : Term) (r : Result Bool E) → (g ≡ InR t) ⊎ (g ≡ RdR t)
      → IfOk r (λ y. y ≡ false → NoneOf (Matches s.vars s.pairs (tree_of t)) (tuples_of b.now) → ⊥)
      → IfOk r (λ y. y ≡ false → Moves g)
  either_moves g t r (inl is) h = subst (λ k. IfOk r (λ y. y ≡ false → Moves k)) (sym is) (take_moves t r h)
  either_moves g t r (inr is) h = subst (λ k. IfOk r (λ y. y ≡ false → Moves k)) (sym is) (read_moves t r h)
