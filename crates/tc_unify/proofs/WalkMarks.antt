-- What the marks of a walk say is kept by its steps.
use Rattle.std.proofs.Common.{◌≡◌, ◌≢◌, ℕ, zero, suc, ◌+◌, ◌<◌, ◌≤◌, ◌⊎◌, inl, inr, List, [], ◌∷◌, ◌++◌, length, get_or, set, reverse, refl, sym, ap, ◌∙◌, subst, arith, All, length-append, length-set, take, drop, drop-cons}
use Rattle.std.specs.Prelude.{Some}
use Rattle.std.proofs.Math.ListN.{drop_of_length-le}
use Rattle.std.proofs.lemmas.Bool.{cases_eq, cases_lt}
use Rattle.std.proofs.lemmas.List.{get_or-set_same, get_or-set_other, get_or_default, take_more, reverse-append}
use Rattle.std.proofs.lemmas.List.Elements.{All-nil, All-cons, All-append, All-push, All-weaker, All-get_or, All-from_get_or, All-pop}
use Rattle.std.proofs.Math.ListN.{get_or-eq_default}
use Rattle.tc_unify.specs.declared.nodes.Arena.{Arena}
use Rattle.tc_unify.specs.declared.links.Links.{Links}
use Rattle.tc_unify.specs.declared.walk.Step.{Step}
use Rattle.tc_unify.specs.declared.walk.Step.TheVariants.{Enter, Leave}
use Rattle.tc_unify.specs.declared.walk.Mark.{Mark}
use Rattle.tc_unify.specs.declared.walk.Mark.TheVariants.{Unseen, Open, Finite}
use Rattle.tc_unify.specs.declared.walk.Walk.{Walk}
use Rattle.tc_unify.specs.Nodes.{ApplyNode, IsVariable, IsPlain, label}
use Rattle.tc_unify.specs.Links.{root, IsFinite, IsFiniteVariable, plain}
use Rattle.tc_unify.specs.Arena.{IsNodeOf, shape_of}
use Rattle.tc_unify.specs.Tables.{link_of}
use Rattle.tc_unify.specs.Meeting.{IsLinked}
use Rattle.tc_unify.specs.Walks.{Awaits, Descends, IsBelowAll, IsOpenIn}
use Rattle.tc_unify.specs.WalkMarks.{mark_of, steps_of, IsListed, IsMarked, IsStarted, IsStep, Knows, KeepsBelow, IsEndless, unseen, walk_work}
use Rattle.tc_unify.proofs.Roots.{root-ends, root-fixed}
use Rattle.tc_unify.proofs.Walks.{IsFinite-same, Awaits-more, Awaits-skipped, Awaits-passed, Awaits-entered, Descends-entered, Descends-open}
use Rattle.tc_lists.proofs.Reversals.{reverse_push}

pub IsListed-push : (nodes : List ℕ) (n k : ℕ) → IsListed nodes k → IsListed (nodes ++ n ∷ []) k
IsListed-push [] n k h = absurd h
IsListed-push (m ∷ nodes) n k h = elim h [ inl e ↦ inl e | inr more ↦ inr (IsListed-push nodes n k more) ]

pub IsListed-pushed : (nodes : List ℕ) (n : ℕ) → IsListed (nodes ++ n ∷ []) n
IsListed-pushed [] n = inl refl
IsListed-pushed (m ∷ nodes) n = inr (IsListed-pushed nodes n)

-- a mark that is set, and the others
mark-set : (marks : List Mark) (n k : ℕ) (m : Mark) → n < length marks → ((k ≡ n) × (get_or (set marks n m) k Unseen ≡ m)) ⊎ ((k ≢ n) × (get_or (set marks n m) k Unseen ≡ get_or marks k Unseen))
mark-set marks n k m h =
    elim (cases_eq k n) [
      | inl e ↦ inl (e, ap (λ j. get_or (set marks n m) j Unseen) e ∙ get_or-set_same marks n m Unseen h)
      | inr e ↦ inr (e, get_or-set_other marks n k m Unseen e)
    ]

unseen-set : (marks : List Mark) (n : ℕ) → n < length marks → get_or marks n Unseen ≡ Unseen → unseen (set marks n Open) + 1 ≡ unseen marks
unseen-set [] n h e = absurd (omega arith)
unseen-set (Unseen ∷ marks) zero h e = omega arith
unseen-set (Open ∷ marks) zero h e = cc
unseen-set (Finite ∷ marks) zero h e = cc
unseen-set (Unseen ∷ marks) (suc n) h e = omega (arith, unseen-set marks n (omega arith) e)
unseen-set (Open ∷ marks) (suc n) h e = omega (arith, unseen-set marks n (omega arith) e)
unseen-set (Finite ∷ marks) (suc n) h e = omega (arith, unseen-set marks n (omega arith) e)

pub unseen-finite : (marks : List Mark) (n : ℕ) → unseen (set marks n Finite) ≤ unseen marks
unseen-finite [] n = omega arith
unseen-finite (Unseen ∷ marks) zero = omega arith
unseen-finite (Open ∷ marks) zero = omega arith
unseen-finite (Finite ∷ marks) zero = omega arith
unseen-finite (Unseen ∷ marks) (suc n) = omega (arith, unseen-finite marks n)
unseen-finite (Open ∷ marks) (suc n) = omega (arith, unseen-finite marks n)
unseen-finite (Finite ∷ marks) (suc n) = omega (arith, unseen-finite marks n)

-- what a read of the marks says
pub mark_read : (w : Walk) (a : Arena) (k : ℕ) (m : Mark) → length a.nodes.items ≤ length w.marks.items → k < length a.nodes.items → m ≡ get_or w.marks.items k m → mark_of w k ≡ m
mark_read w a k m room h read = get_or_default w.marks.items k Unseen m (omega arith) ∙ sym read

IsStep-push : (a : Arena) (l : Links) (seen : List ℕ) (n : ℕ) (s : Step) → IsStep a l seen s → IsStep a l (seen ++ n ∷ []) s
IsStep-push a l seen n (Enter k) h = h
IsStep-push a l seen n (Leave r) h = (h.0, h.1, IsListed-push seen n r h.2)

-- where no node is marked, the marks say nothing
unseen_at : (marks : List Mark) (k : ℕ) → All (λ m. m ≡ Unseen) marks → get_or marks k Unseen ≡ Unseen
unseen_at marks k all =
    elim (cases_lt k (length marks)) [
      | inl below ↦ All-get_or (λ m. m ≡ Unseen) marks k Unseen below all
      | inr above ↦ get_or-eq_default marks Unseen above
    ]

pub IsMarked-unseen : (w : Walk) → All (λ m. m ≡ Unseen) w.marks.items → w.seen.items ≡ [] → IsMarked w
IsMarked-unseen w all none = record {
  listed = λ k. inl (unseen_at w.marks.items k all);
  seen = subst (All (λ k. k < length w.marks.items)) (sym none) (All-nil (λ k. k < length w.marks.items));
}

pub Knows-unseen : (a : Arena) (l : Links) (w : Walk) → All (λ m. m ≡ Unseen) w.marks.items → w.seen.items ≡ [] → All (IsStep a l []) w.steps.items → Knows a l w
Knows-unseen a l w all none steps = record {
  finite = λ k e. let never : Unseen ≡ Finite = sym (unseen_at w.marks.items k all) ∙ e in absurd cc;
  opened = λ k e. let never : Unseen ≡ Open = sym (unseen_at w.marks.items k all) ∙ e in absurd cc;
  steps = subst (λ ns. All (IsStep a l ns) w.steps.items) (sym none) steps;
}

module _ (a : Arena) (l : Links) (w : Walk) (linked : IsLinked a l) (known : Knows a l w) where
  -- a node with a finite root is passed
  pub Keeps-passed : (node : ℕ) → IsFinite (shape_of a) (link_of l) node → KeepsBelow a l (Enter node ∷ steps_of w) (steps_of w)
  Keeps-passed node finite = record {
    awaits = λ for h. Awaits-passed (shape_of a) (link_of l) for node (steps_of w) h finite;
    descends = λ v r h. h.1;
  }

  fixed_root : (node r : ℕ) → r ≡ root (link_of l) node → link_of l r ≡ r
  fixed_root node r e = subst (λ k. link_of l k ≡ k) (sym e) (root-ends (link_of l) linked.linked.falls node)

  pub finite_plain : (node r : ℕ) → r ≡ root (link_of l) node → IsPlain (shape_of a r) → IsFinite (shape_of a) (link_of l) node
  finite_plain node r e h = plain node (subst (λ k. IsPlain (shape_of a k)) e h)

  pub finite_marked : (node r : ℕ) → r ≡ root (link_of l) node → mark_of w r ≡ Finite → IsFinite (shape_of a) (link_of l) node
  finite_marked node r e m =
      IsFinite-same (root-fixed (link_of l) r (fixed_root node r e) ∙ e) (known.finite r m)

  pub endless_open : (node r : ℕ) → r ≡ root (link_of l) node → mark_of w r ≡ Open → IsEndless a l (Enter node ∷ steps_of w)
  endless_open node r e m v respects h =
      Descends-open (shape_of a) (link_of l) linked.linked.order v respects node r (steps_of w) (sym e) h (known.opened r m)

  module _ (node r head argument : ℕ) (new : Walk) (is_root : r ≡ root (link_of l) node)
      (inside : r < length a.nodes.items)
      (room : length a.nodes.items ≤ length w.marks.items)
      (unseen_root : mark_of w r ≡ Unseen)
      (applied : shape_of a r ≡ ApplyNode head argument)
      (named : IsNodeOf a head × IsNodeOf a argument)
      (marks : new.marks.items ≡ set w.marks.items r Open)
      (steps : new.steps.items ≡ w.steps.items ++ (Leave r ∷ Enter argument ∷ Enter head ∷ []))
      (seen : new.seen.items ≡ w.seen.items ++ r ∷ []) where
    entered_steps : steps_of new ≡ Enter head ∷ Enter argument ∷ Leave r ∷ steps_of w
    entered_steps = ap reverse steps ∙ reverse-append w.steps.items (Leave r ∷ Enter argument ∷ Enter head ∷ [])

    pub Keeps-entered : KeepsBelow a l (Enter node ∷ steps_of w) (steps_of new)
    Keeps-entered = record {
      awaits = λ for h.
          subst (Awaits (shape_of a) (link_of l) for (IsFinite (shape_of a) (link_of l))) (sym entered_steps)
          (Awaits-entered (shape_of a) (link_of l) for node r head argument (steps_of w) (sym is_root) applied h);
      descends = λ v respects h.
          subst (Descends (label (shape_of a) v)) (sym entered_steps)
          (Descends-entered (shape_of a) (link_of l) linked.linked.order v respects node r head argument (steps_of w) (sym is_root) applied h);
    }

    new_mark : (k : ℕ) → ((k ≡ r) × (mark_of new k ≡ Open)) ⊎ ((k ≢ r) × (mark_of new k ≡ mark_of w k))
    new_mark k =
        subst (λ ms. ((k ≡ r) × (get_or ms k Unseen ≡ Open)) ⊎ ((k ≢ r) × (get_or ms k Unseen ≡ mark_of w k))) (sym marks)
        (mark-set w.marks.items r k Open (omega arith))

    pub Knows-entered : Knows a l new
    Knows-entered = record {
      finite = λ k e.
          elim (new_mark k) [
            | inl at ↦ (let never : Open ≡ Finite = sym at.1 ∙ e in cc)
            | inr off ↦ known.finite k (sym off.1 ∙ e)
          ];
      opened = λ k e.
          subst (λ ss. IsOpenIn ss k) (sym entered_steps)
          (elim (new_mark k) [
            | inl at ↦ inl (sym at.0)
            | inr off ↦ inr (known.opened k (sym off.1 ∙ e))
          ]);
      steps =
          subst (λ ns. All (IsStep a l ns) new.steps.items) (sym seen)
          (subst (All (IsStep a l (w.seen.items ++ r ∷ []))) (sym steps)
          (All-append (IsStep a l (w.seen.items ++ r ∷ [])) w.steps.items (Leave r ∷ Enter argument ∷ Enter head ∷ [])
          (All-weaker (IsStep a l w.seen.items) (IsStep a l (w.seen.items ++ r ∷ [])) (IsStep-push a l w.seen.items r) w.steps.items known.steps)
          (All-cons (IsStep a l (w.seen.items ++ r ∷ [])) (Leave r) (Enter argument ∷ Enter head ∷ [])
          (inside, fixed_root node r is_root, IsListed-pushed w.seen.items r)
          (All-cons (IsStep a l (w.seen.items ++ r ∷ [])) (Enter argument) (Enter head ∷ []) named.1
          (All-cons (IsStep a l (w.seen.items ++ r ∷ [])) (Enter head) [] named.0 (All-nil (IsStep a l (w.seen.items ++ r ∷ []))))))));
    }

    pub work_entered : walk_work new ≤ walk_work w
    work_entered =
        let fewer = unseen-set w.marks.items r (omega arith) unseen_root in
        let same = ap unseen marks in
        let longer : length new.steps.items ≡ length w.steps.items + 3 = ap length steps ∙ length-append w.steps.items (Leave r ∷ Enter argument ∷ Enter head ∷ []) in
        omega arith

-- what a step that is done leaves
module _ (a : Arena) (l : Links) (linked : IsLinked a l) (w new : Walk) (r : ℕ) (rest : List Step)
    (known : Knows a l w)
    (marked : IsMarked w)
    (room : length a.nodes.items ≤ length w.marks.items)
    (inside : r < length a.nodes.items)
    (fixed : link_of l r ≡ r)
    (listed : IsListed w.seen.items r)
    (finite : IsFinite (shape_of a) (link_of l) r)
    (before : w.steps.items ≡ new.steps.items ++ Leave r ∷ [])
    (marks : new.marks.items ≡ set w.marks.items r Finite)
    (seen : new.seen.items ≡ w.seen.items) where
  left_mark : (k : ℕ) → ((k ≡ r) × (mark_of new k ≡ Finite)) ⊎ ((k ≢ r) × (mark_of new k ≡ mark_of w k))
  left_mark k =
      subst (λ ms. ((k ≡ r) × (get_or ms k Unseen ≡ Finite)) ⊎ ((k ≢ r) × (get_or ms k Unseen ≡ mark_of w k))) (sym marks)
      (mark-set w.marks.items r k Finite (omega arith))

  steps_before : steps_of w ≡ Leave r ∷ steps_of new
  steps_before = ap reverse before ∙ reverse_push new.steps.items (Leave r)

  pub Knows-left : Knows a l new
  Knows-left = record {
    finite = λ k e.
        elim (left_mark k) [
          | inl at ↦ subst (IsFinite (shape_of a) (link_of l)) (sym at.0) finite
          | inr off ↦ known.finite k (sym off.1 ∙ e)
        ];
    opened = λ k e.
        elim (left_mark k) [
          | inl at ↦ (let never : Finite ≡ Open = sym at.1 ∙ e in cc)
          | inr off ↦
              elim (subst (λ ss. IsOpenIn ss k) steps_before (known.opened k (sym off.1 ∙ e))) [
                | inl same ↦ absurd (off.0 (sym same))
                | inr more ↦ more
              ]
        ];
    steps =
        subst (λ ns. All (IsStep a l ns) new.steps.items) (sym seen)
        (All-pop (IsStep a l w.seen.items) w.steps.items new.steps.items (Some (Leave r)) before known.steps).0;
  }

  pub IsMarked-left : IsMarked new
  IsMarked-left = record {
    listed = λ k.
        subst (λ ns. (mark_of new k ≡ Unseen) ⊎ IsListed ns k) (sym seen)
        (elim (left_mark k) [
          | inl at ↦ inr (subst (IsListed w.seen.items) (sym at.0) listed)
          | inr off ↦ elim (marked.listed k) [ inl e ↦ inl (off.1 ∙ e) | inr i ↦ inr i ]
        ]);
    seen =
        subst (λ n. All (λ k. k < n) new.seen.items) (sym (ap length marks ∙ length-set w.marks.items r Finite))
        (subst (All (λ k. k < length w.marks.items)) (sym seen) marked.seen);
  }

-- a node more is seen
pub IsMarked-seen : (w new : Walk) (n : ℕ) → IsMarked w → n < length w.marks.items → new.marks.items ≡ w.marks.items → new.seen.items ≡ w.seen.items ++ n ∷ [] → IsMarked new
IsMarked-seen w new n marked h marks seen = record {
  listed = λ k.
      subst (IsListedOr k) (sym seen)
      (elim (marked.listed k) [
        | inl e ↦ inl (ap (λ ms. get_or ms k Unseen) marks ∙ e)
        | inr i ↦ inr (IsListed-push w.seen.items n k i)
      ]);
  seen =
      subst (λ ms. All (λ k. k < length ms) new.seen.items) (sym marks)
      (subst (All (λ k. k < length w.marks.items)) (sym seen) (All-push (λ k. k < length w.marks.items) w.seen.items n marked.seen h));
}
  where
    IsListedOr : ℕ → List ℕ → Type 0
    IsListedOr k ns = (mark_of new k ≡ Unseen) ⊎ IsListed ns k

-- and marked
pub IsMarked-opened : (w new : Walk) (n : ℕ) (m : Mark) → IsMarked w → n < length w.marks.items → new.marks.items ≡ set w.marks.items n m → new.seen.items ≡ w.seen.items ++ n ∷ [] → IsMarked new
IsMarked-opened w new n m marked h marks seen = record {
  listed = λ k.
      subst (λ ns. (mark_of new k ≡ Unseen) ⊎ IsListed ns k) (sym seen)
      (subst (λ ms. (get_or ms k Unseen ≡ Unseen) ⊎ IsListed (w.seen.items ++ n ∷ []) k) (sym marks)
      (elim (mark-set w.marks.items n k m h) [
        | inl at ↦ inr (subst (IsListed (w.seen.items ++ n ∷ [])) (sym at.0) (IsListed-pushed w.seen.items n))
        | inr off ↦ elim (marked.listed k) [ inl e ↦ inl (off.1 ∙ e) | inr i ↦ inr (IsListed-push w.seen.items n k i) ]
      ]));
  seen =
      subst (λ j. All (λ k. k < j) new.seen.items) (sym (ap length marks ∙ length-set w.marks.items n m))
      (subst (All (λ k. k < length w.marks.items)) (sym seen) (All-push (λ k. k < length w.marks.items) w.seen.items n marked.seen h));
}

-- the marks of the nodes that are still to be taken back
pub unmark_step : (marks : List Mark) (seen : List ℕ) (i n : ℕ) → i < length seen → n ≡ get_or seen i n → n < length marks
    → ((k : ℕ) → (get_or marks k Unseen ≡ Unseen) ⊎ IsListed (drop i seen) k)
    → (k : ℕ) → (get_or (set marks n Unseen) k Unseen ≡ Unseen) ⊎ IsListed (drop (i + 1) seen) k
unmark_step marks seen i n h read below listed k =
    elim (mark-set marks n k Unseen below) [
      | inl at ↦ inl at.1
      | inr off ↦
          elim (listed k) [
            | inl e ↦ inl (off.1 ∙ e)
            | inr found ↦
                elim (subst (λ ns. IsListed ns k) next found) [ inl same ↦ absurd (off.0 same) | inr more ↦ inr more ]
          ]
    ]
  where
    next : drop i seen ≡ n ∷ drop (i + 1) seen
    next = drop-cons seen i n h ∙ ap (λ x. x ∷ drop (suc i) seen) (sym read) ∙ (let one : suc i ≡ i + 1 = omega arith in ap (λ j. n ∷ drop j seen) one)

pub unmark_end : (marks : List Mark) (seen : List ℕ) (i : ℕ) → length seen ≤ i → ((k : ℕ) → (get_or marks k Unseen ≡ Unseen) ⊎ IsListed (drop i seen) k) → All (λ m. m ≡ Unseen) marks
unmark_end marks seen i h listed =
    All-from_get_or (λ m. m ≡ Unseen) marks Unseen
    (λ k below. elim (listed k) [ inl e ↦ e | inr found ↦ absurd (subst (λ ns. IsListed ns k) (drop_of_length-le seen h) found) ])

-- nothing is to be entered yet
pub IsStarted-none : (a : Arena) (l : Links) (steps : List Step) → steps ≡ [] → IsStarted a l [] steps
IsStarted-none a l steps e =
    subst (IsStarted a l []) (sym e) (record {
      awaits = All-nil (λ k. IsVariable (shape_of a k) → IsFinite (shape_of a) (link_of l) k);
      descends = λ F. tt;
      below = λ F t. tt;
      enters = All-nil (IsStep a l []);
    })

module _ (a : Arena) (l : Links) (nodes : List ℕ) (steps : List Step) (i n : ℕ) (below : i < length nodes) (read : n ≡ get_or nodes i n) (started : IsStarted a l (take i nodes) steps) where
  one_more : take (i + 1) nodes ≡ take i nodes ++ n ∷ []
  one_more = take_more nodes i n below ∙ ap (λ x. take i nodes ++ x ∷ []) (sym read)

  -- a node more is to be entered
  pub IsStarted-push : (new : List Step) → IsNodeOf a n → new ≡ steps ++ Enter n ∷ [] → IsStarted a l (take (i + 1) nodes) new
  IsStarted-push new inside pushed =
      let turned : reverse new ≡ Enter n ∷ reverse steps = ap reverse pushed ∙ reverse_push steps (Enter n) in
      record {
        awaits =
            subst (Awaits (shape_of a) (link_of l) (take (i + 1) nodes) (IsFinite (shape_of a) (link_of l))) (sym turned)
            (subst (λ ns. Awaits (shape_of a) (link_of l) ns (λ j. IsFinite (shape_of a) (link_of l) j ⊎ (j ≡ n)) (reverse steps)) (sym one_more)
            (Awaits-more (shape_of a) (link_of l) (take i nodes) n (IsFinite (shape_of a) (link_of l)) (reverse steps) started.awaits));
        descends = λ F. subst (Descends F) (sym turned) (started.below F (F n), started.descends F);
        below = λ F t. subst (IsBelowAll F t) (sym turned) (started.below F t);
        enters = subst (All (IsStep a l [])) (sym pushed) (All-push (IsStep a l []) steps (Enter n) started.enters inside);
      }

  -- or need not be
  pub IsStarted-pass : IsFiniteVariable (shape_of a) (link_of l) n → IsStarted a l (take (i + 1) nodes) steps
  IsStarted-pass finite = record {
    awaits = subst (λ ns. Awaits (shape_of a) (link_of l) ns (IsFinite (shape_of a) (link_of l)) (reverse steps)) (sym one_more)
        (Awaits-skipped (shape_of a) (link_of l) (take i nodes) n (IsFinite (shape_of a) (link_of l)) finite (reverse steps) started.awaits);
    descends = started.descends;
    below = started.below;
    enters = started.enters;
  }

-- the last step, as the walk takes it
pub step_taken : (a : Arena) (l : Links) (seen : List ℕ) (steps rest : List Step) (s t : Step) → steps ≡ rest ++ s ∷ [] → s ≡ t → All (IsStep a l seen) steps → IsStep a l seen t × (reverse steps ≡ t ∷ reverse rest)
step_taken a l seen steps rest s t e f all = (
  subst (IsStep a l seen) f (All-pop (IsStep a l seen) steps rest (Some s) e all).1,
  ap reverse e ∙ reverse_push rest s ∙ ap (λ x. x ∷ reverse rest) f,
)
