-- A run of first choices whose calls are typed is typed.
use Rattle.std.proofs.Common.{◌≡◌, ℕ, Some, None, IfSome, if◌then◌else◌, true, false, List, [], ◌∷◌, ◌++◌, All, take}
use Rattle.std.proofs.Common.{sym, subst, arith}
use Rattle.std.proofs.lemmas.List.Elements.{All-nil, All-cons, All-head, All-tail, All-push, All-take, All-contains}
use Rattle.std.proofs.lemmas.Option.{slice_get_within}
use Rattle.tc_lists.proofs.Elements.{All-slice_get}
use Rattle.tc_lists.proofs.Firsts.{IsFirst-contains}
use Rattle.tc_lists.specs.Firsts.{IsFirst}
use Rattle.tc_term.specs.Tree.{Tree, IsTuple}
use Rattle.tc_term.specs.TreeView.{tree_of}
use Rattle.tc_term.proofs.Solutions.{IsTuple-value}
use Rattle.tc_model.specs.Choices.{TheFirst}
use Rattle.tc_model.specs.Events.{Occurrence, Setting}
use Rattle.tc_model.specs.Reactions.{Rule, IsRule, AreClauses}
use Rattle.tc_model.specs.Within.{terms_of, HasVarsBelow}
use Rattle.tc_model.specs.Typed.{Is32, IsTypedId, IsTypedOp, IsTypedRequest, IsTypedEffect, IsTypedItem, IsTypedOutcome, IsTypedReply, IsTypedCall, IsTyped}
use Rattle.tc_model.specs.Goals.{Scene, Moment, Move, Nothing, Equates, Puts, Takes, Reads, moved, width, IsStep, IsMatchAt, Leads}
use Rattle.tc_model.specs.Bodies.{scene_of, beginning}
use Rattle.tc_model.specs.Triggers.{IsClause}
use Rattle.tc_model.specs.Cascades.{Wave, IsTried, Cascades, IsWhole, IsOver}
use Rattle.tc_model.specs.State.{State, Origin, IsOrigin, IsTypedState, IsMatch, opening, after_taking, after_history}
use Rattle.tc_model.specs.Calls.{IsCallOf, call_of}
use Rattle.tc_model.specs.Replies.{reply_of, outcome_given, or_given, outcome_in, reply_in}
use Rattle.tc_model.specs.Tables.{IsServed, IsGivenTuple, IsToldAbsence, IsGivenFor, setting_of}
use Rattle.tc_model.specs.Run.{IsLegal, IsFirstRun}
use Rattle.tc_model.specs.Calls.{same_id}
use Rattle.tc_model.specs.declared.calls.CallId.{CallId}
use Rattle.tc_model.specs.declared.calls.Op.{Op}
use Rattle.tc_model.specs.declared.calls.Op.TheVariants.{Out, In, Rd, Inp, Rdp, No, Nop, SetSpec, GetSpec}
use Rattle.tc_model.specs.declared.calls.Request.{Request}
use Rattle.tc_model.specs.declared.calls.Wants.{Wants}
use Rattle.tc_model.specs.declared.calls.Wants.TheVariants.{Take, Look, Absence}
use Rattle.tc_model.specs.declared.events.Phase.TheVariants.{Pre, Post}
use Rattle.tc_model.specs.declared.goals.Goal.{Goal}
use Rattle.tc_model.specs.declared.goals.Goal.TheVariants as goal
use Rattle.tc_model.specs.declared.items.Effect.TheVariants.{Put, Took, Read}
use Rattle.tc_model.specs.declared.items.Item.{Item}
use Rattle.tc_model.specs.declared.items.Item.TheVariants.{Fired, Failed}
use Rattle.tc_model.specs.declared.outcomes.Outcome.{Outcome}
use Rattle.tc_model.specs.declared.outcomes.Outcome.TheVariants as outcome
use Rattle.tc_model.specs.declared.entries.Entry.{Entry}
use Rattle.tc_model.specs.declared.entries.Entry.TheVariants.{Called, Gave, Looked}
use Rattle.tc_model.proofs.Rules.{rule_goals}
use Rattle.tc_model.proofs.Runs.{EachEntry-keeps-along}
use Rattle.tc_model.proofs.TypedStates.{All-without_first, after_item-typed, after_taking-typed, opening-typed, after_history-typed}

-- the first that has a property is one of the list
first-typed : (P : Tree → Type 0) (tuples : List Tree) (u : Tree) → All IsTuple tuples → IsFirst P tuples u → IsTuple u
first-typed P tuples u all first = All-contains IsTuple tuples u all (IsFirst-contains P tuples u first)

-- the tuples and the effects of a moment are typed
record IsTypedMoment (m : Moment) : Type 0 where
  tuples : All IsTuple m.tuples
  effects : All IsTypedEffect m.effects

move-typed : (m : Moment) (move done : Move) → move ≡ done → IsTypedMoment (moved done m) → IsTypedMoment (moved move m)
move-typed m move done is typed = subst (λ w. IsTypedMoment (moved w m)) (sym is) typed

module _ (m : Moment) (typed : IsTypedMoment m) where
  same-typed : IsTypedMoment (moved Nothing m)
  same-typed = typed

  equated-typed : (s t : Tree) → IsTypedMoment (moved (Equates s t) m)
  equated-typed s t = record { tuples = typed.tuples; effects = typed.effects }

  put-typed : (v : Tree) → IsTuple v → IsTypedMoment (moved (Puts v) m)
  put-typed v tuple = record {
    tuples = All-push IsTuple m.tuples v typed.tuples tuple;
    effects = All-push IsTypedEffect m.effects (Put v) typed.effects tuple;
  }

  took-typed : (t u : Tree) → IsTuple u → IsTypedMoment (moved (Takes t u) m)
  took-typed t u tuple = record {
    tuples = All-without_first IsTuple u m.tuples typed.tuples;
    effects = All-push IsTypedEffect m.effects (Took u) typed.effects tuple;
  }

  read-typed : (t u : Tree) → IsTuple u → IsTypedMoment (moved (Reads t u) m)
  read-typed t u tuple = record {
    tuples = typed.tuples;
    effects = All-push IsTypedEffect m.effects (Read u) typed.effects tuple;
  }

  step-typed : (scene : Scene) (g : Goal) (move : Move) → All (HasVarsBelow scene.vars) (terms_of g)
      → IsStep TheFirst scene g m move → IsTypedMoment (moved move m)
  step-typed scene (goal.OutR t) move within step =
      let (v, value, is) = step.does in
      let bound = (All-head (HasVarsBelow scene.vars) (tree_of t) [] within).bound in
      move-typed m move (Puts v) is
      (put-typed v (IsTuple-value (width scene) m.pairs (tree_of t) v (omega (arith, bound)) value))
  step-typed scene (goal.InR t) move within step =
      let (u, chosen, is) = step.does in
      move-typed m move (Takes (tree_of t) u) is
      (took-typed (tree_of t) u (first-typed (IsMatchAt scene m (tree_of t)) m.tuples u typed.tuples chosen))
  step-typed scene (goal.RdR t) move within step =
      let (u, chosen, is) = step.does in
      move-typed m move (Reads (tree_of t) u) is
      (read-typed (tree_of t) u (first-typed (IsMatchAt scene m (tree_of t)) m.tuples u typed.tuples chosen))
  step-typed scene (goal.NoR t) move within step = move-typed m move Nothing step.does.1 typed
  step-typed scene goal.Pre move within step = move-typed m move Nothing step.does.1 typed
  step-typed scene goal.Post move within step = move-typed m move Nothing step.does.1 typed
  step-typed scene goal.Success move within step = move-typed m move Nothing step.does.1 typed
  step-typed scene goal.Failure move within step = move-typed m move Nothing step.does.1 typed
  step-typed scene goal.True move within step = move-typed m move Nothing step.does typed
  step-typed scene (goal.Agent t) move within step = move-typed m move (Equates _ _) step.does (equated-typed _ _)
  step-typed scene (goal.Centre t) move within step = move-typed m move (Equates _ _) step.does (equated-typed _ _)
  step-typed scene (goal.Operation t) move within step = move-typed m move (Equates _ _) step.does (equated-typed _ _)
  step-typed scene (goal.Tuple t) move within step = move-typed m move (Equates _ _) step.does (equated-typed _ _)
  step-typed scene (goal.Equal s t) move within step = move-typed m move (Equates _ _) step.does (equated-typed _ _)
  step-typed scene (goal.Differ s t) move within step = move-typed m move Nothing step.does.1 typed
  step-typed scene (goal.Is s t) move within step = move-typed m move (Equates _ _) step.does.2 (equated-typed _ _)
  step-typed scene (goal.Compare comparison s t) move within step = move-typed m move Nothing step.does.5 typed

leads-typed : (scene : Scene) (gs : List Goal) (m end : Moment) → All (λ g. All (HasVarsBelow scene.vars) (terms_of g)) gs
    → Leads TheFirst scene gs m end → IsTypedMoment m → IsTypedMoment end
leads-typed scene [] m end within leads typed = subst IsTypedMoment (sym leads) typed
leads-typed scene (g ∷ gs) m end within leads typed =
    let Within : Goal → Type 0 = λ f. All (HasVarsBelow scene.vars) (terms_of f) in
    leads-typed scene gs (moved leads.0 m) end (All-tail Within g gs within) leads.2
    (step-typed m typed scene g leads.0 (All-head Within g gs within) leads.1)

begins-typed : (r : Rule) (e : Occurrence) (tuples : List Tree) → All IsTuple tuples → IsTypedMoment (beginning r e tuples)
begins-typed r e tuples all = record { tuples = all; effects = All-nil IsTypedEffect }

module _ (setting : Setting) (clauses : List Rule) (are : AreClauses clauses) where
  -- a clause's number has 32 bits
  number-typed : (number : ℕ) (r : Rule) → IsClause clauses number r → Is32 number
  number-typed number r clause =
      let within = slice_get_within clauses clause.place r clause.stands in
      omega (arith, within, are.few, clause.at)

  tried-typed : (w : Wave) (item : Item) (next : Wave) → IsTried TheFirst clauses setting w item next
      → All IsTuple w.tuples → IsTypedItem item
  tried-typed w (Fired pick clause effects) next h all =
      let rule : IsRule h.rule = All-slice_get IsRule clauses h.stands.place h.rule are.rules h.stands.stands in
      let ended = leads-typed (scene_of h.rule h.member.event setting) h.rule.goals
      (beginning h.rule h.member.event w.tuples) h.body.end (rule_goals h.rule rule) h.body.leads
      (begins-typed h.rule h.member.event w.tuples all) in (
        omega (arith, h.allowed),
        subst Is32 (sym h.clause) (number-typed h.member.clause h.rule h.stands),
        subst (All IsTypedEffect) h.body.recorded ended.effects,
      )
  tried-typed w (Failed pick clause number effects) next h all =
      let rule : IsRule h.rule = All-slice_get IsRule clauses h.stands.place h.rule are.rules h.stands.stands in
      let goals : List Goal = h.rule.goals in
      let within = slice_get_within goals h.body.place h.body.goal h.body.stands in
      let Within : Goal → Type 0 = λ g. All (HasVarsBelow h.rule.vars) (terms_of g) in
      let ended = leads-typed (scene_of h.rule h.member.event setting) (take h.body.place goals)
      (beginning h.rule h.member.event w.tuples) h.body.end
      (All-take Within h.body.place goals (rule_goals h.rule rule)) h.body.leads
      (begins-typed h.rule h.member.event w.tuples all) in (
        omega (arith, h.allowed),
        subst Is32 (sym h.clause) (number-typed h.member.clause h.rule h.stands),
        omega (arith, within, rule.most, h.body.at),
        subst (All IsTypedEffect) h.body.recorded ended.effects,
      )

  cascades-typed : (items : List Item) (w end : Wave) → Cascades TheFirst clauses setting items w end
      → All IsTuple w.tuples → All IsTypedItem items
  cascades-typed [] w end h all = All-nil IsTypedItem
  cascades-typed (i ∷ items) w end h all =
      let here : IsTypedItem i = tried-typed w i h.0 h.1 all in
      All-cons IsTypedItem i items here
      (cascades-typed items h.0 end h.2
      (subst (All IsTuple) (sym h.1.tuples) (after_item-typed i w.tuples here all)))

  whole-typed : (budget : ℕ) (e : Occurrence) (tuples : List Tree) (items : List Item)
      → IsWhole TheFirst clauses setting budget e tuples items → All IsTuple tuples → All IsTypedItem items
  whole-typed budget e tuples items h all =
      cascades-typed items (record { tuples = tuples; triggered = h.begins.first }) h.end h.begins.cascades all

  over-typed : (budget : ℕ) (e : Occurrence) (tuples : List Tree) (items : List Item)
      → IsOver TheFirst clauses setting budget e tuples items → All IsTuple tuples → All IsTypedItem items
  over-typed budget e tuples items h all =
      cascades-typed items (record { tuples = tuples; triggered = h.begins.first }) h.end h.begins.cascades all

module _ (origin : Origin) (s : State) (typed : IsTypedState s) where
  whole : (id : CallId) (e : Occurrence) (tuples : List Tree) (items : List Item)
      → IsWhole TheFirst s.clauses (setting_of origin id) origin.budget e tuples items → All IsTuple tuples → All IsTypedItem items
  whole id e tuples items = whole-typed (setting_of origin id) s.clauses typed.clauses origin.budget e tuples items

  over : (id : CallId) (e : Occurrence) (tuples : List Tree) (items : List Item)
      → IsOver TheFirst s.clauses (setting_of origin id) origin.budget e tuples items → All IsTuple tuples → All IsTypedItem items
  over id e tuples items = over-typed (setting_of origin id) s.clauses typed.clauses origin.budget e tuples items

  with_put : (t : Tree) → IsTuple t → All IsTuple (s.tuples ++ t ∷ [])
  with_put t tuple = All-push IsTuple s.tuples t typed.tuples tuple

  without : (u : Tree) → All IsTuple (after_taking Take u s.tuples)
  without u = after_taking-typed Take u s.tuples typed.tuples

  served-typed : (id : CallId) (op : Op) (result : Outcome) (items : List Item) → IsTypedOp op
      → IsServed TheFirst origin s id op result items → All IsTypedItem items
  served-typed id (Out t) outcome.Done items op h = whole id _ _ items h (with_put t op)
  served-typed id (Out t) (outcome.Over Post None) items op h = over id _ _ items h (with_put t op)
  served-typed id (Inp t) (outcome.Took u) items op h = whole id _ _ items h.1 (without u)
  served-typed id (Inp t) (outcome.Over Post (Some u)) items op h = over id _ _ items h.1 (without u)
  served-typed id (Rdp t) (outcome.Took u) items op h = whole id _ _ items h.1 typed.tuples
  served-typed id (Rdp t) (outcome.Over Post (Some u)) items op h = over id _ _ items h.1 typed.tuples
  served-typed id (Inp t) outcome.NoTuple items op h = whole id _ _ items h.1 typed.tuples
  served-typed id (Inp t) (outcome.Over Post None) items op h = over id _ _ items h.1 typed.tuples
  served-typed id (Rdp t) outcome.NoTuple items op h = whole id _ _ items h.1 typed.tuples
  served-typed id (Rdp t) (outcome.Over Post None) items op h = over id _ _ items h.1 typed.tuples
  served-typed id (Nop t) outcome.Absent items op h = whole id _ _ items h.1 typed.tuples
  served-typed id (Nop t) (outcome.Over Post None) items op h = over id _ _ items h.1 typed.tuples
  served-typed id (Nop t) (outcome.Found u) items op h = whole id _ _ items h.1 typed.tuples
  served-typed id (Nop t) (outcome.Over Post (Some u)) items op h = over id _ _ items h.1 typed.tuples
  served-typed id (In t) outcome.Pending items op h = whole id _ _ items h typed.tuples
  served-typed id (In t) (outcome.Over Pre None) items op h = over id _ _ items h typed.tuples
  served-typed id (Rd t) outcome.Pending items op h = whole id _ _ items h typed.tuples
  served-typed id (Rd t) (outcome.Over Pre None) items op h = over id _ _ items h typed.tuples
  served-typed id (No t) outcome.Pending items op h = whole id _ _ items h typed.tuples
  served-typed id (No t) (outcome.Over Pre None) items op h = over id _ _ items h typed.tuples
  served-typed id (SetSpec clauses) outcome.Done items op h = subst (All IsTypedItem) (sym h) (All-nil IsTypedItem)
  served-typed id GetSpec (outcome.Spec text) items op h = subst (All IsTypedItem) (sym h.1) (All-nil IsTypedItem)
  served-typed id _ _ items op h = absurd h

  tuple-typed : (r : Request) (result : Outcome) (items : List Item)
      → IsGivenTuple TheFirst origin s r result items → IsTypedOutcome result × All IsTypedItem items
  tuple-typed r (outcome.Took u) items h = (
    first-typed (IsMatch r.template) s.tuples u typed.tuples h.0,
    whole r.id _ _ items h.1 (after_taking-typed r.wants u s.tuples typed.tuples),
  )
  tuple-typed r (outcome.Over Post (Some u)) items h = (
    first-typed (IsMatch r.template) s.tuples u typed.tuples h.0,
    over r.id _ _ items h.1 (after_taking-typed r.wants u s.tuples typed.tuples),
  )
  tuple-typed r _ items h = absurd h

  absence-typed : (r : Request) (result : Outcome) (items : List Item)
      → IsToldAbsence TheFirst origin s r result items → IsTypedOutcome result × All IsTypedItem items
  absence-typed r outcome.Absent items h = (tt, whole r.id _ _ items h.1 typed.tuples)
  absence-typed r (outcome.Over Post None) items h = (tt, over r.id _ _ items h.1 typed.tuples)
  absence-typed r _ items h = absurd h

  given-typed : (wants : Wants) (r : Request) (result : Outcome) (items : List Item)
      → IsGivenFor TheFirst origin s wants r result items → IsTypedOutcome result × All IsTypedItem items
  given-typed Take r result items h = tuple-typed r result items h
  given-typed Look r result items h = tuple-typed r result items h
  given-typed Absence r result items h = absence-typed r result items h

-- the outcomes of a typed history are typed
outcome_given-typed : (history : List Entry) (id : CallId) → All IsTyped history → IsTypedOutcome (outcome_given history id)
outcome_given-typed [] id all = tt
outcome_given-typed (Called i op result items ∷ es) id all =
    outcome_given-typed es id (All-tail IsTyped (Called i op result items) es all)
outcome_given-typed (Gave i result items ∷ es) id all =
    let rest = outcome_given-typed es id (All-tail IsTyped (Gave i result items) es all) in
    let here = (All-head IsTyped (Gave i result items) es all).1 in
    elim (same_id i id) as (λ b. IsTypedOutcome (if b then result else outcome_given es id)) [ true ↦ here | false ↦ rest ]
outcome_given-typed (Looked i asked told ∷ es) id all =
    outcome_given-typed es id (All-tail IsTyped (Looked i asked told) es all)

or_given-typed : (result given : Outcome) → IsTypedOutcome result → IsTypedOutcome given → IsTypedOutcome (or_given result given)
or_given-typed outcome.Pending given here there = there
or_given-typed outcome.Done given here there = here
or_given-typed (outcome.Took u) given here there = here
or_given-typed outcome.NoTuple given here there = here
or_given-typed outcome.Absent given here there = here
or_given-typed (outcome.Found u) given here there = here
or_given-typed (outcome.Spec text) given here there = here
or_given-typed (outcome.Over phase tuple) given here there = here

outcome_in-typed : (history : List Entry) (id : CallId) → All IsTyped history → IsTypedOutcome (outcome_in history id)
outcome_in-typed [] id all = tt
outcome_in-typed (Called i op result items ∷ es) id all =
    let behind : All IsTyped es = All-tail IsTyped (Called i op result items) es all in
    let here = (All-head IsTyped (Called i op result items) es all).2 in
    elim (same_id i id) as
    (λ b. IsTypedOutcome (if b then or_given result (outcome_given es id) else outcome_in es id)) [
      | true ↦ or_given-typed result (outcome_given es id) here (outcome_given-typed es id behind)
      | false ↦ outcome_in-typed es id behind
    ]
outcome_in-typed (Gave i result items ∷ es) id all =
    outcome_in-typed es id (All-tail IsTyped (Gave i result items) es all)
outcome_in-typed (Looked i asked told ∷ es) id all =
    outcome_in-typed es id (All-tail IsTyped (Looked i asked told) es all)

reply_of-typed : (result : Outcome) → IsTypedOutcome result → IfSome (reply_of result) IsTypedReply
reply_of-typed outcome.Done h = tt
reply_of-typed (outcome.Took u) h = h
reply_of-typed outcome.NoTuple h = tt
reply_of-typed outcome.Absent h = tt
reply_of-typed (outcome.Found u) h = h
reply_of-typed outcome.Pending h = tt
reply_of-typed (outcome.Spec text) h = h
reply_of-typed (outcome.Over phase tuple) h = tt

-- so its replies are
pub reply_in-typed : (history : List Entry) (id : CallId) → All IsTyped history → IfSome (reply_in history id) IsTypedReply
reply_in-typed history id all = reply_of-typed (outcome_in history id) (outcome_in-typed history id all)

-- the ids of its calls are
call-typed : (id : CallId) (e : Entry) → IsCallOf id e → IsTyped e → IsTypedId id
call-typed id (Called i op result items) call typed = subst IsTypedId call typed.0
call-typed id (Gave i result items) call typed = absurd call
call-typed id (Looked i asked told) call typed = absurd call

legal-typed : (origin : Origin) (history : List Entry) (s : State) (e : Entry) → IsTypedState s → All IsTyped history
    → IsLegal TheFirst origin history s e → IsTypedCall e → IsTyped e
legal-typed origin history s (Called id op result items) typed all legal call =
    (call.0, call.1, call.2, served-typed origin s typed id op result items call.1 legal.2)
legal-typed origin history s (Gave id result items) typed all legal call =
    let r : Request = legal.request in
    let asked : IsTypedRequest r =
    All-contains IsTypedRequest s.pending r typed.pending (IsFirst-contains _ s.pending r legal.chosen) in
    let given = given-typed origin s typed r.wants r result items legal.given in
    (subst IsTypedId legal.asked asked.id, given.0, given.1)
legal-typed origin history s (Looked id asked told) typed all legal call =
    let is = legal.2 in
    let of : IsTypedId (call_of id.agent asked) =
    call-typed (call_of id.agent asked) is.called.entry is.called.call
    (All-contains IsTyped history is.called.entry all is.called.stands) in (
      call,
      of.number,
      subst (λ o. IfSome o IsTypedReply) (sym is.told) (reply_in-typed history (call_of id.agent asked) all),
    )

pub IsTyped-first_run : (origin : Origin) (history : List Entry) → IsOrigin origin → IsFirstRun origin history
    → All IsTypedCall history → All IsTyped history
IsTyped-first_run origin history may run calls =
    EachEntry-keeps-along (IsLegal TheFirst origin) (opening origin) IsTypedCall (All IsTyped) (All-nil IsTyped)
    (λ before e typed legal call.
    All-push IsTyped before e typed
    (legal-typed origin before (after_history (opening origin) before) e
    (after_history-typed (opening origin) before (opening-typed origin may) typed) typed legal call))
    history run calls
