-- Each operation has an outcome, and so has each request that can be answered.
use Rattle.std.proofs.Common.{◌++◌, List, [], ◌∷◌, Some, None, refl}
use Rattle.tc_lists.specs.Firsts.{NoneOf, IsFirst}
use Rattle.tc_lists.proofs.Firsts.{NoneOf-from_All, none_first}
use Rattle.tc_term.specs.Tree.{Tree}
use Rattle.tc_model.specs.Choices.{TheFirst}
use Rattle.tc_model.specs.Events.{Occurrence, failure_event, request_event, success_event}
use Rattle.tc_model.specs.Reactions.{clauses_text}
use Rattle.tc_model.specs.State.{IsMatch, IsAnswerable, IsThere, SomeMatches, Origin, State, after_taking}
use Rattle.tc_model.specs.Tables.{IsGiven, IsGivenFor, IsGivenTuple, IsServed, Overruns, Reacts, asking_op, setting_of}
use Rattle.tc_model.specs.Tuples.{without_first}
use Rattle.tc_model.specs.declared.calls.CallId.{CallId}
use Rattle.tc_model.specs.declared.calls.Op.{Op}
use Rattle.tc_model.specs.declared.calls.Op.TheVariants.{Out, In, Rd, Inp, Rdp, No, Nop, SetSpec, GetSpec}
use Rattle.tc_model.specs.declared.calls.Request.{Request}
use Rattle.tc_model.specs.declared.calls.Wants.{Wants}
use Rattle.tc_model.specs.declared.calls.Wants.TheVariants.{Take, Look, Absence}
use Rattle.tc_model.specs.declared.events.EventOp.TheVariants as op
use Rattle.tc_model.specs.declared.events.Phase.TheVariants.{Pre, Post}
use Rattle.tc_model.specs.declared.items.Item.{Item}
use Rattle.tc_model.specs.declared.outcomes.Outcome.{Outcome}
use Rattle.tc_model.specs.declared.outcomes.Outcome.TheVariants.{Done, Took, NoTuple, Absent, Found, Pending, Spec, Over}
use Rattle.tc_cascade.proofs.Endings.{cascade_ends}

module _ (origin : Origin) (s : State) where
  -- the reactions to an event are within the budget, or over it
  reacts : (id : CallId) (e : Occurrence) (tuples : List Tree)
      → ((items : List Item) → Reacts TheFirst origin s id e tuples items → ⊥)
      → ((items : List Item) → Overruns TheFirst origin s id e tuples items → ⊥)
      → ⊥
  reacts id e tuples = cascade_ends s.clauses (setting_of origin id) origin.budget e tuples

  -- some tuple is the first that matches, or none matches
  first_or_none : (t : Tree) → ((u : Tree) → IsFirst (IsMatch t) s.tuples u → ⊥) → NoneOf (IsMatch t) s.tuples
  first_or_none t none = NoneOf-from_All (IsMatch t) s.tuples (none_first (IsMatch t) s.tuples none)

  -- each operation has an outcome
  pub served : (id : CallId) (operation : Op)
      → ((result : Outcome) (items : List Item) → IsServed TheFirst origin s id operation result items → ⊥)
      → ⊥
  served id (Out t) none =
      reacts id (success_event op.Out t) (s.tuples ++ t ∷ []) (none Done) (none (Over Post None))
  served id (In t) none =
      reacts id (request_event op.In t) s.tuples (none Pending) (none (Over Pre None))
  served id (Rd t) none =
      reacts id (request_event op.Rd t) s.tuples (none Pending) (none (Over Pre None))
  served id (Inp t) none =
      let never : NoneOf (IsMatch t) s.tuples = first_or_none t (λ u first.
      reacts id (success_event op.Inp u) (without_first u s.tuples)
      (λ items whole. none (Took u) items (first, whole))
      (λ items over. none (Over Post (Some u)) items (first, over))) in
      reacts id (failure_event op.Inp t) s.tuples
      (λ items whole. none NoTuple items (never, whole))
      (λ items over. none (Over Post None) items (never, over))
  served id (Rdp t) none =
      let never : NoneOf (IsMatch t) s.tuples = first_or_none t (λ u first.
      reacts id (success_event op.Rdp u) s.tuples
      (λ items whole. none (Took u) items (first, whole))
      (λ items over. none (Over Post (Some u)) items (first, over))) in
      reacts id (failure_event op.Rdp t) s.tuples
      (λ items whole. none NoTuple items (never, whole))
      (λ items over. none (Over Post None) items (never, over))
  served id (No t) none =
      reacts id (request_event op.No t) s.tuples (none Pending) (none (Over Pre None))
  served id (Nop t) none =
      let never : NoneOf (IsMatch t) s.tuples = first_or_none t (λ u first.
      reacts id (failure_event op.Nop t) s.tuples
      (λ items whole. none (Found u) items (first, whole))
      (λ items over. none (Over Post (Some u)) items (first, over))) in
      reacts id (success_event op.Nop t) s.tuples
      (λ items whole. none Absent items (never, whole))
      (λ items over. none (Over Post None) items (never, over))
  served id (SetSpec clauses) none = none Done [] refl
  served id GetSpec none = none (Spec (clauses_text s.clauses)) [] (refl, refl)

  -- where a request for a tuple has none, no tuple matches
  given_tuple : (r : Request)
      → ((result : Outcome) (items : List Item) → IsGivenTuple TheFirst origin s r result items → ⊥)
      → SomeMatches s.tuples r.template → ⊥
  given_tuple r none some =
      let never : NoneOf (IsMatch r.template) s.tuples = first_or_none r.template (λ u first.
      reacts r.id (success_event (asking_op r.wants) u) (after_taking r.wants u s.tuples)
      (λ items whole. none (Took u) items (first, whole))
      (λ items over. none (Over Post (Some u)) items (first, over))) in
      never some.tuple some.stands some.matches

  given_for : (wants : Wants) (r : Request)
      → ((result : Outcome) (items : List Item) → IsGivenFor TheFirst origin s wants r result items → ⊥)
      → IsThere wants s.tuples r.template → ⊥
  given_for Take r none there = given_tuple r none there
  given_for Look r none there = given_tuple r none there
  given_for Absence r none never =
      reacts r.id (success_event op.No r.template) s.tuples
      (λ items whole. none Absent items (never, whole))
      (λ items over. none (Over Post None) items (never, over))

  -- where a request has none, it can't be answered
  pub given : (r : Request)
      → ((result : Outcome) (items : List Item) → IsGiven TheFirst origin s r result items → ⊥)
      → IsAnswerable s.tuples r → ⊥
  given r none there = given_for r.wants r none there
