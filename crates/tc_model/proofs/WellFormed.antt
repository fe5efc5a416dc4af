-- The entries of a run are well formed.
use Rattle.std.proofs.Common.{◌≡◌, ◌≤◌, ◌+◌, ℕ, List, [], ◌∷◌, All, Some, None, arith, sym, subst}
use Rattle.std.proofs.lemmas.List.Elements.{All-nil, All-cons}
use Rattle.tc_term.specs.Tree.{Tree}
use Rattle.tc_model.specs.Choices.{Choice}
use Rattle.tc_model.specs.Events.{Occurrence, Setting}
use Rattle.tc_model.specs.Reactions.{Rule}
use Rattle.tc_model.specs.Cascades.{Wave, IsTried, Cascades, IsWhole, IsOver}
use Rattle.tc_model.specs.State.{State, Origin}
use Rattle.tc_model.specs.Tables.{IsServed, IsGivenTuple, IsToldAbsence, IsGivenFor}
use Rattle.tc_model.specs.Run.{IsLegal}
use Rattle.tc_model.specs.Entries.{IsOutcomeWellFormed, IsAnswerOutcome, IsNumbered, IsWellFormed}
use Rattle.tc_model.specs.declared.calls.CallId.{CallId}
use Rattle.tc_model.specs.declared.calls.Op.{Op}
use Rattle.tc_model.specs.declared.calls.Op.TheVariants.{Out, In, Rd, Inp, Rdp, No, Nop, SetSpec, GetSpec}
use Rattle.tc_model.specs.declared.calls.Request.{Request}
use Rattle.tc_model.specs.declared.calls.Wants.{Wants}
use Rattle.tc_model.specs.declared.calls.Wants.TheVariants.{Take, Look, Absence}
use Rattle.tc_model.specs.declared.events.Phase.TheVariants.{Pre, Post}
use Rattle.tc_model.specs.declared.items.Item.{Item}
use Rattle.tc_model.specs.declared.items.Item.TheVariants.{Fired, Failed}
use Rattle.tc_model.specs.declared.outcomes.Outcome.{Outcome}
use Rattle.tc_model.specs.declared.outcomes.Outcome.TheVariants.{Done, Took, NoTuple, Absent, Found, Pending, Spec, Over}
use Rattle.tc_model.specs.declared.entries.Entry.{Entry}
use Rattle.tc_model.specs.declared.entries.Entry.TheVariants.{Called, Gave, Looked}

from_one : (n place : ℕ) → n ≡ place + 1 → 1 ≤ n
from_one n place h = omega (arith, h)

module _ (choice : Choice) (clauses : List Rule) (setting : Setting) where
  tried-numbered : (w : Wave) (item : Item) (next : Wave)
      → IsTried choice clauses setting w item next → IsNumbered item
  tried-numbered w (Fired pick clause effects) next h = (
    from_one pick h.place h.pick,
    subst (λ n. 1 ≤ n) (sym h.clause) (from_one h.member.clause h.stands.place h.stands.at),
  )
  tried-numbered w (Failed pick clause goal effects) next h = (
    from_one pick h.place h.pick,
    subst (λ n. 1 ≤ n) (sym h.clause) (from_one h.member.clause h.stands.place h.stands.at),
    from_one goal h.body.place h.body.at,
  )

  cascades-numbered : (items : List Item) (w end : Wave)
      → Cascades choice clauses setting items w end → All IsNumbered items
  cascades-numbered [] w end h = All-nil IsNumbered
  cascades-numbered (i ∷ items) w end h =
      All-cons IsNumbered i items (tried-numbered w i h.0 h.1) (cascades-numbered items h.0 end h.2)

  whole-numbered : (budget : ℕ) (e : Occurrence) (tuples : List Tree) (items : List Item)
      → IsWhole choice clauses setting budget e tuples items → All IsNumbered items
  whole-numbered budget e tuples items h =
      cascades-numbered items (record { tuples = tuples; triggered = h.begins.first }) h.end h.begins.cascades

  over-numbered : (budget : ℕ) (e : Occurrence) (tuples : List Tree) (items : List Item)
      → IsOver choice clauses setting budget e tuples items → All IsNumbered items
  over-numbered budget e tuples items h =
      cascades-numbered items (record { tuples = tuples; triggered = h.begins.first }) h.end h.begins.cascades

module _ (choice : Choice) (origin : Origin) (s : State) where
  served-well_formed : (id : CallId) (op : Op) (result : Outcome) (items : List Item)
      → IsServed choice origin s id op result items → IsOutcomeWellFormed result × All IsNumbered items
  served-well_formed id (Out t) Done items h = (tt, whole-numbered choice s.clauses _ origin.budget _ _ items h)
  served-well_formed id (Out t) (Over Post None) items h = (tt, over-numbered choice s.clauses _ origin.budget _ _ items h)
  served-well_formed id (Inp t) (Took u) items h = (tt, whole-numbered choice s.clauses _ origin.budget _ _ items h.1)
  served-well_formed id (Inp t) (Over Post (Some u)) items h = (tt, over-numbered choice s.clauses _ origin.budget _ _ items h.1)
  served-well_formed id (Rdp t) (Took u) items h = (tt, whole-numbered choice s.clauses _ origin.budget _ _ items h.1)
  served-well_formed id (Rdp t) (Over Post (Some u)) items h = (tt, over-numbered choice s.clauses _ origin.budget _ _ items h.1)
  served-well_formed id (Inp t) NoTuple items h = (tt, whole-numbered choice s.clauses _ origin.budget _ _ items h.1)
  served-well_formed id (Inp t) (Over Post None) items h = (tt, over-numbered choice s.clauses _ origin.budget _ _ items h.1)
  served-well_formed id (Rdp t) NoTuple items h = (tt, whole-numbered choice s.clauses _ origin.budget _ _ items h.1)
  served-well_formed id (Rdp t) (Over Post None) items h = (tt, over-numbered choice s.clauses _ origin.budget _ _ items h.1)
  served-well_formed id (Nop t) Absent items h = (tt, whole-numbered choice s.clauses _ origin.budget _ _ items h.1)
  served-well_formed id (Nop t) (Over Post None) items h = (tt, over-numbered choice s.clauses _ origin.budget _ _ items h.1)
  served-well_formed id (Nop t) (Found u) items h = (tt, whole-numbered choice s.clauses _ origin.budget _ _ items h.1)
  served-well_formed id (Nop t) (Over Post (Some u)) items h = (tt, over-numbered choice s.clauses _ origin.budget _ _ items h.1)
  served-well_formed id (In t) Pending items h = (tt, whole-numbered choice s.clauses _ origin.budget _ _ items h)
  served-well_formed id (In t) (Over Pre None) items h = (tt, over-numbered choice s.clauses _ origin.budget _ _ items h)
  served-well_formed id (Rd t) Pending items h = (tt, whole-numbered choice s.clauses _ origin.budget _ _ items h)
  served-well_formed id (Rd t) (Over Pre None) items h = (tt, over-numbered choice s.clauses _ origin.budget _ _ items h)
  served-well_formed id (No t) Pending items h = (tt, whole-numbered choice s.clauses _ origin.budget _ _ items h)
  served-well_formed id (No t) (Over Pre None) items h = (tt, over-numbered choice s.clauses _ origin.budget _ _ items h)
  served-well_formed id (SetSpec clauses) Done items h = (tt, subst (All IsNumbered) (sym h) (All-nil IsNumbered))
  served-well_formed id GetSpec (Spec text) items h = (tt, subst (All IsNumbered) (sym h.1) (All-nil IsNumbered))
  served-well_formed id _ _ items h = absurd h

  tuple-well_formed : (r : Request) (result : Outcome) (items : List Item)
      → IsGivenTuple choice origin s r result items → IsAnswerOutcome result × All IsNumbered items
  tuple-well_formed r (Took u) items h = (tt, whole-numbered choice s.clauses _ origin.budget _ _ items h.1)
  tuple-well_formed r (Over Post (Some u)) items h = (tt, over-numbered choice s.clauses _ origin.budget _ _ items h.1)
  tuple-well_formed r _ items h = absurd h

  absence-well_formed : (r : Request) (result : Outcome) (items : List Item)
      → IsToldAbsence choice origin s r result items → IsAnswerOutcome result × All IsNumbered items
  absence-well_formed r Absent items h = (tt, whole-numbered choice s.clauses _ origin.budget _ _ items h.1)
  absence-well_formed r (Over Post None) items h = (tt, over-numbered choice s.clauses _ origin.budget _ _ items h.1)
  absence-well_formed r _ items h = absurd h

  given-well_formed : (wants : Wants) (r : Request) (result : Outcome) (items : List Item)
      → IsGivenFor choice origin s wants r result items → IsAnswerOutcome result × All IsNumbered items
  given-well_formed Take r result items h = tuple-well_formed r result items h
  given-well_formed Look r result items h = tuple-well_formed r result items h
  given-well_formed Absence r result items h = absence-well_formed r result items h

  pub legal-well_formed : (history : List Entry) (e : Entry) → IsLegal choice origin history s e → IsWellFormed e
  legal-well_formed history (Called id op result items) h = served-well_formed id op result items h.2
  legal-well_formed history (Gave id result items) h = given-well_formed h.request.wants h.request result items h.given
  legal-well_formed history (Looked id asked reply) h = tt
