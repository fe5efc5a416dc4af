-- An entry of a call or of an answer has no more items than the budget allows.
use Rattle.std.proofs.Common.{◌≤◌, List, length, Some, None, ap, arith}
use Rattle.tc_term.specs.Tree.{Tree}
use Rattle.tc_model.specs.Choices.{Choice}
use Rattle.tc_model.specs.Events.{Occurrence}
use Rattle.tc_model.specs.State.{State, Origin}
use Rattle.tc_model.specs.Tables.{Reacts, Overruns, IsServed, IsGiven, IsGivenFor, IsGivenTuple, IsToldAbsence}
use Rattle.tc_model.specs.declared.calls.CallId.{CallId}
use Rattle.tc_model.specs.declared.calls.Op.{Op}
use Rattle.tc_model.specs.declared.calls.Op.TheVariants.{Out, In, Rd, Inp, Rdp, No, Nop, SetSpec, GetSpec}
use Rattle.tc_model.specs.declared.calls.Request.{Request}
use Rattle.tc_model.specs.declared.calls.Wants.{Wants}
use Rattle.tc_model.specs.declared.calls.Wants.TheVariants.{Take, Look, Absence}
use Rattle.tc_model.specs.declared.events.Phase.TheVariants.{Pre, Post}
use Rattle.tc_model.specs.declared.items.Item.{Item}
use Rattle.tc_model.specs.declared.outcomes.Outcome.{Outcome}
use Rattle.tc_model.specs.declared.outcomes.Outcome.TheVariants.{Done, Took, NoTuple, Absent, Found, Pending, Spec, Over}

module _ (choice : Choice) (origin : Origin) (s : State) where
  whole : (id : CallId) (e : Occurrence) (tuples : List Tree) (items : List Item)
      → Reacts choice origin s id e tuples items → length items ≤ origin.budget
  whole id e tuples items h = h.within

  over : (id : CallId) (e : Occurrence) (tuples : List Tree) (items : List Item)
      → Overruns choice origin s id e tuples items → length items ≤ origin.budget
  over id e tuples items h = omega (arith, h.spent)

  pub served-within : (id : CallId) (op : Op) (result : Outcome) (items : List Item)
      → IsServed choice origin s id op result items → length items ≤ origin.budget
  served-within id (Out t) Done items h = whole id _ _ items h
  served-within id (Out t) (Over Post None) items h = over id _ _ items h
  served-within id (Inp t) (Took u) items h = whole id _ _ items h.1
  served-within id (Inp t) (Over Post (Some u)) items h = over id _ _ items h.1
  served-within id (Rdp t) (Took u) items h = whole id _ _ items h.1
  served-within id (Rdp t) (Over Post (Some u)) items h = over id _ _ items h.1
  served-within id (Inp t) NoTuple items h = whole id _ _ items h.1
  served-within id (Inp t) (Over Post None) items h = over id _ _ items h.1
  served-within id (Rdp t) NoTuple items h = whole id _ _ items h.1
  served-within id (Rdp t) (Over Post None) items h = over id _ _ items h.1
  served-within id (Nop t) Absent items h = whole id _ _ items h.1
  served-within id (Nop t) (Over Post None) items h = over id _ _ items h.1
  served-within id (Nop t) (Found u) items h = whole id _ _ items h.1
  served-within id (Nop t) (Over Post (Some u)) items h = over id _ _ items h.1
  served-within id (In t) Pending items h = whole id _ _ items h
  served-within id (In t) (Over Pre None) items h = over id _ _ items h
  served-within id (Rd t) Pending items h = whole id _ _ items h
  served-within id (Rd t) (Over Pre None) items h = over id _ _ items h
  served-within id (No t) Pending items h = whole id _ _ items h
  served-within id (No t) (Over Pre None) items h = over id _ _ items h
  served-within id (SetSpec clauses) Done items h = omega (arith, ap length h)
  served-within id GetSpec (Spec text) items h = omega (arith, ap length h.1)
  served-within id _ _ items h = absurd h

  tuple-within : (r : Request) (result : Outcome) (items : List Item)
      → IsGivenTuple choice origin s r result items → length items ≤ origin.budget
  tuple-within r (Took u) items h = whole r.id _ _ items h.1
  tuple-within r (Over Post (Some u)) items h = over r.id _ _ items h.1
  tuple-within r _ items h = absurd h

  absence-within : (r : Request) (result : Outcome) (items : List Item)
      → IsToldAbsence choice origin s r result items → length items ≤ origin.budget
  absence-within r Absent items h = whole r.id _ _ items h.1
  absence-within r (Over Post None) items h = over r.id _ _ items h.1
  absence-within r _ items h = absurd h

  within-for : (wants : Wants) (r : Request) (result : Outcome) (items : List Item)
      → IsGivenFor choice origin s wants r result items → length items ≤ origin.budget
  within-for Take r result items h = tuple-within r result items h
  within-for Look r result items h = tuple-within r result items h
  within-for Absence r result items h = absence-within r result items h

  pub given-within : (r : Request) (result : Outcome) (items : List Item)
      → IsGiven choice origin s r result items → length items ≤ origin.budget
  given-within r result items h = within-for r.wants r result items h
