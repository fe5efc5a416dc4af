-- The tables of calls and of answers: which outcome and which reactions each may have.
use Rattle.std.specs.Prelude.{◌≡◌, Some, None, List, [], ◌∷◌, ◌++◌}
use Rattle.std.proofs.Common.{get_or}
use Rattle.tc_term.specs.Tree.{Tree}
use Rattle.tc_model.specs.Choices.{Choice, IsChosen}
use Rattle.tc_model.specs.Events.{Occurrence, Setting, success_event, failure_event, request_event}
use Rattle.tc_model.specs.Reactions.{clauses_text}
use Rattle.tc_model.specs.Tuples.{without_first}
use Rattle.tc_model.specs.Cascades.{IsWhole, IsOver}
use Rattle.tc_model.specs.State.{State, Origin, IsMatch, NoneMatches, after_taking}
use Rattle.tc_model.specs.declared.calls.CallId.{CallId}
use Rattle.tc_model.specs.declared.calls.Op.{Op}
use Rattle.tc_model.specs.declared.calls.Op.TheVariants.{Out, In, Rd, Inp, Rdp, No, Nop}
use Rattle.tc_model.specs.declared.calls.Op.TheVariants.{SetSpec, GetSpec}
use Rattle.tc_model.specs.declared.calls.Request.{Request}
use Rattle.tc_model.specs.declared.calls.Wants.{Wants}
use Rattle.tc_model.specs.declared.calls.Wants.TheVariants.{Take, Look, Absence}
use Rattle.tc_model.specs.declared.events.EventOp.{EventOp}
use Rattle.tc_model.specs.declared.events.EventOp.TheVariants as op
use Rattle.tc_model.specs.declared.events.Phase.TheVariants.{Pre, Post}
use Rattle.tc_model.specs.declared.items.Item.{Item}
use Rattle.tc_model.specs.declared.outcomes.Outcome.{Outcome}
use Rattle.tc_model.specs.declared.outcomes.Outcome.TheVariants.{Done, Took, NoTuple, Absent}
use Rattle.tc_model.specs.declared.outcomes.Outcome.TheVariants.{Found, Pending, Spec, Over}

-- reactions run in the name of the agent whose call or request they belong to
abbrev pub setting_of : Origin → CallId → Setting
setting_of origin id = record { agent = get_or origin.agents id.agent []; centre = origin.name }

-- the operation that asks for what a request wants
abbrev pub asking_op : Wants → EventOp
asking_op Take = op.In
asking_op Look = op.Rd
asking_op Absence = op.No

module _ (choice : Choice) (origin : Origin) (s : State) where
  -- the reactions to a phase of a call, over these tuples: all within the budget
  abbrev pub Reacts : CallId → Occurrence → List Tree → List Item → Type 0
  Reacts id e tuples items =
      IsWhole choice s.clauses (setting_of origin id) origin.budget e tuples items

  -- they go over the budget
  abbrev pub Overruns : CallId → Occurrence → List Tree → List Item → Type 0
  Overruns id e tuples items =
      IsOver choice s.clauses (setting_of origin id) origin.budget e tuples items

  -- the tuple may be chosen for the template
  abbrev pub IsChosenTuple : Tree → Tree → Type 0
  IsChosenTuple template tuple = IsChosen choice (IsMatch template) s.tuples tuple

  -- the table of calls: an operation has no outcome that isn't listed
  abbrev pub IsServed : CallId → Op → Outcome → List Item → Type 0
  IsServed id (Out t) Done items = Reacts id (success_event op.Out t) (s.tuples ++ t ∷ []) items
  IsServed id (Out t) (Over Post None) items =
      Overruns id (success_event op.Out t) (s.tuples ++ t ∷ []) items
  IsServed id (Inp t) (Took u) items =
      IsChosenTuple t u × Reacts id (success_event op.Inp u) (without_first u s.tuples) items
  IsServed id (Inp t) (Over Post (Some u)) items =
      IsChosenTuple t u × Overruns id (success_event op.Inp u) (without_first u s.tuples) items
  IsServed id (Rdp t) (Took u) items =
      IsChosenTuple t u × Reacts id (success_event op.Rdp u) s.tuples items
  IsServed id (Rdp t) (Over Post (Some u)) items =
      IsChosenTuple t u × Overruns id (success_event op.Rdp u) s.tuples items
  IsServed id (Inp t) NoTuple items =
      NoneMatches s.tuples t × Reacts id (failure_event op.Inp t) s.tuples items
  IsServed id (Inp t) (Over Post None) items =
      NoneMatches s.tuples t × Overruns id (failure_event op.Inp t) s.tuples items
  IsServed id (Rdp t) NoTuple items =
      NoneMatches s.tuples t × Reacts id (failure_event op.Rdp t) s.tuples items
  IsServed id (Rdp t) (Over Post None) items =
      NoneMatches s.tuples t × Overruns id (failure_event op.Rdp t) s.tuples items
  IsServed id (Nop t) Absent items =
      NoneMatches s.tuples t × Reacts id (success_event op.Nop t) s.tuples items
  IsServed id (Nop t) (Over Post None) items =
      NoneMatches s.tuples t × Overruns id (success_event op.Nop t) s.tuples items
  IsServed id (Nop t) (Found u) items =
      IsChosenTuple t u × Reacts id (failure_event op.Nop t) s.tuples items
  IsServed id (Nop t) (Over Post (Some u)) items =
      IsChosenTuple t u × Overruns id (failure_event op.Nop t) s.tuples items
  IsServed id (In t) Pending items = Reacts id (request_event op.In t) s.tuples items
  IsServed id (In t) (Over Pre None) items = Overruns id (request_event op.In t) s.tuples items
  IsServed id (Rd t) Pending items = Reacts id (request_event op.Rd t) s.tuples items
  IsServed id (Rd t) (Over Pre None) items = Overruns id (request_event op.Rd t) s.tuples items
  IsServed id (No t) Pending items = Reacts id (request_event op.No t) s.tuples items
  IsServed id (No t) (Over Pre None) items = Overruns id (request_event op.No t) s.tuples items
  IsServed id (SetSpec clauses) Done items = items ≡ []
  IsServed id GetSpec (Spec text) items = (text ≡ clauses_text s.clauses) × (items ≡ [])
  IsServed id operation result items = ⊥

  -- a request that wants a tuple is given one that may be chosen
  abbrev pub IsGivenTuple : Request → Outcome → List Item → Type 0
  IsGivenTuple r (Took u) items =
      IsChosenTuple r.template u
      × Reacts r.id (success_event (asking_op r.wants) u) (after_taking r.wants u s.tuples) items
  IsGivenTuple r (Over Post (Some u)) items =
      IsChosenTuple r.template u
      × Overruns r.id (success_event (asking_op r.wants) u) (after_taking r.wants u s.tuples) items
  IsGivenTuple r result items = ⊥

  -- a request that wants absence is told of it where no tuple matches
  abbrev pub IsToldAbsence : Request → Outcome → List Item → Type 0
  IsToldAbsence r Absent items =
      NoneMatches s.tuples r.template
      × Reacts r.id (success_event op.No r.template) s.tuples items
  IsToldAbsence r (Over Post None) items =
      NoneMatches s.tuples r.template
      × Overruns r.id (success_event op.No r.template) s.tuples items
  IsToldAbsence r result items = ⊥

  -- the table of answers, by what is wanted: a request has no outcome that isn't listed
  abbrev pub IsGivenFor : Wants → Request → Outcome → List Item → Type 0
  IsGivenFor Take r result items = IsGivenTuple r result items
  IsGivenFor Look r result items = IsGivenTuple r result items
  IsGivenFor Absence r result items = IsToldAbsence r result items

  abbrev pub IsGiven : Request → Outcome → List Item → Type 0
  IsGiven r result items = IsGivenFor r.wants r result items
