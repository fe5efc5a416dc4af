-- What an operation of a call comes to, and what an answer does.
use Rattle.std.specs.Prelude.{◌≡◌, ◌≤◌, ℕ, ◌+◌, ◌*◌, Option, Some, None, List}
use Rattle.std.specs.Prelude.{length, slice_get}
use Rattle.tc_term.specs.Tree.{Tree}
use Rattle.tc_model.specs.Choices.{TheFirst}
use Rattle.tc_model.specs.State.{State, after_call, after_search, unless_over, with_tuples}
use Rattle.tc_model.specs.Reactions.{Rule}
use Rattle.tc_model.specs.Replies.{reply_in}
use Rattle.tc_model.specs.Tables.{IsServed, IsGiven, setting_of}
use Rattle.tc_model.specs.Tuples.{after_items}
use Rattle.tc_model.specs.declared.calls.CallId.{CallId}
use Rattle.tc_model.specs.declared.calls.Op.{Op}
use Rattle.tc_model.specs.declared.calls.Op.TheVariants.{Out, In, Rd, Inp, Rdp, No, Nop}
use Rattle.tc_model.specs.declared.calls.Request.{Request}
use Rattle.tc_model.specs.declared.calls.Wants.{Wants}
use Rattle.tc_model.specs.declared.calls.Wants.TheVariants.{Take, Look, Absence}
use Rattle.tc_model.specs.declared.items.Item.{Item}
use Rattle.tc_model.specs.declared.limits.TheConstants.{MOST_GOALS}
use Rattle.tc_model.specs.declared.outcomes.Outcome.{Outcome}
use Rattle.tc_model.specs.declared.outcomes.Outcome.TheVariants.{Took, NoTuple, Absent, Found}
use Rattle.tc_bag.specs.Stock.{AddsYounger}
use Rattle.tc_centre.specs.Held.{origin_of, held, state_held, Grows, IsAtRest}
use Rattle.tc_centre.specs.Held.{KeepsHeld, KeepsOld, KeepsTyped}
use Rattle.tc_centre.specs.Turns.{IsAnswer}
use Rattle.tc_centre.specs.declared.answers.Answer.{Answer}
use Rattle.tc_centre.specs.declared.founding.Founding.{Founding}
use Rattle.tc_centre.specs.declared.holdings.Holdings.{Holdings}
use Rattle.tc_centre.specs.declared.operations.TupleOp.{TupleOp}
use Rattle.tc_centre.specs.declared.operations.TupleOp.TheVariants as tuples
use Rattle.tc_phases.specs.Phases.{setting_in}
use Rattle.tc_phases.specs.declared.regime.Regime.{Regime}

-- the reactions run by these clauses, in the name of the agent of this call
pub record IsRegimeOf (founding : Founding) (clauses : List Rule) (id : CallId) (regime : Regime)
    : Type 0 where
  pub clauses_are : regime.spec.now ≡ clauses
  pub setting : setting_in regime ≡ setting_of (origin_of founding) id
  pub budget : regime.budget ≡ founding.budget

-- an operation on tuples, as agents know it
abbrev pub op_of : TupleOp → Op
op_of (tuples.Put tuple) = Out tuple
op_of (tuples.Request Take template) = In template
op_of (tuples.Request Look template) = Rd template
op_of (tuples.Request Absence template) = No template
op_of (tuples.Search Take template) = Inp template
op_of (tuples.Search Look template) = Rdp template
op_of (tuples.Search Absence template) = Nop template

-- what a search tells that has found this, or nothing
abbrev pub outcome_of : Wants → Option Tree → Outcome
outcome_of Take (Some tuple) = Took tuple
outcome_of Take None = NoTuple
outcome_of Look (Some tuple) = Took tuple
outcome_of Look None = NoTuple
outcome_of Absence (Some tuple) = Found tuple
outcome_of Absence None = Absent

-- the next age has risen by 1 at most, and by the most goals of a reaction for each of the items
abbrev pub RisesBy : List Item → Holdings → Holdings → Type 0
RisesBy items old new = new.bag.next ≤ old.bag.next + 1 + MOST_GOALS * length items

-- a call's operation was done, with this outcome and these items; at most one request was added
pub record Performs (id : CallId) (op : Op) (old new : Holdings) (outcome : Outcome)
    (items : List Item) : Type 0 where
  pub served : IsServed TheFirst (origin_of old.founding) (state_held old) id op outcome items
  pub state : state_held new ≡ after_call id op outcome items (state_held old)
  pub few : length new.pending.now ≤ length old.pending.now + 1
  pub next : RisesBy items old new
  pub keeps : KeepsOld old new

-- the state after the reactions to an answer, before the request is removed
abbrev pub after_giving : Wants → Outcome → List Item → State → State
after_giving wants outcome items s =
    unless_over outcome s (with_tuples (after_items items (after_search wants outcome s.tuples)) s)

-- the request at a place was answered, with this outcome and these items
pub record Gives (place : ℕ) (old new : Holdings) (id : CallId) (outcome : Outcome)
    (items : List Item) : Type 0 where
  pub request : Request
  pub stands : slice_get old.pending.now place ≡ Some request
  pub of : request.id ≡ id
  pub given : IsGiven TheFirst (origin_of old.founding) (state_held old) request outcome items
  pub state : held old.spec new.bag.now old.pending.now
      ≡ after_giving request.wants outcome items (state_held old)
  pub next : RisesBy items old new
  pub keeps : AddsYounger old.bag new.bag

-- a call was served: its entry was appended, and then answers, until no request can be answered;
-- and the caller is told what the history then tells
pub record HasServed (id : CallId) (op : Op) (old new : Holdings) (told : Answer) : Type 0 where
  pub rest : IsAtRest new
  pub grown : Grows id op old.history.items new.history.items
  pub answer : IsAnswer (reply_in new.history.items id) told
  pub kept : KeepsHeld old new
  pub typed : KeepsTyped old new
