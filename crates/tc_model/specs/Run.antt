-- The runs of a centre: histories whose every entry is legal where it stands.
use Rattle.std.specs.Prelude.{◌≡◌, ℕ, ◌<◌, List, Some, All, Contains, length, slice_get}
use Rattle.std.specs.Prelude.{take}
use Rattle.tc_model.specs.Choices.{Choice, AnyOne, TheFirst, IsChosen}
use Rattle.tc_model.specs.State.{State, Origin, IsAnswerable, IsQuiescent, opening, after_history}
use Rattle.tc_model.specs.Calls.{call_of, id_of, calls_of, IsCallOf}
use Rattle.tc_model.specs.Replies.{reply_in}
use Rattle.tc_model.specs.Tables.{IsServed, IsGiven}
use Rattle.tc_model.specs.declared.calls.CallId.{CallId}
use Rattle.tc_model.specs.declared.calls.Request.{Request}
use Rattle.tc_model.specs.declared.items.Item.{Item}
use Rattle.tc_model.specs.declared.outcomes.Outcome.{Outcome}
use Rattle.tc_model.specs.declared.outcomes.Reply.{Reply}
use Rattle.tc_model.specs.declared.entries.Entry.{Entry}
use Rattle.tc_model.specs.declared.entries.Entry.TheVariants.{Called, Gave, Looked}
use Rattle.std.specs.Prelude.{Option}

-- the agent is one of the centre's, and the number is above those of the entries that it made
pub record IsNext (origin : Origin) (history : List Entry) (id : CallId) : Type 0 where
  pub agent : id.agent < length origin.agents
  pub number : All (λ e. (id_of e).number < id.number) (calls_of id.agent history)

-- the history has the call of this id
pub record HasCall (id : CallId) (history : List Entry) : Type 0 where
  pub entry : Entry
  pub stands : Contains history entry
  pub call : IsCallOf id entry

-- a request that may be chosen is answered
pub record IsAnswered
    (choice : Choice) (origin : Origin) (s : State) (id : CallId) (result : Outcome)
    (items : List Item) : Type 0 where
  pub request : Request
  pub chosen : IsChosen choice (IsAnswerable s.tuples) s.pending request
  pub asked : request.id ≡ id
  pub given : IsGiven choice origin s request result items

-- an agent is told what became of an earlier call of its own
pub record IsTold (history : List Entry) (id : CallId) (asked : ℕ) (reply : Option Reply)
    : Type 0 where
  pub called : HasCall (call_of id.agent asked) history
  pub told : reply ≡ reply_in history (call_of id.agent asked)

-- the entry may follow the history, which has led to this state; agents are listened to only where
-- no request can be answered
abbrev pub IsLegal : Choice → Origin → List Entry → State → Entry → Type 0
IsLegal choice origin history s (Called id op result items) =
    IsQuiescent s × IsNext origin history id × IsServed choice origin s id op result items
IsLegal choice origin history s (Gave id result items) = IsAnswered choice origin s id result items
IsLegal choice origin history s (Looked id asked reply) =
    IsQuiescent s × IsNext origin history id × IsTold history id asked reply

-- each entry has this relation to the entries before it and the state to which they lead
abbrev pub EachEntry :
    (List Entry → State → Entry → Type 0) → State → List Entry → Type 0
EachEntry R s history =
    (k : ℕ) (e : Entry) → slice_get history k ≡ Some e
    → R (take k history) (after_history s (take k history)) e

-- every entry is legal where it stands, by this choice
abbrev pub IsRunBy : Choice → Origin → List Entry → Type 0
IsRunBy choice origin history = EachEntry (IsLegal choice origin) (opening origin) history

-- every entry is legal where it stands: each choice is any one that was possible
abbrev pub IsRun : Origin → List Entry → Type 0
IsRun origin history = IsRunBy AnyOne origin history

-- every entry is legal where it stands, and every choice is the first
abbrev pub IsFirstRun : Origin → List Entry → Type 0
IsFirstRun origin history = IsRunBy TheFirst origin history
