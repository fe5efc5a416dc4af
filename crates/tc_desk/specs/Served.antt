-- What an ask may have come to, by the history of the centre that it went to.
use Rattle.std.specs.Prelude.{◌≡◌, ℕ, ◌<◌, ◌≤◌, List, Some, All, Contains, length}
use Rattle.std.specs.Prelude.{take, drop}
use Rattle.tc_model.specs.Calls.{id_of, calls_of}
use Rattle.tc_model.specs.Entries.{IsFull, weight, pending_after}
use Rattle.tc_model.specs.Replies.{reply_in}
use Rattle.tc_model.specs.State.{Origin, IsQuiescent, opening, after_history}
use Rattle.tc_model.specs.declared.calls.CallId.{CallId}
use Rattle.tc_model.specs.declared.asks.Ask.{Ask}
use Rattle.tc_model.specs.declared.calls.Op.{Op}
use Rattle.tc_model.specs.declared.items.Item.{Item}
use Rattle.tc_model.specs.declared.outcomes.Outcome.{Outcome}
use Rattle.tc_model.specs.declared.entries.Entry.{Entry}
use Rattle.tc_model.specs.declared.entries.Entry.TheVariants.{Called}
use Rattle.tc_desk.specs.Operands.{OpOf, Sound, TooBig, NotGround, Faulty}
use Rattle.tc_desk.specs.declared.rows.LogResult.{LogResult}
use Rattle.tc_desk.specs.declared.rows.LogResult.TheVariants.{Replied, Pending, Refused, Polled}
use Rattle.tc_desk.specs.declared.rows.Refusal.TheVariants as refusal

-- the history has the call of this id, with this operation
pub record HasCalled (id : CallId) (op : Op) (history : List Entry) : Type 0 where
  pub result : Outcome
  pub items : List Item
  pub stands : Contains history (Called id op result items)

-- the ask is an operation, and the history has its call
pub record IsCalled (history : List Entry) (id : CallId) (ask : Ask) : Type 0 where
  pub op : Op
  pub is : OpOf ask (Sound op)
  pub called : HasCalled id op history

-- the centre was full when the agent came to the ask of this number: behind the first n entries,
-- with this weight and so many requests that waited
pub record WasFull
    (origin : Origin) (history : List Entry) (id : CallId) (heavy waiting : ℕ) : Type 0 where
  pub n : ℕ
  pub within : n ≤ length history
  pub quiescent : IsQuiescent (after_history (opening origin) (take n history))
  pub full : IsFull origin (take n history)
  pub weighed : heavy ≡ weight (take n history)
  pub waited : waiting ≡ pending_after origin (take n history)
  pub before : All (λ e. (id_of e).number < id.number) (calls_of id.agent (take n history))
  pub behind : All (λ e. id.number < (id_of e).number) (calls_of id.agent (drop n history))

-- the ask is an operation, and the centre was too full for it
pub record IsTurnedAway
    (origin : Origin) (history : List Entry) (id : CallId) (ask : Ask) (heavy waiting : ℕ)
    : Type 0 where
  pub op : Op
  pub is : OpOf ask (Sound op)
  pub full : WasFull origin history id heavy waiting

-- what an ask that was permitted may have come to
abbrev pub IsServedAs : Origin → List Entry → CallId → Ask → LogResult → Type 0
IsServedAs origin history id ask (Replied r) =
    IsCalled history id ask × (reply_in history id ≡ Some r)
IsServedAs origin history id ask Pending = IsCalled history id ask
IsServedAs origin history id ask (Refused refusal.TooBig) = OpOf ask TooBig
IsServedAs origin history id ask (Refused refusal.NotGround) = OpOf ask NotGround
IsServedAs origin history id ask (Refused (refusal.BadSpec bad)) = OpOf ask (Faulty bad)
IsServedAs origin history id ask (Refused (refusal.Full heavy waiting)) =
    IsTurnedAway origin history id ask heavy waiting
IsServedAs origin history id ask (Refused refusal.UnknownCentre) = ⊥
IsServedAs origin history id ask (Refused refusal.Waiting) = ⊥
IsServedAs origin history id ask (Refused refusal.Denied) = ⊥
IsServedAs origin history id ask (Refused refusal.TurnsSpent) = ⊥
IsServedAs origin history id ask (Refused refusal.NoMemory) = ⊥
IsServedAs origin history id ask (Polled r) = ⊥

-- what an ask may have come to: it is denied where nothing permits it, and nowhere else
abbrev pub IsResult : Type 0 → Origin → List Entry → CallId → Ask → LogResult → Type 0
IsResult permits origin history id ask (Refused refusal.Denied) = permits → ⊥
IsResult permits origin history id ask result = permits × IsServedAs origin history id ask result
