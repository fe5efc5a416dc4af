-- What the program's types promise of the parts of a history.
use Rattle.std.specs.Prelude.{◌<◌, ◌^◌, ℕ, IfSome, List, All}
use Rattle.tc_term.specs.Tree.{IsTuple}
use Rattle.tc_term.specs.Variables.{IsPattern}
use Rattle.tc_model.specs.Reactions.{AreClauses}
use Rattle.tc_model.specs.declared.calls.CallId.{CallId}
use Rattle.tc_model.specs.declared.calls.Op.{Op}
use Rattle.tc_model.specs.declared.calls.Op.TheVariants.{Out, In, Rd, Inp, Rdp, No, Nop}
use Rattle.tc_model.specs.declared.calls.Op.TheVariants.{SetSpec, GetSpec}
use Rattle.tc_model.specs.declared.calls.Request.{Request}
use Rattle.tc_model.specs.declared.items.Effect.{Effect}
use Rattle.tc_model.specs.declared.items.Effect.TheVariants.{Put, Took, Read}
use Rattle.tc_model.specs.declared.items.Item.{Item}
use Rattle.tc_model.specs.declared.items.Item.TheVariants.{Fired, Failed}
use Rattle.tc_model.specs.declared.outcomes.Outcome.{Outcome}
use Rattle.tc_model.specs.declared.outcomes.Outcome.TheVariants as outcome
use Rattle.tc_model.specs.declared.outcomes.Reply.{Reply}
use Rattle.tc_model.specs.declared.outcomes.Reply.TheVariants as reply
use Rattle.tc_model.specs.declared.entries.Entry.{Entry}
use Rattle.tc_model.specs.declared.entries.Entry.TheVariants.{Called, Gave, Looked}

-- the number has 32 bits
abbrev pub Is32 : ℕ → Type 0
Is32 n = n < 2 ^ 32

-- the number has 64 bits
abbrev pub Is64 : ℕ → Type 0
Is64 n = n < 2 ^ 64

-- the numbers are bytes
abbrev pub AreBytes : List ℕ → Type 0
AreBytes numbers = All (λ b. b < 2 ^ 8) numbers

-- an agent's number has 32 bits, a call's 64
pub record IsTypedId (id : CallId) : Type 0 where
  pub agent : Is32 id.agent
  pub number : Is64 id.number

-- the operation has a tuple, a template or clauses, as its kind asks
abbrev pub IsTypedOp : Op → Type 0
IsTypedOp (Out tuple) = IsTuple tuple
IsTypedOp (In template) = IsPattern template
IsTypedOp (Rd template) = IsPattern template
IsTypedOp (Inp template) = IsPattern template
IsTypedOp (Rdp template) = IsPattern template
IsTypedOp (No template) = IsPattern template
IsTypedOp (Nop template) = IsPattern template
IsTypedOp (SetSpec clauses) = AreClauses clauses
IsTypedOp GetSpec = Unit {0}

-- the call that waits has a template
pub record IsTypedRequest (request : Request) : Type 0 where
  pub id : IsTypedId request.id
  pub template : IsPattern request.template

-- the effect is on a tuple
abbrev pub IsTypedEffect : Effect → Type 0
IsTypedEffect (Put tuple) = IsTuple tuple
IsTypedEffect (Took tuple) = IsTuple tuple
IsTypedEffect (Read tuple) = IsTuple tuple

-- the numbers of an item have 32 bits, and its effects are on tuples
abbrev pub IsTypedItem : Item → Type 0
IsTypedItem (Fired pick clause effects) = Is32 pick × Is32 clause × All IsTypedEffect effects
IsTypedItem (Failed pick clause goal effects) =
    Is32 pick × Is32 clause × Is32 goal × All IsTypedEffect effects

-- the outcome tells a tuple, or a text of bytes
abbrev pub IsTypedOutcome : Outcome → Type 0
IsTypedOutcome outcome.Done = Unit {0}
IsTypedOutcome (outcome.Took tuple) = IsTuple tuple
IsTypedOutcome outcome.NoTuple = Unit {0}
IsTypedOutcome outcome.Absent = Unit {0}
IsTypedOutcome (outcome.Found tuple) = IsTuple tuple
IsTypedOutcome outcome.Pending = Unit {0}
IsTypedOutcome (outcome.Spec text) = AreBytes text
IsTypedOutcome (outcome.Over phase tuple) = IfSome tuple IsTuple

-- the reply tells a tuple, or a text of bytes
abbrev pub IsTypedReply : Reply → Type 0
IsTypedReply reply.Done = Unit {0}
IsTypedReply (reply.Tuple tuple) = IsTuple tuple
IsTypedReply reply.NoTuple = Unit {0}
IsTypedReply reply.Absent = Unit {0}
IsTypedReply (reply.Found tuple) = IsTuple tuple
IsTypedReply (reply.Spec text) = AreBytes text
IsTypedReply (reply.OverBudget phase) = Unit {0}

-- each part of the entry is what the program's types promise
abbrev pub IsTyped : Entry → Type 0
IsTyped (Called id op result items) =
    IsTypedId id × IsTypedOp op × IsTypedOutcome result × All IsTypedItem items
IsTyped (Gave id result items) = IsTypedId id × IsTypedOutcome result × All IsTypedItem items
IsTyped (Looked id asked told) = IsTypedId id × Is64 asked × IfSome told IsTypedReply

-- what is typed of an entry before it is known where it stands: the call, and its outcome; a
-- look's id
abbrev pub IsTypedCall : Entry → Type 0
IsTypedCall (Called id op result items) = IsTypedId id × IsTypedOp op × IsTypedOutcome result
IsTypedCall (Gave id result items) = Unit {0}
IsTypedCall (Looked id asked told) = IsTypedId id
