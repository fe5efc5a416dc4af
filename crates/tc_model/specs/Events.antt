-- Events: what has happened to a centre's tuples, or is asked for.
use Rattle.std.specs.Prelude.{◌≡◌, ◌≤◌, ℕ, IsTrue, List, length, codes}
use Rattle.tc_term.specs.Tree.{Tree, is_ground}
use Rattle.tc_term.specs.Variables.{IsPattern}
use Rattle.tc_model.specs.Asks.{primitive_name}
use Rattle.tc_model.specs.declared.limits.TheConstants.{MOST_NAME_BYTES}
use Rattle.tc_model.specs.declared.asks.Primitive.TheVariants as primitive
use Rattle.tc_model.specs.declared.events.EventOp.{EventOp}
use Rattle.tc_model.specs.declared.events.EventOp.TheVariants as op
use Rattle.tc_model.specs.declared.events.Phase.{Phase}
use Rattle.tc_model.specs.declared.events.Phase.TheVariants.{Pre, Post}
use Rattle.tc_model.specs.declared.events.Sign.{Sign}
use Rattle.tc_model.specs.declared.events.Sign.TheVariants.{Neither, Success, Failure}
use Rattle.tc_model.specs.declared.items.Effect.{Effect}
use Rattle.tc_model.specs.declared.items.Effect.TheVariants.{Put, Took, Read}

-- an operation on a term, in its phase, and how it went
pub record Occurrence : Type 0 where
  pub op : EventOp
  pub term : Tree
  pub phase : Phase
  pub sign : Sign

-- the table of events: which phase and which sign an operation may have, and no other
abbrev pub MayOccur : EventOp → Phase → Sign → Type 0
MayOccur op.Out Post Success = Unit {0}
MayOccur op.In Pre Neither = Unit {0}
MayOccur op.In Post Success = Unit {0}
MayOccur op.Rd Pre Neither = Unit {0}
MayOccur op.Rd Post Success = Unit {0}
MayOccur op.Inp Post Success = Unit {0}
MayOccur op.Inp Post Failure = Unit {0}
MayOccur op.Rdp Post Success = Unit {0}
MayOccur op.Rdp Post Failure = Unit {0}
MayOccur op.No Pre Neither = Unit {0}
MayOccur op.No Post Success = Unit {0}
MayOccur op.Nop Post Success = Unit {0}
MayOccur op.Nop Post Failure = Unit {0}
MayOccur op.OutR Post Success = Unit {0}
MayOccur op.InR Post Success = Unit {0}
MayOccur op.RdR Post Success = Unit {0}
MayOccur operation phase sign = ⊥

-- the operation succeeds with a tuple: `no` and `nop` succeed where none matches
abbrev pub SucceedsWithTuple : EventOp → Type 0
SucceedsWithTuple op.No = ⊥
SucceedsWithTuple op.Nop = ⊥
SucceedsWithTuple operation = Unit {0}

-- an event of the table; where it succeeded with a tuple, this is its term
pub record IsOccurrence (e : Occurrence) : Type 0 where
  pub allowed : MayOccur e.op e.phase e.sign
  pub term : IsPattern e.term
  pub tuple : e.sign ≡ Success → SucceedsWithTuple e.op → IsTrue (is_ground e.term)

-- in whose name reactions run, and at which centre
pub record Setting : Type 0 where
  pub agent : List ℕ
  pub centre : List ℕ

-- names of few enough bytes
pub record IsSetting (setting : Setting) : Type 0 where
  pub agent : length setting.agent ≤ MOST_NAME_BYTES
  pub centre : length setting.centre ≤ MOST_NAME_BYTES

-- an operation has succeeded with this tuple, or because none matches this template
abbrev pub success_event : EventOp → Tree → Occurrence
success_event operation term =
    record { op = operation; term = term; phase = Post; sign = Success }

-- an operation hasn't found for the template what it asked for: a tuple, or that there is none
abbrev pub failure_event : EventOp → Tree → Occurrence
failure_event operation template =
    record { op = operation; term = template; phase = Post; sign = Failure }

-- an operation is about to wait for a tuple, or for the absence of all that match
abbrev pub request_event : EventOp → Tree → Occurrence
request_event operation template =
    record { op = operation; term = template; phase = Pre; sign = Neither }

-- the event for which an effect of a reaction stands
abbrev pub event_of : Effect → Occurrence
event_of (Put tuple) = success_event op.OutR tuple
event_of (Took tuple) = success_event op.InR tuple
event_of (Read tuple) = success_event op.RdR tuple

-- the name of an operation: that of the primitive, where an agent asks for it
abbrev pub op_name : EventOp → List ℕ
op_name op.Out = primitive_name primitive.Out
op_name op.In = primitive_name primitive.In
op_name op.Rd = primitive_name primitive.Rd
op_name op.Inp = primitive_name primitive.Inp
op_name op.Rdp = primitive_name primitive.Rdp
op_name op.No = primitive_name primitive.No
op_name op.Nop = primitive_name primitive.Nop
op_name op.OutR = codes "out_r"
op_name op.InR = codes "in_r"
op_name op.RdR = codes "rd_r"
op_name op.NoR = codes "no_r"
