-- Whose desk a desk is, what the warden says of a call, and what the turn of a call or of a poll
-- came to, at the centre that it went to.
use Rattle.std.specs.Prelude.{◌≡◌, ℕ, ◌+◌, List, length, Option, Some, Ok, Err, set}
use Rattle.std.specs.Prelude.{slice_get, ◌⊎◌}
use Rattle.std.specs.declared.result.Result.{Result}
use Rattle.tc_desk.specs.Desks.{with_row}
use Rattle.tc_desk.specs.Operands.{OpOf, Sound}
use Rattle.tc_desk.specs.declared.desks.DeskFault.{DeskFault}
use Rattle.tc_desk.specs.declared.desks.DeskFault.TheVariants as fault
use Rattle.tc_desk.specs.declared.desks.Seen.{Seen}
use Rattle.tc_desk.specs.declared.desks.Served.{Served}
use Rattle.tc_desk.specs.declared.rows.LogResult.{LogResult}
use Rattle.tc_desk.specs.declared.rows.LogRow.{LogRow}
use Rattle.tc_desk.specs.declared.rows.Refusal.{Refusal}
use Rattle.tc_desk.specs.declared.rows.Refusal.TheVariants as refusal
use Rattle.tc_model.specs.State.{Origin}
use Rattle.tc_model.specs.Asks.{primitive_of}
use Rattle.tc_model.specs.declared.asks.Ask.{Ask}
use Rattle.tc_model.specs.declared.asks.Primitive.{Primitive}
use Rattle.tc_model.specs.declared.calls.Op.{Op}
use Rattle.tc_model.specs.declared.entries.Entry.{Entry}
use Rattle.tc_shared.specs.Passes.{SeesRoom}
use Rattle.tc_turn.specs.Passes.{TurnstileState, PassState}
use Rattle.tc_site.specs.Desks.{AgentState, WardenPermits}
use Rattle.tc_site.specs.Polling.{IsPolled}
use Rattle.tc_site.specs.Sites.{SiteState}
use Rattle.tc_site.specs.Turns.{IsTurn, told_of}
use Rattle.tc_site.specs.declared.waiting.WaitingAt.{WaitingAt}

-- whose desk it is: the agent's of this number, at this site
abbrev pub bond_of : {W : Type 0} → AgentState W → SiteState W × ℕ
bond_of d = (d.site, d.agent)

-- the centre t has this name and place; the agent's pass of it was p and is q, and its other passes
-- are as they were
pub record GoesTo {W : Type 0} (d : AgentState W) (centre : List ℕ) (place : ℕ)
    (e : AgentState W)
    : Type 0 where
  pub named : slice_get d.site.names place ≡ Some centre
  pub t : TurnstileState Origin
  pub p : PassState Entry Origin
  pub q : PassState Entry Origin
  pub at_centre : slice_get d.site.centres place ≡ Some t
  pub at_pass : slice_get d.passes place ≡ Some p
  pub after : e.passes ≡ set d.passes place q

-- the ask went as an operation to the centre of this name; what it came to there stands in its row,
-- and is what was told
pub record CallsThere {W : Type 0} (d : AgentState W) (centre : List ℕ) (ask : Ask)
    (told : Result Served Refusal) (e : AgentState W) : Type 0 where
  pub place : ℕ
  pub there : GoesTo d centre place e
  pub op : Op
  pub is : OpOf ask (Sound op)
  pub became : LogResult
  pub turn : IsTurn there.t there.p (length d.log + 1) op became there.q
  pub row : e.log ≡ with_row d.log centre (Some ask) became
  pub told_is : told ≡ told_of became

-- a turn was taken at the centre of this name, which found room and added nothing
pub record FindsRoom {W : Type 0} (d : AgentState W) (centre : List ℕ) (e : AgentState W)
    : Type 0 where
  pub place : ℕ
  pub there : GoesTo d centre place e
  pub room : SeesRoom there.t there.p there.q

-- the desk's passes are as they were
abbrev pub GoesNowhere : {W : Type 0} → AgentState W → AgentState W → Type 0
GoesNowhere d e = e.passes ≡ d.passes

module _ {W : Type 0} (permits : W → ℕ → ℕ → Primitive → Option ℕ) where
  -- the warden permits the agent's role to ask this of the centre of this name
  pub record MayAsk (d : AgentState W) (centre : List ℕ) (ask : Ask) : Type 0 where
    pub place : ℕ
    pub named : slice_get d.site.names place ≡ Some centre
    pub role : ℕ
    pub has : slice_get d.site.roles d.agent ≡ Some role
    pub may : WardenPermits permits d.site.warden role place (primitive_of ask)

  -- what a call came to. It is permitted, and was served, or refused, in a turn, or for want of
  -- one, at the centre of this name, or refused for its operand; or it is denied, and nothing
  -- permits it; or it went nowhere before that was asked
  abbrev pub IsCallThere : AgentState W → List ℕ → Ask → Result Served Refusal
      → AgentState W → Type 0
  IsCallThere d centre ask (Ok how) e = MayAsk d centre ask × CallsThere d centre ask (Ok how) e
  IsCallThere d centre ask (Err refusal.TurnsSpent) e =
      MayAsk d centre ask × CallsThere d centre ask (Err refusal.TurnsSpent) e
  IsCallThere d centre ask (Err (refusal.Full weight pending)) e =
      MayAsk d centre ask × CallsThere d centre ask (Err (refusal.Full weight pending)) e
  IsCallThere d centre ask (Err refusal.TooBig) e = MayAsk d centre ask × GoesNowhere d e
  IsCallThere d centre ask (Err refusal.NotGround) e = MayAsk d centre ask × GoesNowhere d e
  IsCallThere d centre ask (Err (refusal.BadSpec bad)) e = MayAsk d centre ask × GoesNowhere d e
  IsCallThere d centre ask (Err refusal.Denied) e = (MayAsk d centre ask → ⊥) × GoesNowhere d e
  IsCallThere d centre ask (Err refusal.UnknownCentre) e = GoesNowhere d e
  IsCallThere d centre ask (Err refusal.Waiting) e = GoesNowhere d e
  IsCallThere d centre ask (Err refusal.NoMemory) e =
      GoesNowhere d e ⊎ (MayAsk d centre ask × FindsRoom d centre e)

-- the poll went to the centre of the pending row, and this came of it there
pub record PollsThere {W : Type 0} (d : AgentState W) (told : Result Seen DeskFault)
    (e : AgentState W)
    : Type 0 where
  pub at : WaitingAt
  pub pending : d.pending ≡ Some at
  pub row : LogRow
  pub at_row : slice_get d.log at.row ≡ Some row
  pub there : GoesTo d row.centre at.centre e
  pub polled : IsPolled there.t at.row there.p row.centre d.log told there.q e.log

-- what a poll came to, at that centre; where no row is pending the desk is as it was
abbrev pub IsPollThere : {W : Type 0} → AgentState W → Result Seen DeskFault → AgentState W
    → Type 0
IsPollThere d (Ok seen) e = PollsThere d (Ok seen) e
IsPollThere d (Err fault.TurnsSpent) e = PollsThere d (Err fault.TurnsSpent) e
IsPollThere d (Err (fault.Full weight pending)) e = PollsThere d (Err (fault.Full weight pending)) e
IsPollThere d (Err fault.NoMemory) e = PollsThere d (Err fault.NoMemory) e
IsPollThere d (Err fault.Idle) e = e ≡ d
