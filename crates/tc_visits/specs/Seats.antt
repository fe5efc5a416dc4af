-- Seats: the sessions that go on, and what is left of the others.
use Rattle.std.specs.Prelude.{◌≡◌, ℕ, Bool, List, [], Option, Some, None}
use Rattle.tc_desk.specs.Desks.{DeskState}
use Rattle.tc_io.specs.Links.{Connection, connection_of}
use Rattle.tc_model.specs.declared.asks.Primitive.{Primitive}
use Rattle.tc_policy.specs.declared.grants.Grant.{Grant}
use Rattle.tc_session.specs.SoFar.{moment}
use Rattle.tc_session.specs.Underway.{IsUnderway, Sitting}
use Rattle.tc_session.specs.declared.endings.SessionEnd.{SessionEnd}
use Rattle.tc_site.specs.Desks.{AgentState, IsDecidedLog, IsNewDesk, desk_of}
use Rattle.tc_site.specs.Sites.{EndedDeskState, KitState}
use Rattle.tc_visits.specs.Serving.{kit_of}
use Rattle.tc_visits.specs.Visits.{IsVisit, visit_of}
use Rattle.tc_visits.specs.declared.seats.Left.{Left}

-- a seat: the kit of its desk, and its connection as it was opened
pub record SeatState : Type 0 where
  pub kit : KitState (List Grant)
  pub connection : Connection

-- what is left of a session of this kit's desk, over this connection: a visit
pub record IsLeft (permits : List Grant → ℕ → ℕ → Primitive → Option ℕ)
    (kit : KitState (List Grant)) (connection : Connection)
    (desk : EndedDeskState (List Grant)) (end : SessionEnd) : Type 0 where
  pub kit_is : kit_of (visit_of desk end connection) ≡ kit
  pub visit : IsVisit permits (visit_of desk end connection)

-- by what is left of a link, its read faults, whether it is sure as a source, what it has taken,
-- its write faults, whether it is sure as a sink, and what the roles permit
module _ {L : Type 0} (left : L → Option (List ℕ)) (read_faults : L → ℕ) (read_sure : L → Bool)
    (taken : L → Option (List ℕ)) (write_faults : L → ℕ) (write_sure : L → Bool)
    (permits : List Grant → ℕ → ℕ → Primitive → Option ℕ) where
  -- a session has come so far from a desk of this kit that had made no call, and from this link
  pub record IsSitting (kit : KitState (List Grant)) (opened : L)
      (s : Sitting (AgentState (List Grant)) L) : Type 0 where
    pub desk : DeskState
    pub new : IsNewDesk kit.site.names desk
    pub underway : IsUnderway desk_of left read_faults read_sure taken write_faults write_sure
        (moment left read_faults read_sure taken write_faults write_sure opened [] [] desk) s
    pub site : s.desk.site ≡ kit.site
    pub agent : s.desk.agent ≡ kit.agent
    pub decided : IsDecidedLog permits s.desk.site s.desk.agent s.desk.log

  -- a session goes on, or something is left of it
  abbrev pub IsSeat : KitState (List Grant) → L → Option (Sitting (AgentState (List Grant)) L)
      → Option (Left L) → Type 0
  IsSeat kit opened (Some s) rest = IsSitting kit opened s
  IsSeat kit opened None (Some l) =
      IsLeft permits kit (connection_of left read_sure write_sure opened) l.desk l.end
  IsSeat kit opened None None = ⊥
