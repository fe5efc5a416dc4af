-- What contracts see of visits.
use Rattle.std.specs.Prelude.{ℕ, List, Option}
use Rattle.tc_desk.specs.declared.rows.LogRow.{LogRow}
use Rattle.tc_io.specs.Links.{Connection}
use Rattle.tc_model.specs.declared.asks.Primitive.{Primitive}
use Rattle.tc_policy.specs.declared.grants.Grant.{Grant}
use Rattle.tc_session.specs.declared.endings.SessionEnd.{SessionEnd}
use Rattle.tc_site.specs.Desks.{IsDecidedLog}
use Rattle.tc_site.specs.Sites.{EndedDeskState, SiteState}
use Rattle.tc_visits.specs.Sessions.{IsSessionAt, SessionState}

-- a visit: its site, its agent, its log, how its session ended, and its connection as it was opened
pub record VisitState : Type 0 where
  pub site : SiteState (List Grant)
  pub agent : ℕ
  pub log : List LogRow
  pub end : SessionEnd
  pub connection : Connection

-- the visit that has left this desk: how its session ended, and its connection as it was opened
abbrev pub visit_of : EndedDeskState (List Grant) → SessionEnd → Connection → VisitState
visit_of d end connection =
    record { site = d.site; agent = d.agent; log = d.log; end = end; connection = connection }

-- a visit's session
abbrev pub session_of : VisitState → SessionState
session_of v = record { connection = v.connection; log = v.log; end = v.end }

-- the visit's session has led from a desk that had made no call to its log, and the log is decided
-- by the site's roles
pub record IsVisit
    (permits : List Grant → ℕ → ℕ → Primitive → Option ℕ)
    (v : VisitState) : Type 0 where
  pub decided : IsDecidedLog permits v.site v.agent v.log
  pub session : IsSessionAt v.site.names (session_of v)
