-- Sessions of agents, over connections.
use Rattle.std.specs.Prelude.{◌≡◌, ℕ, IsTrue, List}
use Rattle.tc_desk.specs.Desks.{DeskState}
use Rattle.tc_desk.specs.declared.rows.LogRow.{LogRow}
use Rattle.tc_io.specs.Links.{Connection}
use Rattle.tc_io.specs.Sinks.{SinkState}
use Rattle.tc_io.specs.Sources.{SourceState}
use Rattle.tc_session.specs.Sessions.{IsSession}
use Rattle.tc_session.specs.declared.endings.SessionEnd.{SessionEnd}
use Rattle.tc_session.specs.declared.endings.SessionEnd.TheVariants as end
use Rattle.tc_site.specs.Desks.{IsNewDesk}

-- a session over this connection, of which what was written is gone
pub record IsSessionOver (c : Connection) (d : DeskState) (result : SessionEnd) (e : DeskState)
    : Type 0 where
  pub source : SourceState
  pub source_after : SourceState
  pub sink : SinkState
  pub sink_after : SinkState
  pub left : source.left ≡ c.left
  pub session : IsSession d source source_after sink sink_after result e
  pub read_sure : IsTrue c.sure → result ≡ end.ReadFault → ⊥
  pub write_sure : IsTrue c.sure → result ≡ end.WriteFault → ⊥

-- an agent's session: its connection as it was opened, the log that it left, and how it ended
pub record SessionState : Type 0 where
  pub connection : Connection
  pub log : List LogRow
  pub end : SessionEnd

-- the session has led from a desk that had made no call, at centres of these names, to its log
pub record IsSessionAt (names : List (List ℕ)) (s : SessionState) : Type 0 where
  pub desk : DeskState
  pub new : IsNewDesk names desk
  pub after : DeskState
  pub log_is : after.log ≡ s.log
  pub session : IsSessionOver s.connection desk s.end after
