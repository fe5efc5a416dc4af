-- How far a session has come.
use Rattle.std.specs.Prelude.{◌≡◌, ◌⊎◌, ℕ, Bool, IsTrue, List, [], ◌++◌}
use Rattle.std.specs.Prelude.{Option, Some, None, Result, Ok, Err, OnOk}
use Rattle.tc_desk.specs.Desks.{DeskState}
use Rattle.tc_io.specs.Faults.{Counts}
use Rattle.tc_io.specs.Flow.{Flow, HandsOn}
use Rattle.tc_io.specs.Sources.{SourceState, ReadsBytes, source_of}
use Rattle.tc_io.specs.Sinks.{SinkState, sink_of}
use Rattle.tc_io.specs.declared.sinks.SinkFault.{SinkFault}
use Rattle.tc_io.specs.declared.sinks.SinkFault.TheVariants as fault
use Rattle.tc_lines.specs.Lines.{lines_text}
use Rattle.tc_session.specs.Sessions.{IsSession, LeadTo}
use Rattle.tc_session.specs.declared.endings.SessionEnd.{SessionEnd}
use Rattle.tc_session.specs.declared.endings.SessionEnd.TheVariants as end

-- a moment of a session: the link as a source and as a sink, the bytes that are not used yet, the
-- replies that are not written yet, and the desk
pub record Moment : Type 0 where
  pub source : SourceState
  pub sink : SinkState
  pub held : List ℕ
  pub kept : List ℕ
  pub desk : DeskState

-- the moment with this link, of which these are what is left, its read faults, whether it is sure
-- as a source, what it has taken, its write faults, and whether it is sure as a sink
abbrev pub moment : {L : Type 0} → (L → Option (List ℕ)) → (L → ℕ) → (L → Bool)
    → (L → Option (List ℕ)) → (L → ℕ) → (L → Bool)
    → L → List ℕ → List ℕ → DeskState → Moment
moment left read_faults read_sure taken write_faults write_sure link held kept desk = record {
  source = source_of left read_faults read_sure link;
  sink = sink_of taken write_faults write_sure link;
  held = held;
  kept = kept;
  desk = desk;
}

-- the replies that are kept, with the sink that takes them
abbrev pub flow_at : Moment → Flow
flow_at m = record { sink = m.sink; kept = m.kept }

-- from the one moment on lines were read and answered, and the bytes that are held were read behind
-- them; of the replies some are kept, and the others were taken
pub record IsSoFar (from now : Moment) : Type 0 where
  pub raws : List (List ℕ)
  pub text : List ℕ
  pub read : ReadsBytes from.source.left now.source.left (lines_text raws ++ now.held)
  pub faults : now.source.read_faults ≡ from.source.read_faults
  pub sure : now.source.sure ≡ from.source.sure
  pub leads : LeadTo from.desk raws text now.desk
  pub handed : HandsOn text (record { sink = from.sink; kept = [] }) (flow_at now) (Ok tt)

-- the session is over, with the link and the desk as they are then, and its faults are counted
pub record IsOver (from : Moment) (result : SessionEnd) (source : SourceState) (sink : SinkState)
    (e : DeskState) : Type 0 where
  pub session : IsSession from.desk from.source source from.sink sink result e
  pub reads : Counts (result ≡ end.ReadFault) from.source.read_faults source.read_faults
  pub writes : Counts (result ≡ end.WriteFault) from.sink.write_faults sink.write_faults
  pub read_sure : IsTrue from.source.sure → result ≡ end.ReadFault → ⊥
  pub write_sure : IsTrue from.sink.sure → result ≡ end.WriteFault → ⊥

-- the session goes on, or is over
abbrev pub StepsTo : Moment → Option SessionEnd → Moment → Type 0
StepsTo from None now = IsSoFar from now
StepsTo from (Some result) now = IsOver from result now.source now.sink now.desk

-- memory has run out, or a write has failed
abbrev pub IsStop : SessionEnd → Type 0
IsStop result = (result ≡ end.WriteFault) ⊎ (result ≡ end.NoMemory)

-- the end that is due, or what has stopped the writing
abbrev pub EndIs : SessionEnd → Result (Unit {0}) SinkFault → SessionEnd → Type 0
EndIs due (Ok done) result = result ≡ due
EndIs due (Err fault.Failed) result = result ≡ end.WriteFault
EndIs due (Err fault.NoMemory) result = result ≡ end.NoMemory

-- all that was kept was written and the end is the one that is due, or a fault came amid it
pub record Finishes (due : SessionEnd) (old new : Flow) (result : SessionEnd) : Type 0 where
  pub wrote : Result (Unit {0}) SinkFault
  pub hands : HandsOn [] old new wrote
  pub empty : OnOk wrote (new.kept ≡ [])
  pub is : EndIs due wrote result
