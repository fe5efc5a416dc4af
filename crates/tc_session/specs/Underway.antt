-- A session that goes on a step at a time.
use Rattle.std.specs.Prelude.{◌≡◌, ℕ, Bool, true, List, Option, Some, None, Result}
use Rattle.tc_desk.specs.Desks.{DeskState}
use Rattle.tc_io.specs.Sinks.{sink_of}
use Rattle.tc_io.specs.Sources.{source_of}
use Rattle.tc_lines.specs.Requests.{BeginsWith}
use Rattle.tc_lines.specs.declared.requests.BadLine.{BadLine}
use Rattle.tc_lines.specs.declared.requests.LineAsk.{LineAsk}
use Rattle.tc_session.specs.Answering.{PendsAt}
use Rattle.tc_session.specs.SoFar.{IsOver, IsSoFar, Moment, moment}
use Rattle.tc_session.specs.declared.going.Step.{Step}
use Rattle.tc_session.specs.declared.going.Step.TheVariants.{Answered, Read, Paused, Over}

-- a session: its desk, its link, the bytes that are not used yet, the line before them that was
-- taken and isn't answered yet, the replies that are not written yet, and where the pending row
-- stands
pub record Sitting (D L : Type 0) : Type 0 where
  pub desk : D
  pub link : L
  pub lines : List ℕ
  pub asked : Option (Result LineAsk BadLine)
  pub replies : List ℕ
  pub pending : Option ℕ

-- the bytes that are held: those of the line that was taken, if one was, and those behind it
abbrev pub Holds : Option (Result LineAsk BadLine) → List ℕ → List ℕ → Type 0
Holds None lines held = held ≡ lines
Holds (Some asked) lines held = BeginsWith held asked lines

-- the desk takes calls, and the place of its pending row is known
pub record IsKept (d : DeskState) (pending : Option ℕ) : Type 0 where
  pub free : d.free ≡ true
  pub pends : PendsAt d.log pending

-- the session goes on at this moment, or is over
abbrev pub ComesTo : Moment → Step → Moment → Type 0
ComesTo from Answered now = IsSoFar from now
ComesTo from Read now = IsSoFar from now
ComesTo from Paused now = IsSoFar from now
ComesTo from (Over end) now = IsOver from end now.source now.sink now.desk

-- by the state of a desk, what is left of a link, its read faults, whether it is sure as a source,
-- what it has taken, its write faults, and whether it is sure as a sink
module _ {D L : Type 0} (state : D → DeskState) (left : L → Option (List ℕ))
    (read_faults : L → ℕ) (read_sure : L → Bool) (taken : L → Option (List ℕ))
    (write_faults : L → ℕ) (write_sure : L → Bool) where
  -- the session has come so far from this moment on
  pub record IsUnderway (from : Moment) (s : Sitting D L) : Type 0 where
    pub held : List ℕ
    pub holds : Holds s.asked s.lines held
    pub so_far : IsSoFar from (moment left read_faults read_sure taken write_faults write_sure
        s.link held s.replies (state s.desk))

  -- the session goes on, or is over
  abbrev pub GoesOn : Moment → Step → Sitting D L → Type 0
  GoesOn from Answered s = IsUnderway from s
  GoesOn from Read s = IsUnderway from s
  GoesOn from Paused s = IsUnderway from s
  GoesOn from (Over end) s = IsOver from end (source_of left read_faults read_sure s.link)
      (sink_of taken write_faults write_sure s.link) (state s.desk)
