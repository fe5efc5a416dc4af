-- Sessions that go on a step at a time.
use Rattle.std.proofs.Common.{◌≡◌, ℕ, Bool, true, false, List, Option, Some, None, Result, IfSome, IfNone, is_some, refl, sym, subst, ◌∙◌, ⊎_elim}
use Rattle.std.proofs.lemmas.Bool.{cases_Bool}
use Rattle.tc_desk.proofs.Logs.{any_pending-none}
use Rattle.tc_desk.specs.Desks.{DeskState, Keeps}
use Rattle.tc_desk.specs.Logs.{any_pending}
use Rattle.tc_desk.specs.declared.rows.LogRow.{LogRow}
use Rattle.tc_io.specs.Sources.{SourceState}
use Rattle.tc_io.specs.Sinks.{SinkState}
use Rattle.tc_lines.specs.Requests.{BeginsWith}
use Rattle.tc_lines.specs.declared.requests.BadLine.{BadLine}
use Rattle.tc_lines.specs.declared.requests.LineAsk.{LineAsk}
use Rattle.tc_session.proofs.Kept.{kept_same}
use Rattle.tc_session.specs.Answering.{PendsAt}
use Rattle.tc_session.specs.SoFar.{IsSoFar, Moment, moment}
use Rattle.tc_session.specs.Underway.{ComesTo, GoesOn, Holds, IsUnderway, Sitting}
use Rattle.tc_session.specs.declared.going.Step.{Step}
use Rattle.tc_session.specs.declared.going.Step.TheVariants.{Answered, Read, Paused, Over}

-- a link that keeps what it is as a source and as a sink
pub same_link : (from now : Moment) (source : SourceState) (sink : SinkState) → IsSoFar from now → source ≡ now.source → sink ≡ now.sink
    → IsSoFar from (record { source = source; sink = sink; held = now.held; kept = now.kept; desk = now.desk })
same_link from now source sink before same is =
    subst (λ (s : SourceState). IsSoFar from (record { source = s; sink = sink; held = now.held; kept = now.kept; desk = now.desk })) (sym same)
    (subst (λ (s : SinkState). IsSoFar from (record { source = now.source; sink = s; held = now.held; kept = now.kept; desk = now.desk })) (sym is) before)

-- where no line was taken, those are all bytes that are held
pub none_held : (asked : Option (Result LineAsk BadLine)) (lines held : List ℕ) → asked ≡ None → Holds asked lines held → held ≡ lines
none_held asked lines held none = subst (λ (a : Option (Result LineAsk BadLine)). Holds a lines held → held ≡ lines) (sym none) (λ is. is)

-- the next line, if one is whole, where none was taken before
pub next_held : (found : Option (Result LineAsk BadLine)) (old new held : List ℕ) → IfSome found (λ asked. BeginsWith old asked new)
    → IfNone found (new ≡ old) → held ≡ old → Holds found new held
next_held None old new held begins same is = is ∙ sym same
next_held (Some asked) old new held begins same is = subst (λ (l : List ℕ). BeginsWith l asked new) (sym is) begins

-- no line that was taken is held
pub none_taken : (asked : Option (Result LineAsk BadLine)) (lines : List ℕ) → asked ≡ None → Holds asked lines lines
none_taken asked lines none = subst (λ (a : Option (Result LineAsk BadLine)). Holds a lines lines) (sym none) refl

-- a session keeps all of its desk
pub same_sitting : {D L : Type 0} (state : D → DeskState) (s t : Sitting D L) → s ≡ t → (state s.desk).free ≡ true
    → Keeps (state t.desk) (state s.desk)
same_sitting {D} {L} state s t is free =
    subst (λ (v : Sitting D L). Keeps (state v.desk) (state s.desk)) is (kept_same (state s.desk) free)

-- a call is pending where its place is known
pub pends_is : (log : List LogRow) (place : Option ℕ) → PendsAt log place → is_some place ≡ any_pending log
pends_is log None pends = sym pends
pends_is log (Some k) pends = ⊎_elim
    (λ (some : any_pending log ≡ true). sym some)
    (λ (none : any_pending log ≡ false). absurd (any_pending-none log k pends.0 none pends.1 pends.2))
    (cases_Bool (any_pending log))

module _ {D L : Type 0} (state : D → DeskState) (left : L → Option (List ℕ))
    (read_faults : L → ℕ) (read_sure : L → Bool) (taken : L → Option (List ℕ))
    (write_faults : L → ℕ) (write_sure : L → Bool) where
  -- a session that goes on, by the bytes that are held
  pub comes : (from : Moment) (step : Step) (s : Sitting D L) (held : List ℕ) → Holds s.asked s.lines held
      → ComesTo from step (moment left read_faults read_sure taken write_faults write_sure s.link held s.replies (state s.desk))
      → GoesOn state left read_faults read_sure taken write_faults write_sure from step s
  comes from Answered s held holds so_far = record { held = held; holds = holds; so_far = so_far }
  comes from Read s held holds so_far = record { held = held; holds = holds; so_far = so_far }
  comes from Paused s held holds so_far = record { held = held; holds = holds; so_far = so_far }
  comes from (Over end) s held holds over = over

  -- the same session
  pub opened : (from : Moment) (s t : Sitting D L) → s ≡ t
      → IsUnderway state left read_faults read_sure taken write_faults write_sure from t
      → IsUnderway state left read_faults read_sure taken write_faults write_sure from s
  opened from s t is = subst (IsUnderway state left read_faults read_sure taken write_faults write_sure from) (sym is)
