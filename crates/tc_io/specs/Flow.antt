-- A text that is written in pieces.
use Rattle.std.specs.Prelude.{◌≡◌, ℕ, ◌≤◌, Bool, List, ◌++◌, length, take, Option}
use Rattle.std.specs.Prelude.{Result, Ok, Err, IsTrue}
use Rattle.std.specs.Result.{IsErrOf}
use Rattle.tc_io.specs.Faults.{Counts}
use Rattle.tc_io.specs.Sinks.{SinkState, appended, sink_of}
use Rattle.tc_io.specs.declared.sinks.SinkFault.{SinkFault}
use Rattle.tc_io.specs.declared.sinks.SinkFault.TheVariants.{Failed}

-- a sink, and the bytes that are kept to be written next
pub record Flow : Type 0 where
  pub sink : SinkState
  pub kept : List ℕ

-- the flow to a sink, of which this is what it has taken, its write faults, and whether it is sure
abbrev pub flow : {S : Type 0} → (S → Option (List ℕ)) → (S → ℕ) → (S → Bool) → S → List ℕ
    → Flow
flow taken write_faults sure s kept =
    record { sink = sink_of taken write_faults sure s; kept = kept }

-- all bytes that were handed on: those that were taken, and those that are kept
abbrev pub handed : Flow → Option (List ℕ)
handed f = appended f.sink.taken f.kept

-- of these bytes some were taken, by a sink that had taken this, and those behind them are kept
pub record KeepsRest (bytes : List ℕ) (old : Option (List ℕ)) (new : Flow) : Type 0 where
  pub before : List ℕ
  pub whole : bytes ≡ before ++ new.kept
  pub taken : new.sink.taken ≡ appended old before

-- a fault came amid these bytes: some were taken; the next ones are kept, of which a front may be
-- taken too; and it came before the rest
pub record KeepsPiece (bytes : List ℕ) (old : Option (List ℕ)) (new : Flow) : Type 0 where
  pub before : List ℕ
  pub rest : List ℕ
  pub front : ℕ
  pub whole : bytes ≡ before ++ (new.kept ++ rest)
  pub within : front ≤ length new.kept
  pub taken : new.sink.taken ≡ appended old (before ++ take front new.kept)

-- what is taken and what is kept of these bytes
abbrev pub Parts : List ℕ → Option (List ℕ) → Flow → Result (Unit {0}) SinkFault → Type 0
Parts bytes old new (Ok done) = KeepsRest bytes old new
Parts bytes old new (Err fault) = KeepsPiece bytes old new

-- a text was handed on, or a fault came amid it
pub record HandsOn (text : List ℕ) (old new : Flow) (result : Result (Unit {0}) SinkFault)
    : Type 0 where
  pub parts : Parts (old.kept ++ text) old.sink.taken new result
  pub counted : Counts (IsErrOf result Failed) old.sink.write_faults new.sink.write_faults
  pub sure : IsTrue old.sink.sure → IsErrOf result Failed → ⊥
  pub stays_sure : new.sink.sure ≡ old.sink.sure
