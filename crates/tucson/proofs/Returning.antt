-- How a call of a command returns, from what it found of its configuration and what it wrote.
use Rattle.std.proofs.Common.{◌≡◌, ◌+◌, ℕ, List, [], Option, Some, None, false, refl, sym, ap, subst, inl, inr, arith}
use Rattle.tc_config.specs.Configurations.{Configuration}
use Rattle.tc_config.specs.Texts.{IsRefused, Spells}
use Rattle.tc_config.specs.declared.faults.ConfigCause.{ConfigCause}
use Rattle.tc_config.specs.declared.faults.ConfigCause.TheVariants as cause
use Rattle.tc_config.specs.declared.limits.TheConstants.{MOST_BYTES}
use Rattle.tc_io.specs.Faults.{CountRises, Counts}
use Rattle.tc_io.specs.Sinks.{SinkState}
use Rattle.tc_io.specs.Sources.{ReadsSome, SourceState}
use Rattle.tc_load.specs.Workload.{load_text}
use Rattle.tc_verify.specs.Judgements.{IsRefusedWith}
use Rattle.tc_verify.specs.declared.verdicts.Verdict.{Verdict}
use Rattle.tc_verify.specs.declared.verdicts.Verdict.TheVariants.{NoAgent, NoEnd, NoEntry, NoText, Yes}
use Rattle.tc_visits.specs.Service.{DoorState}
use Rattle.tucson.specs.declared.command.Command.{Command}
use Rattle.tucson.specs.declared.command.Command.TheVariants.{Run, Load, Serve, Verify}
use Rattle.tucson.specs.declared.reading.Stop.{Stop}
use Rattle.tucson.specs.declared.reading.Stop.TheVariants as stop
use Rattle.tucson.specs.declared.status.Status.{Status}
use Rattle.tucson.specs.declared.status.Status.TheVariants.{Ended, WriteFault, Refused, Blocked, No, ReadFault, NoMemory, Usage, NetFault}
use Rattle.tucson.specs.Answer.{Input, Unread, Whole, TooLong, IsDue, IsDueForText, IsInput, IsOutcome, IsOutcomeOfVerdict, IsTakenAs, ReadsInput, most_read}
use Rattle.tucson.specs.Ending.{Call, Ends, IsFault, LeavesDoor, Returns, WritesDue, Writes, most_taken}
use Rattle.tucson.specs.Reading.{IsRefusedInput, IsStopFor, Refusing, StopsReading, TellsStop}
use Rattle.tucson.specs.Status.{status_of_verdict}
use Rattle.tucson.specs.declared.limits.TheConstants.{MOST_INPUT}
use Rattle.tc_config.specs.Refusals.{refused_text}
use Rattle.tucson.proofs.Dues.{ends_as_due}
use Rattle.tucson.proofs.Endings.{Ends-told, Ends-written, Leaves}
use Rattle.tucson.proofs.Outcomes.{Nets}

-- a call of a command, or of none
abbrev pub called : Option Command → SourceState → SourceState → SinkState → SinkState → DoorState → DoorState → Call
called command source source_after sink sink_after door door_after = record {
  command = command;
  source = source;
  source_after = source_after;
  sink = sink;
  sink_after = sink_after;
  door = door;
  door_after = door_after;
}

pub leaves : (command : Option Command) (door : DoorState) → LeavesDoor command door door
leaves None door = refl
leaves (Some (Run workers)) door = refl
leaves (Some (Load agents start)) door = refl
leaves (Some (Serve port)) door = tt
leaves (Some Verify) door = refl

-- nothing is read
pub reads_nothing : (left : Option (List ℕ)) → ReadsSome left left 0
reads_nothing None = refl
reads_nothing (Some left) = (0, omega arith, refl)

-- the status of a verdict is no refusal, and no fault
verdict-no_refusal : (v : Verdict) (clause : ℕ) (why : ConfigCause) → Refused clause why ≡ status_of_verdict v → ⊥
verdict-no_refusal Yes clause why is = absurd (cc)
verdict-no_refusal (NoText line) clause why is = absurd (cc)
verdict-no_refusal (NoEntry centre number) clause why is = absurd (cc)
verdict-no_refusal (NoAgent agent number) clause why is = absurd (cc)
verdict-no_refusal NoEnd clause why is = absurd (cc)

verdict-no_fault : (v : Verdict) → IsFault (status_of_verdict v) → ⊥
verdict-no_fault Yes is = is
verdict-no_fault (NoText line) is = is
verdict-no_fault (NoEntry centre number) is = is
verdict-no_fault (NoAgent agent number) is = is
verdict-no_fault NoEnd is = is

pub judged_sure : (judged : List ℕ) (c : Configuration) (status : Status) (text : List ℕ) → IsOutcomeOfVerdict judged c status text → IsFault status → ⊥
judged_sure judged c status text is fault = verdict-no_fault is.verdict (subst IsFault is.status_is fault)

-- a refused configuration has no outcome
no_refusal : (command : Command) (door after : DoorState) (rest : List ℕ) (c : Configuration) (clause : ℕ) (why : ConfigCause) (text : List ℕ)
    → IsOutcome command door after rest c (Refused clause why) text → ⊥
no_refusal (Run workers) door after rest c clause why text is = is
no_refusal (Load agents start) door after rest c clause why text is = is
no_refusal (Serve port) door after rest c clause why text is = is
no_refusal Verify door after rest c clause why text is = verdict-no_refusal is.verdict clause why is.status_is

-- the outcome of a configuration is due for what spells it, and what stands behind it
outcome_due : (command : Command) (door after : DoorState) (spelt rest : List ℕ) (c : Configuration) → Spells spelt c
    → (status : Status) (text : List ℕ) → IsOutcome command door after rest c status text → IsDueForText command door after spelt rest status text
outcome_due command door after spelt rest c spells (Refused clause why) text is = absurd (no_refusal command door after rest c clause why text is)
outcome_due command door after spelt rest c spells Ended text is = record { config = c; spells = spells; outcome = is }
outcome_due command door after spelt rest c spells Blocked text is = record { config = c; spells = spells; outcome = is }
outcome_due command door after spelt rest c spells No text is = record { config = c; spells = spells; outcome = is }
outcome_due command door after spelt rest c spells WriteFault text is = record { config = c; spells = spells; outcome = is }
outcome_due command door after spelt rest c spells ReadFault text is = record { config = c; spells = spells; outcome = is }
outcome_due command door after spelt rest c spells NoMemory text is = record { config = c; spells = spells; outcome = is }
outcome_due command door after spelt rest c spells Usage text is = record { config = c; spells = spells; outcome = is }
outcome_due command door after spelt rest c spells NetFault text is = record { config = c; spells = spells; outcome = is }

never_long : (command : Command) (spelt rest : List ℕ) → IsTakenAs command TooLong spelt rest → ⊥
never_long (Run workers) spelt rest as_is = as_is
never_long (Load agents start) spelt rest as_is = as_is
never_long (Serve port) spelt rest as_is = as_is
never_long Verify spelt rest as_is = as_is

text_due : (command : Command) (door after : DoorState) (input : Input) (spelt rest : List ℕ) → IsTakenAs command input spelt rest
    → (status : Status) (text : List ℕ) → IsDueForText command door after spelt rest status text → IsDue (Some command) door after input status text
text_due command door after Unread spelt rest taken status text due = (spelt, rest, taken, due)
text_due command door after (Whole input) spelt rest taken status text due = (spelt, rest, taken, due)
text_due command door after TooLong spelt rest taken status text due = absurd (never_long command spelt rest taken)

module _ (command : Command) (door : DoorState) (IsNone : Refusing) where
  -- this refusal is due where the whole input is refused for that
  abbrev IsDueRefusal : List ℕ → ℕ → ConfigCause → Type 0
  IsDueRefusal input clause why = IsDue (Some command) door door (Whole input) (Refused clause why) (refused_text clause why)

  -- a refusal is due for the input that is refused
  refusal_due : (input : Input) (clause : ℕ) (why : ConfigCause) → ReadsInput command
      → ((text : List ℕ) → IsNone text clause why → IsDueRefusal text clause why)
      → IsRefusedInput IsNone input clause why → IsDue (Some command) door door input (Refused clause why) (refused_text clause why)
  refusal_due Unread clause why reads whole refused = absurd refused
  refusal_due (Whole input) clause why reads whole refused = whole input refused
  refusal_due TooLong clause cause.Length reads whole refused = (reads, refused.0, ap (λ n. refused_text n cause.Length) refused.0, refl)
  refusal_due TooLong clause cause.Syntax reads whole refused = absurd (cc)
  refusal_due TooLong clause cause.Size reads whole refused = absurd (cc)
  refusal_due TooLong clause cause.Shape reads whole refused = absurd (cc)
  refusal_due TooLong clause cause.Reaction reads whole refused = absurd (cc)
  refusal_due TooLong clause cause.UnknownCentre reads whole refused = absurd (cc)
  refusal_due TooLong clause cause.UnknownRole reads whole refused = absurd (cc)
  refusal_due TooLong clause cause.UnknownAgent reads whole refused = absurd (cc)
  refusal_due TooLong clause cause.Twice reads whole refused = absurd (cc)
  refusal_due TooLong clause cause.NotGround reads whole refused = absurd (cc)
  refusal_due TooLong clause cause.Count reads whole refused = absurd (cc)

-- the command reads a configuration, and nothing else
pub record ReadsConfig (command : Command) : Type 0 where
  pub reads : ReadsInput command
  pub most : most_read command ≡ MOST_BYTES
  pub whole : (input : List ℕ) → IsTakenAs command (Whole input) input []

pub run_reads : (workers : ℕ) → ReadsConfig (Run workers)
run_reads workers = record { reads = tt; most = refl; whole = λ input. (refl, refl) }

pub serve_reads : (port : ℕ) → ReadsConfig (Serve port)
serve_reads port = record { reads = tt; most = refl; whole = λ input. (refl, refl) }

-- why a command has no configuration
abbrev pub StopsCommand : Command → SourceState → SourceState → Stop → Type 0
StopsCommand command source after (stop.Refused clause why) =
    (input : Input) × IsInput (most_read command) source.left after.left input
    × ((door : DoorState) → IsDue (Some command) door door input (Refused clause why) (refused_text clause why))
StopsCommand command source after stop.ReadFault =
    ReadsInput command × (source.sure ≡ false) × CountRises source.read_faults after.read_faults
StopsCommand command source after stop.NoMemory = Unit {0}

module _ (command : Command) (source source_after : SourceState) (sink sink_after : SinkState) (door door_after : DoorState) where
  abbrev call : Call
  call = called (Some command) source source_after sink sink_after door door_after

  returning : (status : Status) → Ends call status → ReadsSome source.left source_after.left (most_taken (Some command)) → Counts (status ≡ ReadFault) source.read_faults source_after.read_faults
      → Counts (status ≡ WriteFault) sink.write_faults sink_after.write_faults → LeavesDoor (Some command) door door_after
      → Nets door door_after status → Returns call status
  returning status ends rest reads writes left nets = record {
    ends = ends;
    due = ends_as_due call status ends;
    rest = rest;
    reads = reads;
    writes = writes;
    door = left;
    nets = nets;
  }

  -- the command's configuration was found, and what is due for it and for what stands behind it was written
  pub returns-told : (input : Input) (spelt rest : List ℕ) (c : Configuration) (status : Status)
      → IsInput (most_read command) source.left source_after.left input → IsTakenAs command input spelt rest → Spells spelt c
      → WritesDue (IsOutcome command door door_after rest c) sink sink_after status → Leaves call status
      → ReadsSome source.left source_after.left (most_taken (Some command)) → (status ≡ ReadFault → ⊥) → source_after.read_faults ≡ source.read_faults
      → Counts (status ≡ WriteFault) sink.write_faults sink_after.write_faults → LeavesDoor (Some command) door door_after
      → Nets door door_after status → Returns call status
  returns-told input spelt rest c status read taken spells told leaving some sure same writes left nets =
      returning status
      (Ends-told call (IsOutcome command door door_after rest c) status input read
      (λ s text is. text_due command door door_after input spelt rest taken s text (outcome_due command door door_after spelt rest c spells s text is)) told leaving)
      some (record { failed = λ is. absurd (sure is); unfailed = λ other. same }) writes left nets

module _ (command : Command) (source source_after : SourceState) (sink sink_after : SinkState) (door : DoorState) where
  abbrev untouched : Call
  untouched = called (Some command) source source_after sink sink_after door door

  stopped_ends : (why : Stop) (status : Status) → StopsCommand command source source_after why → TellsStop why sink sink_after status
      → Ends untouched status
  stopped_ends (stop.Refused clause why) status stops tells =
      Ends-written untouched (Refused clause why) status stops.0 (refused_text clause why) stops.1 (stops.2 door) tells
  stopped_ends stop.ReadFault status stops tells =
      subst (Ends untouched) (sym tells.0)
      (record { rises = stops.2; unsure = stops.1; command = command; asks = refl; reads = stops.0; nothing = tells.1; unused = refl })
  stopped_ends stop.NoMemory status stops tells = subst (Ends untouched) (sym tells.0) (inl (record { nothing = tells.1; door = inl refl }))

  read_fault : (why : Stop) (status : Status) → why ≡ stop.ReadFault → TellsStop why sink sink_after status → status ≡ ReadFault
  read_fault (stop.Refused clause why) status is tells = absurd (cc)
  read_fault stop.ReadFault status is tells = tells.0
  read_fault stop.NoMemory status is tells = absurd (cc)

  -- the command has no configuration, and what stopped it was told
  pub returns-stopped : (why : Stop) (status : Status) → StopsCommand command source source_after why
      → ReadsSome source.left source_after.left (most_taken (Some command)) → Counts (why ≡ stop.ReadFault) source.read_faults source_after.read_faults → TellsStop why sink sink_after status
      → (status ≡ ReadFault → why ≡ stop.ReadFault) → Counts (status ≡ WriteFault) sink.write_faults sink_after.write_faults
      → Returns untouched status
  returns-stopped why status stops some counts tells reads writes =
      returning command source source_after sink sink_after door door status (stopped_ends why status stops tells)
      some (record {
        failed = λ is. counts.failed (reads is);
        unfailed = λ other. counts.unfailed (λ is. other (read_fault why status is tells));
      }) writes (leaves (Some command) door) (λ other. inr refl)

-- a command that reads a configuration was stopped at that
pub reading_stops : (command : Command) (source source_after : SourceState) (why : Stop) → ReadsConfig command
    → StopsReading MOST_BYTES IsRefused source source_after why → Counts (why ≡ stop.ReadFault) source.read_faults source_after.read_faults
    → StopsCommand command source source_after why
reading_stops command source source_after (stop.Refused clause why) config stops counts = (
  stops.0,
  subst (λ (most : ℕ). IsInput most source.left source_after.left stops.0) (sym config.most) stops.1,
  λ door.
      refusal_due command door IsRefused stops.0 clause why config.reads
      (λ text refused. (text, [], config.whole text, record { refused = refused; is = refl; unused = refl })) stops.2,
)
reading_stops command source source_after stop.ReadFault config stops counts = (config.reads, stops, counts.failed refl)
reading_stops command source source_after stop.NoMemory config stops counts = tt

-- `verify` was stopped before it could judge
pub judging_stops : (source source_after : SourceState) (why : Stop) → StopsReading MOST_INPUT IsRefusedWith source source_after why
    → Counts (why ≡ stop.ReadFault) source.read_faults source_after.read_faults → StopsCommand Verify source source_after why
judging_stops source source_after (stop.Refused clause why) stops counts = (
  stops.0,
  stops.1,
  λ door.
      refusal_due Verify door IsRefusedWith stops.0 clause why tt
      (λ text refused. (refused.first, refused.second, refused.parts, record { refused = refused.refused; is = refl; unused = refl })) stops.2,
)
judging_stops source source_after stop.ReadFault stops counts = (tt, stops, counts.failed refl)
judging_stops source source_after stop.NoMemory stops counts = tt

-- a workload was stopped
pub loading_stops : (agents start : ℕ) (source : SourceState) (why : Stop) → IsStopFor IsRefused (load_text agents start) why
    → StopsCommand (Load agents start) source source why
loading_stops agents start source (stop.Refused clause why) stops =
    (Unread, refl, λ door. (load_text agents start, [], (refl, refl), record { refused = stops; is = refl; unused = refl }))
loading_stops agents start source stop.ReadFault stops = absurd stops
loading_stops agents start source stop.NoMemory stops = tt

-- a workload reads nothing
pub loading_counts : (text : List ℕ) (source : SourceState) (why : Stop) → IsStopFor IsRefused text why
    → Counts (why ≡ stop.ReadFault) source.read_faults source.read_faults
loading_counts text source (stop.Refused clause why) stops = record { failed = λ is. absurd (cc); unfailed = λ other. refl }
loading_counts text source stop.ReadFault stops = absurd stops
loading_counts text source stop.NoMemory stops = record { failed = λ is. absurd (cc); unfailed = λ other. refl }

-- a call without a command
pub returns-usage : (source : SourceState) (sink sink_after : SinkState) (door : DoorState) (text : List ℕ) (status : Status)
    → IsDue None door door Unread Usage text → Writes Usage text sink sink_after status → (status ≡ ReadFault → ⊥)
    → Counts (status ≡ WriteFault) sink.write_faults sink_after.write_faults → Returns (called None source source sink sink_after door door) status
returns-usage source sink sink_after door text status due wrote sure writes =
    let call = called None source source sink sink_after door door in
    let ends : Ends call status = Ends-written call Usage status Unread text refl due wrote in
    record {
      ends = ends;
      due = ends_as_due call status ends;
      rest = reads_nothing source.left;
      reads = record { failed = λ is. absurd (sure is); unfailed = λ other. refl };
      writes = writes;
      door = refl;
      nets = λ other. inr refl;
    }
