-- How a call ends, by its status.
use Rattle.std.specs.Prelude.{◌≡◌, ◌<◌, ◌≤◌, ◌+◌, ℕ, ◌⊎◌, false, Option, Some, None, List, length}
use Rattle.tc_io.specs.Faults.{CountRises, Counts}
use Rattle.tc_io.specs.Sources.{ReadsSome, SourceState}
use Rattle.tc_io.specs.Sinks.{SinkState, AppendsFront, appended}
use Rattle.tc_config.specs.Configurations.{Configuration}
use Rattle.tc_config.specs.Texts.{IsRefused, Spells}
use Rattle.tc_config.specs.declared.faults.ConfigCause.{ConfigCause}
use Rattle.tc_config.specs.declared.faults.ConfigCause.TheVariants as cause
use Rattle.tc_config.specs.declared.limits.TheConstants.{MOST_BYTES}
use Rattle.tc_load.specs.Workload.{load_text}
use Rattle.tc_verify.specs.Inputs.{IsParted}
use Rattle.tc_verify.specs.Judgements.{IsRefusedWith}
use Rattle.tc_verify.specs.Verdicts.{IsVerdict}
use Rattle.tc_verify.specs.declared.verdicts.Verdict.{Verdict}
use Rattle.tc_visits.specs.Service.{DoorState, UsesDoor}
use Rattle.tucson.specs.declared.command.Command.{Command}
use Rattle.tucson.specs.declared.command.Command.TheVariants.{Run, Load, Serve, Verify}
use Rattle.tucson.specs.declared.status.Status.{Status}
use Rattle.tucson.specs.declared.status.Status.TheVariants.{Ended, WriteFault, Refused, Blocked}
use Rattle.tucson.specs.declared.status.Status.TheVariants.{ReadFault, NoMemory, Usage, NetFault}
use Rattle.tucson.specs.declared.limits.TheConstants.{MOST_INPUT}
use Rattle.tucson.specs.Answer.{FindsConfig, Input, IsInput, IsDue, ReadsInput, most_read}
use Rattle.tucson.specs.Status.{status_of_verdict}

-- a call: the command that it asks for, if it asks for one, and the source, the sink and the door
-- as it begins and as it ends
pub record Call : Type 0 where
  pub command : Option Command
  pub source : SourceState
  pub source_after : SourceState
  pub sink : SinkState
  pub sink_after : SinkState
  pub door : DoorState
  pub door_after : DoorState

-- the most bytes that the input of this command's call may have, or of a call for none
abbrev pub most_read_by : Option Command → ℕ
most_read_by (Some command) = most_read command
most_read_by None = MOST_BYTES

-- the call reads this input
abbrev pub IsInputOf : Call → Input → Type 0
IsInputOf call input =
    IsInput (most_read_by call.command) call.source.left call.source_after.left input

-- with this input, this status and this text are due to the call
abbrev pub IsDueTo : Call → Input → Status → List ℕ → Type 0
IsDueTo call input status text = IsDue call.command call.door call.door_after input status text

-- the input was read, this status is due, and the whole of its text was taken
pub record EndsAsDue (call : Call) (status : Status) : Type 0 where
  pub input : Input
  pub text : List ℕ
  pub read : IsInputOf call input
  pub due : IsDueTo call input status text
  pub taken : call.sink_after.taken ≡ appended call.sink.taken text

-- the input was read, some status is due, and a beginning of its text was taken
pub record BreaksOff (call : Call) : Type 0 where
  pub input : Input
  pub status : Status
  pub text : List ℕ
  pub read : IsInputOf call input
  pub due : IsDueTo call input status text
  pub taken : AppendsFront call.sink.taken call.sink_after.taken text

-- nothing was taken
abbrev pub TakesNothing : Call → Type 0
TakesNothing call = call.sink_after.taken ≡ call.sink.taken

-- a write has failed, and a beginning of what is due was taken
pub record FailsToWrite (call : Call) : Type 0 where
  pub rises : CountRises call.sink.write_faults call.sink_after.write_faults
  pub unsure : call.sink.sure ≡ false
  pub begins : BreaksOff call

-- a read has failed, nothing was taken, and the door is as it was
pub record FailsToRead (call : Call) : Type 0 where
  pub rises : CountRises call.source.read_faults call.source_after.read_faults
  pub unsure : call.source.sure ≡ false
  pub command : Command
  pub asks : call.command ≡ Some command
  pub reads : ReadsInput command
  pub nothing : TakesNothing call
  pub unused : call.door_after ≡ call.door

-- a configuration was read, and the door was used for its agents
pub record Serves (call : Call) : Type 0 where
  pub config : Configuration
  pub finds : FindsConfig call.source.left call.source_after.left config
  pub used : UsesDoor (length config.agents) call.door call.door_after

-- memory ran out before anything was taken: the door is as it was, or it was used for the agents of
-- the configuration
pub record RunsOut (call : Call) : Type 0 where
  pub nothing : TakesNothing call
  pub door : (call.door_after ≡ call.door) ⊎ Serves call

-- the status that is due with its whole text, or what stopped the call
abbrev pub Ends : Call → Status → Type 0
Ends call WriteFault = FailsToWrite call
Ends call ReadFault = FailsToRead call
Ends call NoMemory = RunsOut call ⊎ BreaksOff call
Ends call status = EndsAsDue call status

-- the call was stopped: by a fault of writing or of reading, or by want of memory
abbrev pub IsStopped : Status → Type 0
IsStopped WriteFault = Unit {0}
IsStopped ReadFault = Unit {0}
IsStopped NoMemory = Unit {0}
IsStopped status = ⊥

-- how a call is to end: with this status, as a run does, whose agents have ended or wait, or as a
-- service does, whose door may fail too
pub data End : Type 0 where
  With : Status → End
  OfRun : End
  OfService : End

-- the status is of this end
abbrev pub IsOfEnd : End → Status → Type 0
IsOfEnd (With due) status = status ≡ due
IsOfEnd OfRun status = (status ≡ Ended) ⊎ (status ≡ Blocked)
IsOfEnd OfService status = (status ≡ Ended) ⊎ (status ≡ Blocked) ⊎ (status ≡ NetFault)

-- the status is of this end, unless the call was stopped
abbrev pub IsUnlessStopped : End → Status → Type 0
IsUnlessStopped end status = IsOfEnd end status ⊎ IsStopped status

-- how a command ends that runs or serves the agents of a configuration
abbrev pub IsEndOf : Command → End → Type 0
IsEndOf (Run workers) OfRun = Unit {0}
IsEndOf (Load agents start) OfRun = Unit {0}
IsEndOf (Serve port) OfService = Unit {0}
IsEndOf command end = ⊥

-- how such a command is to end whose configuration is spelt so
abbrev pub IsEndFor : Command → List ℕ → End → Type 0
IsEndFor command spelt (With (Refused clause why)) = IsRefused spelt clause why
IsEndFor command spelt (With status) = ⊥
IsEndFor command spelt end = IsEndOf command end × ((c : Configuration) × Spells spelt c)

-- the input is too long to be judged, which is told as a refusal of the whole
pub record IsPastMost (input : List ℕ) (clause : ℕ) (why : ConfigCause) : Type 0 where
  pub long : MOST_INPUT < length input
  pub clause_is : clause ≡ 0
  pub why_is : why ≡ cause.Length

-- the input isn't too long, and its configuration is refused
pub record HasRefusal (input : List ℕ) (clause : ℕ) (why : ConfigCause) : Type 0 where
  pub short : length input ≤ MOST_INPUT
  pub refused : IsRefusedWith input clause why

-- the input isn't too long, and the verdict on the text in it has this status
pub record HasStatus (input : List ℕ) (status : Status) : Type 0 where
  pub short : length input ≤ MOST_INPUT
  pub first : List ℕ
  pub second : List ℕ
  pub parts : IsParted input first second
  pub config : Configuration
  pub spells : Spells first config
  pub verdict : Verdict
  pub is : IsVerdict config second verdict
  pub status_is : status ≡ status_of_verdict verdict

-- how a call of `verify` is to end that has this input left: as too long an input, as a refused
-- configuration, or by the verdict
abbrev pub IsEndOfVerdict : List ℕ → End → Type 0
IsEndOfVerdict input (With (Refused clause why)) =
    IsPastMost input clause why ⊎ HasRefusal input clause why
IsEndOfVerdict input (With status) = HasStatus input status
IsEndOfVerdict input end = ⊥

-- how a call is to end that asks for this command, or for none, and has this input left
abbrev pub MustEnd : Option Command → Option (List ℕ) → End → Type 0
MustEnd None left (With Usage) = Unit {0}
MustEnd (Some (Run workers)) (Some input) end = IsEndFor (Run workers) input end
MustEnd (Some (Load agents start)) left end =
    IsEndFor (Load agents start) (load_text agents start) end
MustEnd (Some (Serve port)) (Some input) end = IsEndFor (Serve port) input end
MustEnd (Some Verify) (Some input) end = IsEndOfVerdict input end
MustEnd command left end = ⊥

-- the most bytes that a call takes from its source: one more than its input may have, and none
-- where it reads none
abbrev pub most_taken : Option Command → ℕ
most_taken (Some (Load agents start)) = 0
most_taken (Some command) = most_read command + 1
most_taken None = 0

-- the door is as it was; only `serve` uses it
abbrev pub LeavesDoor : Option Command → DoorState → DoorState → Type 0
LeavesDoor (Some (Serve port)) door after = Unit {0}
LeavesDoor command door after = after ≡ door

-- what holds of a call that returns this status: it ends as the status says, as command and input
-- decide unless it was stopped; no more is read than it needs, and each fault of reading, of
-- writing and of the door is told
pub record Returns (call : Call) (status : Status) : Type 0 where
  pub ends : Ends call status
  pub due : (end : End) → MustEnd call.command call.source.left end → IsUnlessStopped end status
  pub rest : ReadsSome call.source.left call.source_after.left (most_taken call.command)
  pub reads : Counts (status ≡ ReadFault) call.source.read_faults call.source_after.read_faults
  pub writes : Counts (status ≡ WriteFault) call.sink.write_faults call.sink_after.write_faults
  pub door : LeavesDoor call.command call.door call.door_after
  pub nets : (status ≡ NetFault → ⊥)
      → IsStopped status ⊎ (call.door_after.faults ≡ call.door.faults)

-- a fault of writing or of reading
abbrev pub IsFault : Status → Type 0
IsFault WriteFault = Unit {0}
IsFault ReadFault = Unit {0}
IsFault status = ⊥

-- a write has failed, and a beginning of the text was taken
pub record FailsAmid (text : List ℕ) (sink sink_after : SinkState) : Type 0 where
  pub rises : CountRises sink.write_faults sink_after.write_faults
  pub unsure : sink.sure ≡ false
  pub taken : AppendsFront sink.taken sink_after.taken text

-- a text was written whole and the status stays, or what stopped the writing came in its place
abbrev pub Writes : Status → List ℕ → SinkState → SinkState → Status → Type 0
Writes status text sink sink_after WriteFault = FailsAmid text sink sink_after
Writes status text sink sink_after ReadFault = ⊥
Writes status text sink sink_after NoMemory = AppendsFront sink.taken sink_after.taken text
Writes status text sink sink_after same =
    (same ≡ status) × (sink_after.taken ≡ appended sink.taken text)

-- a status and a text that are due, and the writing of that text
pub record IsDueWritten (due : Status → List ℕ → Type 0) (sink sink_after : SinkState)
    (result : Status) : Type 0 where
  pub status : Status
  pub text : List ℕ
  pub is : due status text
  pub writes : Writes status text sink sink_after result

-- what is due was written, or the writing was stopped; or memory ran out before
abbrev pub WritesDue : (Status → List ℕ → Type 0) → SinkState → SinkState → Status
    → Type 0
WritesDue due sink sink_after result =
    IsDueWritten due sink sink_after result
    ⊎ ((result ≡ NoMemory) × (sink_after.taken ≡ sink.taken))
