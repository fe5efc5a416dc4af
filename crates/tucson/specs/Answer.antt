-- What a call reads, with which status it is to end, and what it is to write.
use Rattle.std.specs.Prelude.{◌≡◌, ℕ, ◌⊎◌, Bool, true, false}
use Rattle.std.specs.Prelude.{Option, Some, None, List, [], All}
use Rattle.tc_io.specs.Faults.{CountRises}
use Rattle.tc_io.specs.Sources.{ReadsAll, ReadsPast}
use Rattle.tc_model.specs.Choices.{TheFirst}
use Rattle.tc_model.specs.Typed.{IsTyped}
use Rattle.tc_model.specs.declared.entries.Entry.{Entry}
use Rattle.tc_desk.specs.Logs.{is_blocked}
use Rattle.tc_desk.specs.Typed.{IsTypedRow}
use Rattle.tc_desk.specs.declared.rows.LogRow.{LogRow}
use Rattle.tc_config.specs.Configurations.{Configuration}
use Rattle.tc_config.specs.Good.{IsGood}
use Rattle.tc_config.specs.Refusals.{refused_text}
use Rattle.tc_config.specs.Texts.{IsRefused, Spells}
use Rattle.tc_config.specs.declared.faults.ConfigCause.{ConfigCause}
use Rattle.tc_config.specs.declared.faults.ConfigCause.TheVariants as cause
use Rattle.tc_config.specs.declared.limits.TheConstants.{MOST_BYTES}
use Rattle.tc_load.specs.Workload.{load_text}
use Rattle.tc_verify.specs.Inputs.{IsParted}
use Rattle.tc_verify.specs.Texts.{verdict_text}
use Rattle.tc_verify.specs.Verdicts.{IsVerdict}
use Rattle.tc_verify.specs.declared.verdicts.Verdict.{Verdict}
use Rattle.tc_visits.specs.Service.{DoorState, IsServiceBy}
use Rattle.tucson.specs.declared.command.Command.{Command}
use Rattle.tucson.specs.declared.command.Command.TheVariants.{Run, Load, Serve, Verify}
use Rattle.tucson.specs.declared.status.Status.{Status}
use Rattle.tucson.specs.declared.status.Status.TheVariants.{Ended, Refused, Blocked, NoMemory}
use Rattle.tucson.specs.declared.status.Status.TheVariants.{Usage, NetFault}
use Rattle.tucson.specs.declared.limits.TheConstants.{MOST_INPUT}
use Rattle.tucson.specs.Status.{status_of_verdict}
use Rattle.tucson.specs.Texts.{load_summary, usage_text, whole_text}

-- the text is one of such histories and logs, at whose end some agent waits, or none does; each
-- part of the histories and of the logs is what the program's types promise
pub record IsTextOf (Are : List (List Entry) → List (List LogRow) → Type 0)
    (text_of : List (List Entry) → List (List LogRow) → List ℕ) (waits : Bool)
    (text : List ℕ) : Type 0 where
  pub histories : List (List Entry)
  pub logs : List (List LogRow)
  pub are : Are histories logs
  pub typed : All (All IsTyped) histories
  pub typed_logs : All (All IsTypedRow) logs
  pub end : is_blocked logs ≡ waits
  pub is : text ≡ text_of histories logs

-- the status of a run with such histories and logs, and a text of them
abbrev pub IsOutcomeOf : (List (List Entry) → List (List LogRow) → Type 0)
    → (List (List Entry) → List (List LogRow) → List ℕ) → Status → List ℕ → Type 0
IsOutcomeOf Are text_of Ended text = IsTextOf Are text_of false text
IsOutcomeOf Are text_of Blocked text = IsTextOf Are text_of true text
IsOutcomeOf Are text_of status text = ⊥

-- the door has failed before a connection was opened, and nothing is written
pub record FailsToListen (door after : DoorState) (text : List ℕ) : Type 0 where
  pub rises : CountRises door.faults after.faults
  pub same : after.opened ≡ door.opened
  pub nothing : text ≡ []

-- the status and the text of a service of the configuration's agents: it has ended, with nobody
-- waiting or somebody; the door has failed, at listening or before each agent had its connection;
-- or some session has found no memory
abbrev pub IsOutcomeOfService : DoorState → DoorState → Configuration → Status → List ℕ
    → Type 0
IsOutcomeOfService door after c Ended text =
    IsTextOf (IsServiceBy door after true true c) (whole_text c) false text
IsOutcomeOfService door after c Blocked text =
    IsTextOf (IsServiceBy door after true true c) (whole_text c) true text
IsOutcomeOfService door after c NetFault text =
    FailsToListen door after text
    ⊎ ((waits : Bool)
    × IsTextOf (IsServiceBy door after false true c) (whole_text c) waits text)
IsOutcomeOfService door after c NoMemory text =
    (all : Bool) × (waits : Bool)
    × IsTextOf (IsServiceBy door after all false c) (whole_text c) waits text
IsOutcomeOfService door after c status text = ⊥

-- the verdict on a text, told by its status and its line
pub record IsOutcomeOfVerdict (judged : List ℕ) (c : Configuration) (status : Status)
    (text : List ℕ) : Type 0 where
  pub verdict : Verdict
  pub is : IsVerdict c judged verdict
  pub status_is : status ≡ status_of_verdict verdict
  pub line : text ≡ verdict_text c verdict

-- the status and the text that are due for a configuration and what stands behind it, by the
-- command
abbrev pub IsOutcome : Command → DoorState → DoorState → List ℕ → Configuration → Status → List ℕ
    → Type 0
IsOutcome (Run workers) door after rest c = IsOutcomeOf (IsGood TheFirst c) (whole_text c)
IsOutcome (Load agents start) door after rest c =
    IsOutcomeOf (IsGood TheFirst c) (load_summary agents start c)
IsOutcome (Serve port) door after rest c = IsOutcomeOfService door after c
IsOutcome Verify door after rest c = IsOutcomeOfVerdict rest c

-- the status and the text are due for the configuration that is spelt so, and what stands behind it
pub record IsOutcomeFor (command : Command) (door after : DoorState) (spelt rest : List ℕ)
    (status : Status) (text : List ℕ) : Type 0 where
  pub config : Configuration
  pub spells : Spells spelt config
  pub outcome : IsOutcome command door after rest config status text

-- the configuration is refused that is spelt so: this is written, and the door is as it was
pub record IsRefusal (door after : DoorState) (spelt : List ℕ) (clause : ℕ) (why : ConfigCause)
    (text : List ℕ) : Type 0 where
  pub refused : IsRefused spelt clause why
  pub is : text ≡ refused_text clause why
  pub unused : after ≡ door

-- the status and the text that are due to a command whose configuration is spelt so, with that
-- behind it
abbrev pub IsDueForText : Command → DoorState → DoorState → List ℕ → List ℕ → Status → List ℕ
    → Type 0
IsDueForText command door after spelt rest (Refused clause why) text =
    IsRefusal door after spelt clause why text
IsDueForText command door after spelt rest status text =
    IsOutcomeFor command door after spelt rest status text

-- what a call reads
pub data Input : Type 0 where
  Unread : Input
  Whole : List ℕ → Input
  TooLong : Input

-- nothing was read, or all that was left, or more than so many bytes
abbrev pub IsInput : ℕ → Option (List ℕ) → Option (List ℕ) → Input → Type 0
IsInput most left rest Unread = rest ≡ left
IsInput most left rest (Whole input) = ReadsAll left rest most input
IsInput most left rest TooLong = ReadsPast left rest most

-- the configuration is spelt by all that was left
pub record FindsConfig (left rest : Option (List ℕ)) (c : Configuration) : Type 0 where
  pub spelt : List ℕ
  pub read : ReadsAll left rest MOST_BYTES spelt
  pub spells : Spells spelt c

-- the most bytes that a command's input may have: a configuration, or one with a text behind it
abbrev pub most_read : Command → ℕ
most_read Verify = MOST_INPUT
most_read command = MOST_BYTES

-- the command reads its input
abbrev pub ReadsInput : Command → Type 0
ReadsInput (Run workers) = Unit {0}
ReadsInput (Load agents start) = ⊥
ReadsInput (Serve port) = Unit {0}
ReadsInput Verify = Unit {0}

-- the text of a command's configuration, and what stands behind it, by what was read: that of a
-- workload is its own text, for which nothing is read; `verify` parts its input, and to every other
-- command it is the whole input
abbrev pub IsTakenAs : Command → Input → List ℕ → List ℕ → Type 0
IsTakenAs (Run workers) (Whole input) spelt rest = (spelt ≡ input) × (rest ≡ [])
IsTakenAs (Load agents start) Unread spelt rest = (spelt ≡ load_text agents start) × (rest ≡ [])
IsTakenAs (Serve port) (Whole input) spelt rest = (spelt ≡ input) × (rest ≡ [])
IsTakenAs Verify (Whole input) spelt rest = IsParted input spelt rest
IsTakenAs command input spelt rest = ⊥

-- a call for this command, or for none, and with this input is to end with this status, and to
-- write this text
abbrev pub IsDue : Option Command → DoorState → DoorState → Input → Status → List ℕ
    → Type 0
IsDue None door after Unread Usage text = text ≡ usage_text
IsDue (Some command) door after Unread status text =
    (spelt : List ℕ) × (rest : List ℕ) × IsTakenAs command Unread spelt rest
    × IsDueForText command door after spelt rest status text
IsDue (Some command) door after (Whole input) status text =
    (spelt : List ℕ) × (rest : List ℕ) × IsTakenAs command (Whole input) spelt rest
    × IsDueForText command door after spelt rest status text
IsDue (Some command) door after TooLong (Refused clause cause.Length) text =
    ReadsInput command × (clause ≡ 0) × (text ≡ refused_text 0 cause.Length) × (after ≡ door)
IsDue command door after input status text = ⊥
