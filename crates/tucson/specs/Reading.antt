-- What a call finds of its configuration.
use Rattle.std.specs.Prelude.{◌≡◌, ℕ, false, Option, List}
use Rattle.tc_io.specs.Sinks.{SinkState}
use Rattle.tc_io.specs.Sources.{ReadsAll, SourceState}
use Rattle.tc_io.specs.declared.whole.InputFault.{InputFault}
use Rattle.tc_io.specs.declared.whole.InputFault.TheVariants as input
use Rattle.tc_config.specs.Configurations.{Configuration}
use Rattle.tc_config.specs.Texts.{Spells}
use Rattle.tc_config.specs.declared.faults.ConfigCause.{ConfigCause}
use Rattle.tc_config.specs.declared.faults.ConfigCause.TheVariants as cause
use Rattle.tc_config.specs.declared.faults.ConfigFault.{ConfigFault}
use Rattle.tc_config.specs.declared.faults.ConfigFault.TheVariants as config
use Rattle.tc_verify.specs.Inputs.{IsParted}
use Rattle.tucson.specs.declared.limits.TheConstants.{MOST_INPUT}
use Rattle.tucson.specs.declared.reading.Stop.{Stop}
use Rattle.tucson.specs.declared.reading.Stop.TheVariants.{Refused, ReadFault, NoMemory}
use Rattle.tucson.specs.declared.status.Status.{Status}
use Rattle.tucson.specs.declared.status.Status.TheVariants as status
use Rattle.tc_config.specs.Refusals.{refused_text}
use Rattle.tucson.specs.Answer.{Input, Unread, Whole, TooLong, IsInput, IsOutcomeOfVerdict}
use Rattle.tucson.specs.Ending.{Writes}

-- the stop for what was wrong with the input
abbrev pub stop_of_input : InputFault → Stop
stop_of_input input.Failed = ReadFault
stop_of_input input.TooLong = Refused 0 cause.Length
stop_of_input input.NoMemory = NoMemory

-- the stop for what was wrong with a text
abbrev pub stop_of_config : ConfigFault → Stop
stop_of_config (config.Bad clause why) = Refused clause why
stop_of_config config.NoMemory = NoMemory

-- the input is parted at a line `%%`, and this is told of the verdict on what stands behind it
pub record IsToldOf (input : List ℕ) (status : Status) (line : List ℕ) : Type 0 where
  pub spelt : List ℕ
  pub text : List ℕ
  pub parts : IsParted input spelt text
  pub config : Configuration
  pub spells : Spells spelt config
  pub outcome : IsOutcomeOfVerdict text config status line

-- this is told of all that was left
pub record FindsVerdict (left rest : Option (List ℕ)) (told : Status × List ℕ) : Type 0 where
  pub input : List ℕ
  pub read : ReadsAll left rest MOST_INPUT input
  pub is : IsToldOf input told.0 told.1

-- for which clause and which cause a text is refused
abbrev pub Refusing : Type 1
Refusing = List ℕ → ℕ → ConfigCause → Type 0

-- the text is refused for this clause and this cause, or memory has run out
abbrev pub IsStopFor : Refusing → List ℕ → Stop → Type 0
IsStopFor IsRefused text (Refused clause why) = IsRefused text clause why
IsStopFor IsRefused text ReadFault = ⊥
IsStopFor IsRefused text NoMemory = Unit {0}

-- the input is refused for this clause and this cause
abbrev pub IsRefusedInput : Refusing → Input → ℕ → ConfigCause → Type 0
IsRefusedInput IsRefused Unread clause why = ⊥
IsRefusedInput IsRefused (Whole text) clause why = IsRefused text clause why
IsRefusedInput IsRefused TooLong clause why = (clause ≡ 0) × (why ≡ cause.Length)

-- the input, of so many bytes at most, was read and is refused so, a read has failed, or memory has
-- run out
abbrev pub StopsReading : ℕ → Refusing → SourceState → SourceState → Stop → Type 0
StopsReading most IsRefused source after (Refused clause why) =
    (read : Input) × IsInput most source.left after.left read
    × IsRefusedInput IsRefused read clause why
StopsReading most IsRefused source after ReadFault = source.sure ≡ false
StopsReading most IsRefused source after NoMemory = Unit {0}

-- the refusal was written, or nothing was
abbrev pub TellsStop : Stop → SinkState → SinkState → Status → Type 0
TellsStop (Refused clause why) sink after told =
    Writes (status.Refused clause why) (refused_text clause why) sink after told
TellsStop ReadFault sink after told = (told ≡ status.ReadFault) × (after.taken ≡ sink.taken)
TellsStop NoMemory sink after told = (told ≡ status.NoMemory) × (after.taken ≡ sink.taken)
