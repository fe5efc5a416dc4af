-- What is due to a call decides how it ends.
use Rattle.std.proofs.Common.{◌≡◌, ◌∙◌, ◌<◌, ℕ, List, Option, Some, None, length, refl, sym, ap₂, subst, inl, inr}
use Rattle.tc_config.specs.Configurations.{Configuration}
use Rattle.tc_config.specs.Texts.{IsRefused, Spells}
use Rattle.tc_config.specs.declared.faults.ConfigCause.{ConfigCause}
use Rattle.tc_config.specs.declared.faults.ConfigCause.TheVariants as cause
use Rattle.tc_config.proofs.OneConfig.{one_refusal, spelt_or_refused}
use Rattle.tc_visits.specs.Service.{DoorState}
use Rattle.tucson.specs.declared.command.Command.{Command}
use Rattle.tucson.specs.declared.command.Command.TheVariants.{Run, Load, Serve, Verify}
use Rattle.tucson.specs.declared.status.Status.{Status}
use Rattle.tucson.specs.declared.status.Status.TheVariants.{Ended, WriteFault, Refused, Blocked, No, ReadFault, NoMemory, Usage, NetFault}
use Rattle.tucson.specs.Answer.{Input, Unread, Whole, TooLong, IsDue, IsDueForText, IsInput, IsOutcome, IsOutcomeOf, IsOutcomeOfService, ReadsInput, most_read}
use Rattle.tucson.specs.Ending.{Call, End, EndsAsDue, Ends, IsEndFor, IsEndOf, IsUnlessStopped, MustEnd, OfRun, OfService, With, IsEndOfVerdict, most_read_by}
use Rattle.tucson.proofs.Judged.{judged_ends, past_ends}

-- a text that is refused is refused for one clause and one cause, and spells nothing
refused_ends : (command : Command) (spelt : List ℕ) (clause : ℕ) (why : ConfigCause) → IsRefused spelt clause why
    → (end : End) → IsEndFor command spelt end → IsUnlessStopped end (Refused clause why)
refused_ends command spelt clause why refused (With (Refused other cause)) is =
    let same = one_refusal spelt clause other why cause refused is in
    inl (ap₂ Refused same.0 same.1)
refused_ends command spelt clause why refused (With Ended) is = absurd is
refused_ends command spelt clause why refused (With WriteFault) is = absurd is
refused_ends command spelt clause why refused (With Blocked) is = absurd is
refused_ends command spelt clause why refused (With No) is = absurd is
refused_ends command spelt clause why refused (With ReadFault) is = absurd is
refused_ends command spelt clause why refused (With NoMemory) is = absurd is
refused_ends command spelt clause why refused (With Usage) is = absurd is
refused_ends command spelt clause why refused (With NetFault) is = absurd is
refused_ends command spelt clause why refused OfRun is = absurd (spelt_or_refused spelt is.1.0 clause why is.1.1 refused)
refused_ends command spelt clause why refused OfService is = absurd (spelt_or_refused spelt is.1.0 clause why is.1.1 refused)

-- a text that spells a configuration isn't refused
spelt_ends : (command : Command) (spelt : List ℕ) (c : Configuration) (status : Status) → Spells spelt c
    → ((end : End) → IsEndOf command end → IsUnlessStopped end status) → (end : End) → IsEndFor command spelt end → IsUnlessStopped end status
spelt_ends command spelt c status spells ends (With (Refused clause why)) is = absurd (spelt_or_refused spelt c clause why spells is)
spelt_ends command spelt c status spells ends (With Ended) is = absurd is
spelt_ends command spelt c status spells ends (With WriteFault) is = absurd is
spelt_ends command spelt c status spells ends (With Blocked) is = absurd is
spelt_ends command spelt c status spells ends (With No) is = absurd is
spelt_ends command spelt c status spells ends (With ReadFault) is = absurd is
spelt_ends command spelt c status spells ends (With NoMemory) is = absurd is
spelt_ends command spelt c status spells ends (With Usage) is = absurd is
spelt_ends command spelt c status spells ends (With NetFault) is = absurd is
spelt_ends command spelt c status spells ends OfRun is = ends OfRun is.0
spelt_ends command spelt c status spells ends OfService is = ends OfService is.0

-- the outcome of a run, and that of a service
run_ends : (Are : _) (text_of : _) (status : Status) (told : List ℕ) → IsOutcomeOf Are text_of status told → IsUnlessStopped OfRun status
run_ends Are text_of Ended told is = inl (inl refl)
run_ends Are text_of Blocked told is = inl (inr refl)
run_ends Are text_of WriteFault told is = absurd is
run_ends Are text_of (Refused clause why) told is = absurd is
run_ends Are text_of No told is = absurd is
run_ends Are text_of ReadFault told is = absurd is
run_ends Are text_of NoMemory told is = absurd is
run_ends Are text_of Usage told is = absurd is
run_ends Are text_of NetFault told is = absurd is

service_ends : (door after : DoorState) (c : Configuration) (status : Status) (told : List ℕ) → IsOutcomeOfService door after c status told
    → IsUnlessStopped OfService status
service_ends door after c Ended told is = inl (inl refl)
service_ends door after c Blocked told is = inl (inr (inl refl))
service_ends door after c NetFault told is = inl (inr (inr refl))
service_ends door after c NoMemory told is = inr tt
service_ends door after c WriteFault told is = absurd is
service_ends door after c (Refused clause why) told is = absurd is
service_ends door after c No told is = absurd is
service_ends door after c ReadFault told is = absurd is
service_ends door after c Usage told is = absurd is

outcome_ends : (command : Command) (door after : DoorState) (rest : List ℕ) (c : Configuration) (status : Status) (told : List ℕ)
    → IsOutcome command door after rest c status told → (end : End) → IsEndOf command end → IsUnlessStopped end status
outcome_ends (Run workers) door after rest c status told is OfRun end_is = run_ends _ _ status told is
outcome_ends (Run workers) door after rest c status told is OfService end_is = absurd end_is
outcome_ends (Run workers) door after rest c status told is (With other) end_is = absurd end_is
outcome_ends (Load agents start) door after rest c status told is OfRun end_is = run_ends _ _ status told is
outcome_ends (Load agents start) door after rest c status told is OfService end_is = absurd end_is
outcome_ends (Load agents start) door after rest c status told is (With other) end_is = absurd end_is
outcome_ends (Serve port) door after rest c status told is OfRun end_is = absurd end_is
outcome_ends (Serve port) door after rest c status told is OfService end_is = service_ends door after c status told is
outcome_ends (Serve port) door after rest c status told is (With other) end_is = absurd end_is
outcome_ends Verify door after rest c status told is end end_is = absurd end_is

-- what is due for a text decides the end
text_ends : (command : Command) (door after : DoorState) (spelt rest : List ℕ) (status : Status) (told : List ℕ)
    → IsDueForText command door after spelt rest status told → (end : End) → IsEndFor command spelt end → IsUnlessStopped end status
text_ends command door after spelt rest (Refused clause why) told due = refused_ends command spelt clause why due.refused
text_ends command door after spelt rest Ended told due = spelt_ends command spelt due.config Ended due.spells (outcome_ends command door after rest due.config Ended told due.outcome)
text_ends command door after spelt rest WriteFault told due = spelt_ends command spelt due.config WriteFault due.spells (outcome_ends command door after rest due.config WriteFault told due.outcome)
text_ends command door after spelt rest Blocked told due = spelt_ends command spelt due.config Blocked due.spells (outcome_ends command door after rest due.config Blocked told due.outcome)
text_ends command door after spelt rest No told due = spelt_ends command spelt due.config No due.spells (outcome_ends command door after rest due.config No told due.outcome)
text_ends command door after spelt rest ReadFault told due = spelt_ends command spelt due.config ReadFault due.spells (outcome_ends command door after rest due.config ReadFault told due.outcome)
text_ends command door after spelt rest NoMemory told due = spelt_ends command spelt due.config NoMemory due.spells (outcome_ends command door after rest due.config NoMemory told due.outcome)
text_ends command door after spelt rest Usage told due = spelt_ends command spelt due.config Usage due.spells (outcome_ends command door after rest due.config Usage told due.outcome)
text_ends command door after spelt rest NetFault told due = spelt_ends command spelt due.config NetFault due.spells (outcome_ends command door after rest due.config NetFault told due.outcome)

-- an input that was too long is refused for that alone
abbrev IsLengthRefused : Command → Status → Type 0
IsLengthRefused command status = ReadsInput command × (status ≡ Refused 0 cause.Length)

length_refused : (command : Command) (door after : DoorState) (status : Status) (told : List ℕ) → IsDue (Some command) door after TooLong status told
    → IsLengthRefused command status
length_refused command door after (Refused clause cause.Length) told due = (due.0, ap₂ Refused due.1 refl)
length_refused command door after (Refused clause cause.Syntax) told due = absurd due
length_refused command door after (Refused clause cause.Size) told due = absurd due
length_refused command door after (Refused clause cause.Shape) told due = absurd due
length_refused command door after (Refused clause cause.Reaction) told due = absurd due
length_refused command door after (Refused clause cause.UnknownCentre) told due = absurd due
length_refused command door after (Refused clause cause.UnknownRole) told due = absurd due
length_refused command door after (Refused clause cause.UnknownAgent) told due = absurd due
length_refused command door after (Refused clause cause.Twice) told due = absurd due
length_refused command door after (Refused clause cause.NotGround) told due = absurd due
length_refused command door after (Refused clause cause.Count) told due = absurd due
length_refused command door after Ended told due = absurd due
length_refused command door after WriteFault told due = absurd due
length_refused command door after Blocked told due = absurd due
length_refused command door after No told due = absurd due
length_refused command door after ReadFault told due = absurd due
length_refused command door after NoMemory told due = absurd due
length_refused command door after Usage told due = absurd due
length_refused command door after NetFault told due = absurd due

long_ends : (command : Command) (spelt : List ℕ) (status : Status) → 16777216 < length spelt → status ≡ Refused 0 cause.Length
    → (end : End) → IsEndFor command spelt end → IsUnlessStopped end status
long_ends command spelt status past is end must =
    subst (IsUnlessStopped end) (sym is) (refused_ends command spelt 0 cause.Length (refl, past) end must)

-- what is due for what was read decides the end for what was left
command_ends : (command : Command) (door after : DoorState) (left rest : Option (List ℕ)) (input : Input) (status : Status) (told : List ℕ)
    → IsInput (most_read command) left rest input → IsDue (Some command) door after input status told → (end : End) → MustEnd (Some command) left end
    → IsUnlessStopped end status
command_ends (Load agents start) door after left rest Unread status told read due end must =
    text_ends (Load agents start) door after due.0 due.1 status told due.3 end (subst (λ spelt. IsEndFor (Load agents start) spelt end) (sym due.2.0) must)
command_ends (Load agents start) door after left rest (Whole input) status told read due end must = absurd due.2
command_ends (Load agents start) door after left rest TooLong status told read due end must =
    absurd (length_refused (Load agents start) door after status told due).0
command_ends (Run workers) door after None rest input status told read due end must = absurd must
command_ends (Run workers) door after (Some left) rest Unread status told read due end must = absurd due.2
command_ends (Run workers) door after (Some left) rest (Whole input) status told read due end must =
    text_ends (Run workers) door after due.0 due.1 status told due.3 end (subst (λ spelt. IsEndFor (Run workers) spelt end) (read.1 ∙ sym due.2.0) must)
command_ends (Run workers) door after (Some left) rest TooLong status told read due end must =
    long_ends (Run workers) left status read.0 (length_refused (Run workers) door after status told due).1 end must
command_ends (Serve port) door after None rest input status told read due end must = absurd must
command_ends (Serve port) door after (Some left) rest Unread status told read due end must = absurd due.2
command_ends (Serve port) door after (Some left) rest (Whole input) status told read due end must =
    text_ends (Serve port) door after due.0 due.1 status told due.3 end (subst (λ spelt. IsEndFor (Serve port) spelt end) (read.1 ∙ sym due.2.0) must)
command_ends (Serve port) door after (Some left) rest TooLong status told read due end must =
    long_ends (Serve port) left status read.0 (length_refused (Serve port) door after status told due).1 end must
command_ends Verify door after None rest input status told read due end must = absurd must
command_ends Verify door after (Some left) rest Unread status told read due end must = absurd due.2
command_ends Verify door after (Some left) rest (Whole input) status told read due end must =
    judged_ends input due.0 due.1 read.0 due.2 door after status told due.3 end (subst (λ (whole : List ℕ). IsEndOfVerdict whole end) read.1 must)
command_ends Verify door after (Some left) rest TooLong status told read due end must =
    past_ends left status read.0 (length_refused Verify door after status told due).1 end must

-- a call without a command ends as usage
usage_alone : (door after : DoorState) (input : Input) (status : Status) (told : List ℕ) → IsDue None door after input status told → status ≡ Usage
usage_alone door after Unread Usage told due = refl
usage_alone door after Unread Ended told due = absurd due
usage_alone door after Unread WriteFault told due = absurd due
usage_alone door after Unread (Refused clause why) told due = absurd due
usage_alone door after Unread Blocked told due = absurd due
usage_alone door after Unread No told due = absurd due
usage_alone door after Unread ReadFault told due = absurd due
usage_alone door after Unread NoMemory told due = absurd due
usage_alone door after Unread NetFault told due = absurd due
usage_alone door after (Whole input) status told due = absurd due
usage_alone door after TooLong status told due = absurd due

usage_ends : (left : Option (List ℕ)) (status : Status) → status ≡ Usage → (end : End) → MustEnd None left end → IsUnlessStopped end status
usage_ends left status is (With Usage) must = inl is
usage_ends left status is OfRun must = absurd must
usage_ends left status is OfService must = absurd must
usage_ends left status is (With (Refused clause why)) must = absurd must
usage_ends left status is (With Ended) must = absurd must
usage_ends left status is (With WriteFault) must = absurd must
usage_ends left status is (With Blocked) must = absurd must
usage_ends left status is (With No) must = absurd must
usage_ends left status is (With ReadFault) must = absurd must
usage_ends left status is (With NoMemory) must = absurd must
usage_ends left status is (With NetFault) must = absurd must

due_ends : (command : Option Command) (door after : DoorState) (left rest : Option (List ℕ)) (input : Input) (status : Status) (told : List ℕ)
    → IsInput (most_read_by command) left rest input → IsDue command door after input status told → (end : End) → MustEnd command left end → IsUnlessStopped end status
due_ends (Some command) door after left rest input status told read due = command_ends command door after left rest input status told read due
due_ends None door after left rest input status told read due = usage_ends left status (usage_alone door after input status told due)

-- a call that ends as its status says ends as it must
module _ (call : Call) where
  by_due : (status : Status) → EndsAsDue call status → (end : End) → MustEnd call.command call.source.left end → IsUnlessStopped end status
  by_due status is =
      due_ends call.command call.door call.door_after call.source.left call.source_after.left is.input status is.text is.read is.due

  pub ends_as_due : (status : Status) → Ends call status → (end : End) → MustEnd call.command call.source.left end → IsUnlessStopped end status
  ends_as_due Ended ends = by_due Ended ends
  ends_as_due Blocked ends = by_due Blocked ends
  ends_as_due No ends = by_due No ends
  ends_as_due (Refused clause why) ends = by_due (Refused clause why) ends
  ends_as_due Usage ends = by_due Usage ends
  ends_as_due NetFault ends = by_due NetFault ends
  ends_as_due WriteFault ends = λ end must. inr tt
  ends_as_due ReadFault ends = λ end must. inr tt
  ends_as_due NoMemory ends = λ end must. inr tt
